-- An attempt whose loads are steps of somebody who learns by them.
use Rattle.std.specs.Prelude.{◌≡◌, ℕ, ◌+◌, ◌<◌, List, [], ◌∷◌, ◌++◌, length}
use Rattle.order_laws.specs.Orders.{Order}
use Rattle.latch_core.specs.Attempts.{Outcome, Reading, Load, Ends, WalkEnd, AtItem, AtEmptyLink}
use Rattle.latch_core.specs.Attempts.{Stuck, outcome, last_load, attempt_after, IsAttempt}
use Rattle.latch_core.specs.declared.attempts.WalkResult.{WalkResult}
use Rattle.latch_core.specs.declared.attempts.WalkResult.TheVariants.{At, Nowhere, Lost}

-- how a walk ended
abbrev pub found_by : WalkResult → WalkEnd
found_by (At item) = AtItem item
found_by Nowhere = AtEmptyLink
found_by Lost = Stuck

module _ {S : Type 0} (gives : S → ℕ → ℕ → S → Type 0) where
  -- loads with these values lead from here to there, and leave so much of the reading
  abbrev pub Leads : S → Reading → List ℕ → S → Reading → Type 0
  Leads s r [] s' r' = (s' ≡ s) × (r' ≡ r)
  Leads s (Load w go) (x ∷ v) s' r' = (m : S) × gives s w x m × Leads m (go x) v s' r'
  Leads s (Ends out) (x ∷ v) s' r' = ⊥

-- wherever such loads lead, the next may be made, and the sequence may be loaded again
pub record IsReady {S : Type 0} (can : S → ℕ → Type 0) (gives : S → ℕ → ℕ → S → Type 0)
    (can_end : S → Type 0) (s : S) (r : Reading) : Type 0 where
  pub loads : (v : List ℕ) (m : S) (w : ℕ) (go : ℕ → Reading) → Leads gives s r v m (Load w go)
      → 0 < w → can m w
  pub ends : (v : List ℕ) (m : S) (r' : Reading) → Leads gives s r v m r' → can_end m

-- `count` loads led from here to there, and leave this of the reading; one more was made before
pub record HasLoaded {S : Type 0} (gives : S → ℕ → ℕ → S → Type 0) (s : S) (r : Reading) (m : S)
    (left : Reading) (loads : ℕ) : Type 0 where
  pub values : List ℕ
  pub leads : Leads gives s r values m left
  pub counted : length values + 1 ≡ loads

module _ {S K : Type 0} (gives : S → ℕ → ℕ → S → Type 0) (ends : S → ℕ → S → Type 0) (o : Order K)
    (n : ℕ) where
  -- a whole attempt: a walk, and the second reading of the sequence
  pub record HasTried (k : K) (first : ℕ) (s s' : S) (out : Outcome) (loads : ℕ) : Type 0 where
    pub values : List ℕ
    pub last : ℕ
    pub whole : IsAttempt o n k (first ∷ (values ++ last ∷ [])) out
    pub m : S
    pub found : WalkEnd
    pub leads : Leads gives s (attempt_after o n k first) values m (last_load first found)
    pub ended : ends m last s'
    pub comes_to : out ≡ outcome first last found
    pub counted : length values + 2 ≡ loads
