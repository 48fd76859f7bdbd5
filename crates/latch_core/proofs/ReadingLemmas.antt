-- Readings in one memory.
use Rattle.latch_core.proofs.Words.{◌≡◌, ℕ, suc, zero, ◌<◌, ◌≤◌, List, [], ◌∷◌, ◌++◌, length, Some}
use Rattle.latch_core.proofs.Words.{refl, ◌∙◌, ap, subst, arith, length-append, at, Outcome}
use Rattle.latch_core.proofs.Words.{Reading, Load, Ends, rest_after, Stand, outcome_in, loads_in}
use Rattle.latch_core.proofs.Words.{nat_tests}

-- each word that it loads there is such a word
abbrev pub AllLoads : List ℕ → (ℕ → Type 0) → Reading → Type 0
AllLoads m P (Load w go) = P w × AllLoads m P (go (at m w))
AllLoads m P (Ends out) = Unit {0}

-- it ends after at most b loads, whatever the values are
abbrev pub Within : ℕ → Reading → Type 0
Within b (Ends out) = Unit {0}
Within zero (Load w go) = ⊥
Within (suc b) (Load w go) = (x : ℕ) → Within b (go x)

pub ends_as : (m : List ℕ) (r : Reading) (v : List ℕ) (out : Outcome) → Stand m r v
    → rest_after r v ≡ Some (Ends out) → (out ≡ outcome_in m r) × (length v ≡ loads_in m r)
ends_as m (Load w go) [] out st e = absurd (cc)
ends_as m (Ends o) [] out st e = (cc, refl)
ends_as m (Load w go) (x ∷ v) out st e = grind (arith, nat_tests, ends_as m (go x) v out st.1 e)
ends_as m (Ends o) (x ∷ v) out st e = absurd st

pub loads_so_far : (m : List ℕ) (r : Reading) (v : List ℕ) → Stand m r v → length v ≤ loads_in m r
loads_so_far m r [] st = omega arith
loads_so_far m (Load w go) (x ∷ v) st = grind (arith, nat_tests, loads_so_far m (go x) v st.1)
loads_so_far m (Ends o) (x ∷ v) st = absurd st

-- what stands in one memory stands in another that has the same in each word that is loaded
pub stand_on : (m m' : List ℕ) (P : ℕ → Type 0) (same : (w : ℕ) → P w → at m' w ≡ at m w)
    (r : Reading) (v : List ℕ) → AllLoads m P r → Stand m r v → Stand m' r v
stand_on m m' P same r [] a st = tt
stand_on m m' P same (Load w go) (x ∷ v) a st = (
  same w a.0 ∙ st.0,
  stand_on m m' P same (go x) v (subst (λ y. AllLoads m P (go y)) st.0 a.1) st.1,
)
stand_on m m' P same (Ends o) (x ∷ v) a st = absurd st

-- one value more
pub rest_push : (r : Reading) (v : List ℕ) (w : ℕ) (go : ℕ → Reading) (x : ℕ)
    → rest_after r v ≡ Some (Load w go) → rest_after r (v ++ x ∷ []) ≡ Some (go x)
rest_push (Load w' go') [] w go x e = let g : go' ≡ go = cc in ap (λ f. Some (f x)) g
rest_push (Ends o) [] w go x e = absurd (cc)
rest_push (Load w' go') (y ∷ v) w go x e = rest_push (go' y) v w go x e
rest_push (Ends o) (y ∷ v) w go x e = absurd (cc)

pub stand_push : (m : List ℕ) (r : Reading) (v : List ℕ) (w : ℕ) (go : ℕ → Reading) (x : ℕ)
    → rest_after r v ≡ Some (Load w go) → Stand m r v → at m w ≡ x → Stand m r (v ++ x ∷ [])
stand_push m (Load w' go') [] w go x e st is = let g : w' ≡ w = cc in (ap (at m) g ∙ is, tt)
stand_push m (Ends o) [] w go x e st is = absurd (cc)
stand_push m (Load w' go') (y ∷ v) w go x e st is = (st.0, stand_push m (go' y) v w go x e st.1 is)
stand_push m (Ends o) (y ∷ v) w go x e st is = absurd (cc)

pub within_length : (b : ℕ) (r : Reading) (v : List ℕ) (r' : Reading) → Within b r
    → rest_after r v ≡ Some r' → length v ≤ b
within_length b r [] r' h e = omega arith
within_length zero (Load w go) (x ∷ v) r' h e = absurd h
within_length (suc b) (Load w go) (x ∷ v) r' h e =
    omega (arith, within_length b (go x) v r' (h x) e)
within_length b (Ends o) (x ∷ v) r' h e = absurd (cc)

pub loads_below : (m : List ℕ) (r : Reading) (v : List ℕ) (w : ℕ) (go : ℕ → Reading) → Stand m r v
    → rest_after r v ≡ Some (Load w go) → length v < loads_in m r
loads_below m r v w go st e = omega (
  arith,
  loads_so_far m r (v ++ at m w ∷ []) (stand_push m r v w go (at m w) e st refl),
  length-append v (at m w ∷ []),
)

pub within_below : (b : ℕ) (r : Reading) (v : List ℕ) (w : ℕ) (go : ℕ → Reading) → Within b r
    → rest_after r v ≡ Some (Load w go) → length v < b
within_below b r v w go h e = omega (
  arith,
  within_length b r (v ++ 0 ∷ []) (go 0) h (rest_push r v w go 0 e),
  length-append v (0 ∷ []),
)
