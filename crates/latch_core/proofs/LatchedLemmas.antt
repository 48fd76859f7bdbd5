-- What a reader has loaded stands through each step of the writer, and leads to words that are
-- kept.
use Rattle.latch_core.proofs.Words.{◌≡◌, ℕ, ◌+◌, ◌<◌, ◌≤◌, List, [], ◌∷◌, ◌++◌, length, Some, refl}
use Rattle.latch_core.proofs.Words.{sym, ◌∙◌, ap, subst, inl, inr, ⊎_elim, arith, Order, IsLawful}
use Rattle.latch_core.proofs.Words.{look, reaches_on, Store, at, InUse, words_after, generation_of}
use Rattle.latch_core.proofs.Words.{stable_copy_of, Reading, Load, Ends, Outcome, Answer, attempt}
use Rattle.latch_core.proofs.Words.{rest_after, IsAttempt, Stand, replay, Update, PendingUpdate}
use Rattle.latch_core.proofs.Words.{Latch, IsHidden, IsWriterStep, loads_of, IsKept, StandAll}
use Rattle.latch_core.proofs.Words.{IsSteady, IsLatched}
use Rattle.std.proofs.Common.{◌*◌}
use Rattle.latch_core.proofs.ReadingLemmas.{AllLoads}
use Rattle.latch_core.proofs.SoundLemmas.{hidden_same, attempt_uses, sequence_after}
use Rattle.latch_core.proofs.WalkLemmas.{attempt_answers, attempt_loads}

-- a store that is hidden from readers leaves what is kept
kept_hidden : (n : ℕ) (m began : List ℕ) (s : Store) → IsHidden n m began s.word → (w : ℕ)
    → IsKept n m w → IsKept n (words_after m s) w
kept_hidden n m began s hid w kept =
    let same = hidden_same n m began s hid in
    let sequence : at (words_after m s) 0 ≡ at m 0 = same 0 (inl refl) in
    ⊎_elim (λ z. inl z)
    (λ u. inr (subst (λ q. InUse (words_after m s) n (stable_copy_of q) w) (sym sequence)
    (⊎_elim (λ e. inl e) (λ (i, r, is). inr (
      i,
      reaches_on m (words_after m s) n (stable_copy_of (at m 0)) (λ v q. same v (inr q)) i r,
      is,
    )) u)))
    kept

stand_hidden : (n : ℕ) (m began : List ℕ) (s : Store) → IsHidden n m began s.word
    → (ls : List (ℕ × ℕ)) → StandAll n m ls → StandAll n (words_after m s) ls
stand_hidden n m began s hid [] st = tt
stand_hidden n m began s hid (l ∷ ls) st = (
  kept_hidden n m began s hid l.0 st.0,
  hidden_same n m began s hid l.0 st.0 ∙ st.1,
  stand_hidden n m began s hid ls st.2,
)

-- the loads of an attempt stand through each step of the writer
pub steady_step : (n : ℕ) (l : Latch) (h : PendingUpdate) (s : Store) → 0 < length l.words
    → IsWriterStep n l h s → (ls : List (ℕ × ℕ)) → IsSteady n l.words ls
    → IsSteady n (words_after l.words s) ls
steady_step n l h s sized may [] st = tt
steady_step n l h s sized may (x ∷ ls) st =
    ⊎_elim
    (λ (hid, e). (
      omega (arith, st.0, e),
      λ is. stand_hidden n l.words h.old_words s hid (x ∷ ls) (st.1 (is ∙ e)),
    ))
    (λ e. let le = st.0 in (omega arith, λ is. absurd (omega arith)))
    (sequence_after n l h s sized may)

pub stand_end : (n : ℕ) (m : List ℕ) (w : ℕ) → IsKept n m w → (ls : List (ℕ × ℕ)) → StandAll n m ls
    → StandAll n m (ls ++ (w, at m w) ∷ [])
stand_end n m w kept [] st = (kept, refl, tt)
stand_end n m w kept (l ∷ ls) st = (st.0, st.1, stand_end n m w kept ls st.2)

-- and through a load of a word that is kept
pub steady_load : (n : ℕ) (m : List ℕ) (w : ℕ) (l : ℕ × ℕ) (ls : List (ℕ × ℕ))
    → (StandAll n m (l ∷ ls) → IsKept n m w) → IsSteady n m (l ∷ ls)
    → IsSteady n m (l ∷ (ls ++ (w, at m w) ∷ []))
steady_load n m w l ls kept st = (st.0, λ is. stand_end n m w (kept (st.1 is)) (l ∷ ls) (st.1 is))

pub steady_first : (n : ℕ) (m : List ℕ) → IsSteady n m ((0, at m 0) ∷ [])
steady_first n m = (omega arith, λ is. (inl refl, refl, tt))

-- the values of loads that stand are values that stand
pub stand_values : (n : ℕ) (m : List ℕ) (r : Reading) (v : List ℕ) (r' : Reading)
    → rest_after r v ≡ Some r' → StandAll n m (loads_of r v) → Stand m r v
stand_values n m r [] r' e st = tt
stand_values n m (Load w go) (x ∷ v) r' e st = (st.1, stand_values n m (go x) v r' e st.2)
stand_values n m (Ends out) (x ∷ v) r' e st = absurd (cc)

-- what was loaded leads to a word of which the same is known as of all
leads_to : (m : List ℕ) (P : ℕ → Type 0) (r : Reading) (v : List ℕ) (w : ℕ) (go : ℕ → Reading)
    → AllLoads m P r → Stand m r v → rest_after r v ≡ Some (Load w go) → P w
leads_to m P (Load w' go') [] w go a st e = let g : w' ≡ w = cc in subst P g a.0
leads_to m P (Ends out) [] w go a st e = absurd (cc)
leads_to m P (Load w' go') (x ∷ v) w go a st e =
    leads_to m P (go' x) v w go (subst (λ y. AllLoads m P (go' y)) st.0 a.1) st.1 e
leads_to m P (Ends out) (x ∷ v) w go a st e = absurd st

-- the word that an attempt wants next is kept, wherever what it has loaded stands
pub wanted_kept : {K : Type 0} (o : Order K) (n : ℕ) (k : K) (m : List ℕ) (v : List ℕ) (w : ℕ)
    (go : ℕ → Reading) → rest_after (attempt o n k) v ≡ Some (Load w go)
    → StandAll n m (loads_of (attempt o n k) v) → IsKept n m w
wanted_kept o n k m v w go e st =
    leads_to m (IsKept n m) (attempt o n k) v w go (attempt_uses o m n k)
    (stand_values n m (attempt o n k) v (Load w go) e st) e

-- one value more is one load more
pub loads_push : (r : Reading) (v : List ℕ) (w : ℕ) (go : ℕ → Reading) (x : ℕ)
    → rest_after r v ≡ Some (Load w go) → loads_of r (v ++ x ∷ []) ≡ loads_of r v ++ (w, x) ∷ []
loads_push (Load w' go') [] w go x e = let g : w' ≡ w = cc in ap (λ y. (y, x) ∷ []) g
loads_push (Ends out) [] w go x e = absurd (cc)
loads_push (Load w' go') (y ∷ v) w go x e = ap (λ ls. (w', y) ∷ ls) (loads_push (go' y) v w go x e)
loads_push (Ends out) (y ∷ v) w go x e = absurd (cc)

-- an attempt that loaded what stands in a latch gives what its table has
pub latched_answers : {K : Type 0} (o : Order K) → IsLawful o
    → (n base : ℕ) (k : K) (m : List ℕ) (known : List Update) (v : List ℕ) (out : Outcome)
    → IsLatched o n base m known → IsAttempt o n k v out
    → StandAll n m (loads_of (attempt o n k) v)
    → (out ≡ Answer (look o k (replay o [] known)) (generation_of (at m 0)))
    × (length v ≤ 4 * length (replay o [] known) + 3)
latched_answers o law n base k m known v out latched whole st =
    let stand : Stand m (attempt o n k) v =
    stand_values n m (attempt o n k) v (Ends out) whole st in
    let table = replay o [] known in (
      attempt_answers o law m n k table latched.holds.0 latched.holds.1 latched.is_table
          latched.fits v out stand whole,
      attempt_loads o law m n k table latched.holds.0 latched.holds.1 latched.is_table latched.fits
          v stand,
    )
