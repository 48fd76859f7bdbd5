-- How a reader looks a key up: by one load at a time, whose next step depends on its key and
-- on the values that it has loaded, and on nothing else.
use Rattle.std.specs.Prelude.{◌≡◌, ℕ, zero, suc, List, [], ◌∷◌, Option, Some, None, if◌then◌else◌}
use Rattle.std.specs.Prelude.{◌==◌, nat_lt}
use Rattle.std.specs.declared.cmp.Ordering.{Ordering}
use Rattle.std.specs.declared.cmp.Ordering.TheVariants.{Less, Equal, Greater}
use Rattle.order_laws.specs.declared.items.Item.{Item}
use Rattle.order_laws.specs.Orders.{Order}
use Rattle.word_layout.specs.Words.{root_word, a_word, b_word, tag_word, left_word, right_word, at}
use Rattle.latch_core.specs.Sequences.{generation_of, stable_copy_of}

-- what an attempt came to: an answer with its generation, or another attempt
pub data Outcome : Type 0 where
  Answer : Option Item → ℕ → Outcome
  Again : Outcome

-- what is left of an attempt: a word to load, and how it goes on with the value; or its end
pub data Reading : Type 0 where
  Load : ℕ → (ℕ → Reading) → Reading
  Ends : Outcome → Reading

-- how a walk ended: at an item, at link 0, or stuck
pub data WalkEnd : Type 0 where
  AtItem : Item → WalkEnd
  AtEmptyLink : WalkEnd
  Stuck : WalkEnd

-- the outcome, by the first and the last number
abbrev pub outcome : ℕ → ℕ → WalkEnd → Outcome
outcome s t Stuck = Again
outcome s t (AtItem x) = if s == t then Answer (Some x) (generation_of s) else Again
outcome s t AtEmptyLink = if s == t then Answer None (generation_of s) else Again

-- the second reading of the sequence
abbrev pub last_load : ℕ → WalkEnd → Reading
last_load s found = Load 0 (λ t. Ends (outcome s t found))

-- the link by which a walk goes on from an item
abbrev pub after_item : ℕ → ℕ → Item → (ℕ → Reading) → Ordering → Reading
after_item s i x go Less = Load (left_word (stable_copy_of s) i) go
after_item s i x go Equal = last_load s (AtItem x)
after_item s i x go Greater = Load (right_word (stable_copy_of s) i) go

-- one node: the words of its item, one after another
abbrev pub after_b : {K : Type 0} → Order K → K → ℕ → ℕ → (ℕ → Reading) → ℕ → ℕ → Reading
after_b o k s i go a b =
    Load (tag_word i) (λ tag.
    let x : Item = record { a = a; b = b; tag = tag } in
    after_item s i x go (o.comp k x))

abbrev pub after_a : {K : Type 0} → Order K → K → ℕ → ℕ → (ℕ → Reading) → ℕ → Reading
after_a o k s i go a = Load (b_word i) (after_b o k s i go a)

abbrev pub visit : {K : Type 0} → Order K → K → ℕ → ℕ → (ℕ → Reading) → Reading
visit o k s i go = Load (a_word i) (after_a o k s i go)

-- a walk that begins at a link, with at most `left` visits
abbrev pub walk : {K : Type 0} → Order K → ℕ → K → ℕ → ℕ → ℕ → Reading
walk o n k s visits zero = last_load s AtEmptyLink
walk o n k s zero (suc i) = last_load s Stuck
walk o n k s (suc visits) (suc i) =
    if nat_lt i n then visit o k s i (walk o n k s visits) else last_load s Stuck

-- what is left of an attempt that read the sequence s, at a capacity of n nodes
abbrev pub attempt_after : {K : Type 0} → Order K → ℕ → K → ℕ → Reading
attempt_after o n k s = Load (root_word (stable_copy_of s)) (walk o n k s n)

-- one attempt
abbrev pub attempt : {K : Type 0} → Order K → ℕ → K → Reading
attempt o n k = Load 0 (attempt_after o n k)

-- what is left after these values were loaded; none if there are values after the end
abbrev pub rest_after : Reading → List ℕ → Option Reading
rest_after r [] = Some r
rest_after (Load w go) (x ∷ v) = rest_after (go x) v
rest_after (Ends out) (x ∷ v) = None

-- these values make a whole attempt with this outcome
abbrev pub IsAttempt : {K : Type 0} → Order K → ℕ → K → List ℕ → Outcome → Type 0
IsAttempt o n k v out = rest_after (attempt o n k) v ≡ Some (Ends out)

-- each of the values that were loaded is in its word
abbrev pub Stand : List ℕ → Reading → List ℕ → Type 0
Stand m r [] = Unit {0}
Stand m (Load w go) (x ∷ v) = (at m w ≡ x) × Stand m (go x) v
Stand m (Ends out) (x ∷ v) = ⊥
