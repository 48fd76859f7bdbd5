-- The first test of a list that holds.
use Rattle.latch_core.proofs.Words.{◌≡◌, ◌≢◌, ℕ, ◌+◌, ◌≤◌, true, false, cond, List, [], ◌∷◌, ◌++◌}
use Rattle.latch_core.proofs.Words.{length, Some, None, refl, Bool, nat_lt, AllByRecursion}
use Rattle.latch_core.proofs.Words.{UpdateInHand, SequenceSpent, OutOfMemory, Order, Item, Update}
use Rattle.latch_core.proofs.Words.{Insert, Erase, Batch, Test, first_that_holds, tests_of}
use Rattle.latch_core.proofs.Words.{refusal_for, eqb-false_wider, ltb-false_wider, nat_tests, arith}
use Rattle.order_laws.specs.declared.refusals.Refusal.{Refusal}

-- a list of which no test holds, and one whose first test holds
pub none_holds : (tests : List Test) → first_that_holds tests ≡ None
    → AllByRecursion (λ (t : Test). t.0 ≡ false) tests
none_holds [] e = tt
none_holds (t ∷ rest) e =
    elim t.0 as (λ b. t.0 ≡ b → cond b (Some t.1) (first_that_holds rest) ≡ None
    → (t.0 ≡ false) × AllByRecursion (λ (t : Test). t.0 ≡ false) rest) [
      | true ↦ λ is f. absurd (cc)
      | false ↦ λ is f. (is, none_holds rest f)
    ] refl e

-- no test stands for a refusal that no test of the list stands for
pub never_told : (r : Refusal) (tests : List Test) → AllByRecursion (λ (t : Test). t.1 ≢ r) tests
    → first_that_holds tests ≡ Some r → ⊥
never_told r [] h e = absurd (cc)
never_told r (t ∷ rest) h e =
    elim t.0 as (λ b. cond b (Some t.1) (first_that_holds rest) ≡ Some r → ⊥) [
      | true ↦ λ f. h.0 (let same : t.1 ≡ r = cc in same)
      | false ↦ λ f. never_told r rest h.1 f
    ] e

-- all tests of an update
abbrev pub all_tests : {K : Type 0} → Order K → ℕ → ℕ → Bool → List Item → ℕ → Update → List Test
all_tests o n limit busy table seq u =
    (busy, UpdateInHand) ∷ tests_of o n table u ++ (nat_lt limit (seq + 2), SequenceSpent) ∷ []

abbrev pub NoneHolds : List Test → Type 0
NoneHolds tests = AllByRecursion (λ (t : Test). t.0 ≡ false) tests

abbrev Other : List Test → Type 0
Other tests = AllByRecursion (λ (t : Test). t.1 ≢ OutOfMemory) tests

-- no update is refused as out of memory by its tests
pub never_for_memory : {K : Type 0} (o : Order K) (n limit : ℕ) (busy : Bool) (table : List Item)
    (seq : ℕ) (u : Update) → refusal_for o n limit busy table seq u ≡ Some OutOfMemory → ⊥
never_for_memory o n limit busy table seq u e =
    never_told OutOfMemory (all_tests o n limit busy table seq u) (other u) e
  where
    other : (v : Update) → Other (all_tests o n limit busy table seq v)
    other (Insert i) = (
      (λ f. absurd (cc)),
      ((λ f. absurd (cc)), ((λ f. absurd (cc)), ((λ f. absurd (cc)), ((λ f. absurd (cc)), tt)))),
    )
    other (Erase a) = ((λ f. absurd (cc)), ((λ f. absurd (cc)), ((λ f. absurd (cc)), tt)))
    other (Batch erase insert) = (
      (λ f. absurd (cc)),
      (
        (λ f. absurd (cc)),
        ((λ f. absurd (cc)), ((λ f. absurd (cc)), ((λ f. absurd (cc)), ((λ f. absurd (cc)), tt)))),
      ),
    )

-- an update that nothing stands against, where there is no more than n items, is not refused with
-- more nodes and a greater limit
pub none_wider : {K : Type 0} (o : Order K) (n n' limit limit' seq : ℕ) (table : List Item)
    (u : Update) → n ≤ n' → limit ≤ limit' → length table ≤ n
    → refusal_for o n limit false table seq u ≡ None
    → refusal_for o n' limit' false table seq u ≡ None
none_wider o n n' limit limit' seq table (Insert i) more later few e =
    grind (arith, nat_tests, none_holds, eqb-false_wider, ltb-false_wider)
none_wider o n n' limit limit' seq table (Erase a) more later few e =
    grind (arith, nat_tests, none_holds, ltb-false_wider)
none_wider o n n' limit limit' seq table (Batch erase insert) more later few e =
    grind (arith, nat_tests, none_holds, ltb-false_wider)
