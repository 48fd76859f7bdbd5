-- The first test that holds, of a list after another, and a table without no item or one.
use Rattle.plain_updates.proofs.Words.{◌≡◌, true, false, cond, List, [], ◌∷◌, ◌++◌, Some, None}
use Rattle.plain_updates.proofs.Words.{refl, Test, first_that_holds}
use Rattle.order_laws.specs.declared.refusals.Refusal.{Refusal}
use Rattle.order_laws.proofs.PlaceLemmas.{without_none, without_one}

pub none_then : (tests more : List Test) → first_that_holds tests ≡ None
    → first_that_holds (tests ++ more) ≡ first_that_holds more
none_then [] more e = refl
none_then (t ∷ rest) more e =
    elim t.0 as (λ b. cond b (Some t.1) (first_that_holds rest) ≡ None
    → cond b (Some t.1) (first_that_holds (rest ++ more)) ≡ first_that_holds more) [
      | true ↦ λ f. absurd (cc)
      | false ↦ λ f. none_then rest more f
    ] e

pub some_then : (tests more : List Test) (r : Refusal) → first_that_holds tests ≡ Some r
    → first_that_holds (tests ++ more) ≡ Some r
some_then [] more r e = absurd (cc)
some_then (t ∷ rest) more r e =
    elim t.0 as (λ b. cond b (Some t.1) (first_that_holds rest) ≡ Some r
    → cond b (Some t.1) (first_that_holds (rest ++ more)) ≡ Some r) [
      | true ↦ λ f. f
      | false ↦ λ f. some_then rest more r f
    ] e

pub ruleset without_few = (without_none, without_one)
