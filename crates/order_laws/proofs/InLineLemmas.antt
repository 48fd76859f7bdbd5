-- Items of an order in line: what comes first, and what lies beyond a neighbour.
use Rattle.order_laws.proofs.Words.{◌≡◌, ◌≤◌, true, List, [], ◌∷◌, ◌∙◌, arith}
use Rattle.order_laws.proofs.Words.{AllByRecursion, Item, Order, Precedes, IsLawful, IsInLine}
use Rattle.std.proofs.lemmas.Bool.Decides.{nat_tests}

module _ {K : Type 0} (o : Order K) (law : IsLawful o) (line : IsInLine o) where
  pub precedes : (x y : Item) → o.valid x ≡ true → o.valid y ≡ true → o.apart x y ≡ true → x.a ≤ y.a
      → Precedes o x y
  precedes x y vx vy ap' le = grind (arith, nat_tests)

  pub beyond : (x y : Item) (rest : List Item) → Precedes o x y → o.valid y ≡ true
      → AllByRecursion (λ i. o.valid i ≡ true) rest → AllByRecursion (λ z. y.a ≤ z.a) rest
      → AllByRecursion (λ z. o.apart z y ≡ true) rest
      → AllByRecursion (λ z. o.apart z x ≡ true) rest
  beyond x y [] p vy v l a = tt
  beyond x y (z ∷ rest) p vy v l a = (
    law.symmetric z x
        ∙ line.apart_beyond x y z p (precedes y z vy v.0 (law.symmetric y z ∙ a.0) l.0),
    beyond x y rest p vy v.1 l.1 a.1,
  )
