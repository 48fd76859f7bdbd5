-- The search for an item that is not apart.
use Rattle.rb_trees.proofs.Words.{◌≡◌, ℕ, true, false, cond, List, ◌∷◌, ◌++◌, refl, sym, ◌∙◌, ap}
use Rattle.rb_trees.proofs.Words.{◌==◌, ◌||◌, not, list_any, or-false, Item, Order, Precedes}
use Rattle.rb_trees.proofs.Words.{IsLawful, IsInLine, IsTable, meets, without_all, all_weaker}
use Rattle.rb_trees.proofs.Words.{ColouredTree, tip, branch, rows, items_of_records}
use Rattle.rb_trees.proofs.Words.{meets_on_the_way, meets_anywhere, Bool}
use Rattle.order_laws.proofs.MeetLemmas.{meets_split, meets_none, apart_head, any_head}
use Rattle.order_laws.proofs.MeetLemmas.{meeting_head}
use Rattle.rb_trees.proofs.PlaceRows.{parts, items_append}
use Rattle.std.proofs.Common.{arith}
use Rattle.std.proofs.lemmas.Bool.Decides.{nat_tests}

module _ {K : Type 0} (o : Order K) (i : Item) (but : List ℕ) where
  abbrev Meets : List Item → Bool
  Meets js = meets o i (without_all but js)

  abbrev gone : Item → Bool
  gone z = list_any (λ a. a == z.a) but

  pub met_any_meets : (t : ColouredTree)
      → meets_anywhere o i but t ≡ meets o i (without_all but (items_of_records (rows t)))
  met_any_meets tip = refl
  met_any_meets (branch red l y r) =
      grind (
        arith,
        nat_tests,
        met_any_meets l,
        met_any_meets r,
        items_append,
        meets_split,
        any_head,
      )

  module _ (law : IsLawful o) (line : IsInLine o) (valid : o.valid i ≡ true) where
    apart_above : (y z : Item) → Precedes o y z → o.apart y i ≡ true → o.less i y ≡ true
        → o.apart z i ≡ true
    apart_above y z p a l = grind (arith, nat_tests)

    apart_below : (y z : Item) → Precedes o z y → o.apart y i ≡ true → o.less i y ≡ false
        → o.apart z i ≡ true
    apart_below y z p a l = grind (arith, nat_tests)

    pub met_meets : (t : ColouredTree) → IsTable o (items_of_records (rows t))
        → meets_on_the_way o i but t ≡ meets o i (without_all but (items_of_records (rows t)))
    met_meets tip t = refl
    met_meets (branch red l y r) t =
        let p = parts o (rows l) y (rows r) t in
        let is = items_of_records (rows l) in
        let js = items_of_records (rows r) in
        let il = met_meets l p.left in
        let ir = met_meets r p.right in
        let split : Meets (items_of_records (rows l ++ y ∷ rows r))
        ≡ (Meets is || Meets (y.item ∷ js)) =
        ap Meets (items_append (rows l) (y ∷ rows r)) ∙ meets_split o i but is (y.item ∷ js) in
        elim (o.apart y.item i) as (λ v. o.apart y.item i ≡ v → cond v
        (cond (o.less i y.item) (meets_on_the_way o i but l) (meets_on_the_way o i but r))
        (not (gone y.item) || (meets_on_the_way o i but l || meets_on_the_way o i but r))
        ≡ Meets (items_of_records (rows l ++ y ∷ rows r))) [
          | true ↦ λ a.
              elim (o.less i y.item) as (λ v. o.less i y.item ≡ v
              → cond v (meets_on_the_way o i but l) (meets_on_the_way o i but r)
              ≡ Meets (items_of_records (rows l ++ y ∷ rows r))) [
                | true ↦ λ b.
                    let none : Meets (y.item ∷ js) ≡ false = meets_none o i but (y.item ∷ js) (
                      a,
                      all_weaker (Precedes o y.item) (λ z. o.apart z i ≡ true)
                          (λ z q. apart_above y.item z q a b) js p.behind,
                    ) in
                    il ∙ sym (split ∙ ap (λ v. Meets is || v) none ∙ or-false (Meets is))
                | false ↦ λ b.
                    let none : Meets is ≡ false =
                    meets_none o i but is (all_weaker (λ z. Precedes o z y.item) (λ z.
                    o.apart z i ≡ true) (λ z q. apart_below y.item z q a b) is p.before) in
                    ir ∙ sym (split ∙ ap (λ v. v || Meets (y.item ∷ js)) none
                    ∙ apart_head o i but y.item js a)
              ] refl
          | false ↦ λ a. ap (λ v. not (gone y.item) || (v || meets_on_the_way o i but r)) il
              ∙ ap (λ v. not (gone y.item) || (Meets is || v)) ir
              ∙ meeting_head o i but y.item is js a ∙ sym split
        ] refl
