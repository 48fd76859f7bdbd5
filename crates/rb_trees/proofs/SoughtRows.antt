-- A search for a first word comes to the record of that first word, by first words or by the order
-- of the item.
use Rattle.rb_trees.proofs.Words.{◌≡◌, ◌≢◌, ℕ, ◌<◌, ◌≤◌, true, false, cond, List, [], ◌∷◌, ◌++◌}
use Rattle.rb_trees.proofs.Words.{Option, Some, None, refl, sym, ◌∙◌, ap, subst, ⊎_elim, arith}
use Rattle.rb_trees.proofs.Words.{◌==◌, ◌||◌, not, nat_lt, is_some, Contains, AllByRecursion}
use Rattle.rb_trees.proofs.Words.{eqb-true, ne_eqb, ltb-true, ltb-false, Contains-append_cases}
use Rattle.rb_trees.proofs.Words.{Contains-append_left, Contains-append_right, Ordering, Less}
use Rattle.rb_trees.proofs.Words.{Equal, Greater, or-true, Item, Order, Precedes, IsLawful}
use Rattle.rb_trees.proofs.Words.{IsInLine, IsTable, has, parted, all_at, all_weaker}
use Rattle.rb_trees.proofs.Words.{Contains-cons_cases, Contains-rest, Lacks, has_front, has_back}
use Rattle.rb_trees.proofs.Words.{across, all_before, differs, differs_before, Record, ColouredTree}
use Rattle.rb_trees.proofs.Words.{tip, branch, rows, first_word_at, item_lies, record_found_at}
use Rattle.rb_trees.proofs.Words.{found, items_of_records, first_item_of, item_with_word, Bool}
use Rattle.rb_trees.proofs.Words.{eq-eqb}
use Rattle.order_laws.proofs.WithoutLemmas.{has_either}
use Rattle.rb_trees.proofs.PlaceRows.{items_append, parts}
use Rattle.std.proofs.lemmas.Bool.Decides.{nat_tests}

-- what a comparison says of both sides, and of the side that it leads to
pub data Lies (a : ℕ) (P : ColouredTree → Type 0) (l : ColouredTree) (y : Record)
    (r : ColouredTree) :
    Ordering → Type 0 where
  to_left : (y.item.a == a) ≡ false → Lacks a (items_of_records (rows r)) → P l
      → Lies a P l y r Less
  right_here : (y.item.a == a) ≡ true → Lacks a (items_of_records (rows l)) → Lies a P l y r Equal
  to_right : (y.item.a == a) ≡ false → Lacks a (items_of_records (rows l)) → P r
      → Lies a P l y r Greater

-- a comparison leads to a first word in each tree of a kind
abbrev pub Guides : ℕ → (Record → Ordering) → (ColouredTree → Type 0) → Type 0
Guides a seen P =
    (red : Bool) (l : ColouredTree) (y : Record) (r : ColouredTree) → P (branch red l y r) →
    Lies a P l y r (seen y)

-- where it leads
module _ (a : ℕ) (seen : Record → Ordering) (P : ColouredTree → Type 0)
    (guide : Guides a seen P) where
  pub found_has : (t : ColouredTree) → P t
      → is_some (found seen t) ≡ has a (items_of_records (rows t))
  found_has tip p = refl
  found_has (branch red l y r) p =
      let split : has a (items_of_records (rows l ++ y ∷ rows r))
      ≡ has a (items_of_records (rows l) ++ y.item ∷ items_of_records (rows r)) =
      ap (has a) (items_append (rows l) (y ∷ rows r)) in
      elim (guide red l y r p) as (λ v _.
      is_some (record_found_at v y (found seen l) (found seen r))
      ≡ has a (items_of_records (rows l ++ y ∷ rows r))) [
        | to_left e lack q ↦ found_has l q
            ∙ sym (split ∙ has_front a (items_of_records (rows l))
            (y.item ∷ items_of_records (rows r)) (e, lack))
        | right_here e lack ↦ sym (split
            ∙ has_back a (items_of_records (rows l)) (y.item ∷ items_of_records (rows r)) lack
            ∙ (rw e refl))
        | to_right e lack q ↦ found_has r q
            ∙ sym (split
            ∙ has_back a (items_of_records (rows l)) (y.item ∷ items_of_records (rows r)) lack
            ∙ (rw e refl))
      ]

-- a record that is found is where the comparison leads
found_lies : (seen : Record → Ordering) (t : ColouredTree) (x : Record) → found seen t ≡ Some x
    → seen x ≡ Equal
found_lies seen tip x e = absurd (cc)
found_lies seen (branch red l y r) x e =
    (elim (seen y) as (λ v. seen y ≡ v → record_found_at v y (found seen l) (found seen r) ≡ Some x
    → seen x ≡ Equal) [
      | Less ↦ λ s f. found_lies seen l x f
      | Equal ↦ λ s f. let same : y ≡ x = cc in subst (λ z. seen z ≡ Equal) same s
      | Greater ↦ λ s f. found_lies seen r x f
    ]) refl e

lies_equal : (same less : Bool) → cond same Equal (cond less Less Greater) ≡ Equal → same ≡ true
lies_equal true less e = refl
lies_equal false true e = absurd (cc)
lies_equal false false e = absurd (cc)

pub word_found : (a : ℕ) (t : ColouredTree) (x : Record) → found (first_word_at a) t ≡ Some x
    → x.item.a ≡ a
word_found a t x e = grind (arith, nat_tests, eqb-true, lies_equal, found_lies)

pub item_found : (less : Item → Item → Bool) (i : Item) (t : ColouredTree) (x : Record)
    → found (item_lies less i) t ≡ Some x → x.item.a ≡ i.a
item_found less i t x e = grind (arith, nat_tests, eqb-true, lies_equal, found_lies)

-- first words lead, where they rise along the order
module _ {K : Type 0} (o : Order K) (line : IsInLine o) (a : ℕ) where
  abbrev InOrder : ColouredTree → Type 0
  InOrder t = IsTable o (items_of_records (rows t))

  words_lead : Guides a (first_word_at a) InOrder
  words_lead red l y r t =
      let p = parts o (rows l) y (rows r) t in
      let is = items_of_records (rows l) in
      let js = items_of_records (rows r) in
      elim (a == y.item.a) as (λ b. (a == y.item.a) ≡ b →
      Lies a InOrder l y r (cond b Equal (cond (nat_lt a y.item.a) Less Greater))) [
        | true ↦ λ e.
            let same : a ≡ y.item.a = eqb-true a y.item.a e in
            right_here (eq-eqb y.item.a a (sym same))
            (all_weaker (λ z. Precedes o z y.item) (λ (z : Item). (z.a == a) ≡ false)
            (λ z q. ne_eqb z.a a (λ f. let w = line.first_words_rise z y.item q in
            absurd (omega arith))) is p.before)
        | false ↦ λ e.
            elim (nat_lt a y.item.a) as (λ b. nat_lt a y.item.a ≡ b →
            Lies a InOrder l y r (cond b Less Greater)) [
              | true ↦ λ f.
                  let lt : a < y.item.a = ltb-true a y.item.a f in
                  to_left (ne_eqb y.item.a a (λ g. absurd (omega (arith, lt, g))))
                  (all_weaker (λ z. Precedes o y.item z) (λ (z : Item). (z.a == a) ≡ false)
                  (λ z q. ne_eqb z.a a (λ g. let w = line.first_words_rise y.item z q in
                  absurd (omega (arith, lt, w, g)))) js p.behind) p.left
              | false ↦ λ f.
                  let ne : y.item.a ≢ a = (λ g. let h : (a == y.item.a) ≡ true =
                  eq-eqb a y.item.a (sym g) in absurd (cc)) in
                  let le : y.item.a ≤ a = ltb-false a y.item.a f in
                  to_right (ne_eqb y.item.a a ne)
                  (all_weaker (λ z. Precedes o z y.item) (λ (z : Item). (z.a == a) ≡ false)
                  (λ z q. ne_eqb z.a a (λ g. let w = line.first_words_rise z y.item q in
                  absurd (omega (arith, w, g, le)))) is p.before) p.right
            ] refl
      ] refl

  pub found_by_word : (t : ColouredTree) → IsTable o (items_of_records (rows t)) →
      is_some (found (first_word_at a) t) ≡ has a (items_of_records (rows t))
  found_by_word t is = found_has a (first_word_at a) InOrder words_lead t is

-- an item of the tree leads to itself, in every order
module _ {K : Type 0} (o : Order K) (law : IsLawful o) (i : Item) where
  abbrev HasItem : ColouredTree → Type 0
  HasItem t = IsTable o (items_of_records (rows t)) × Contains (items_of_records (rows t)) i

  -- where an item of another part lies
  at_left : (l : ColouredTree) (y : Record) (r : ColouredTree) →
      IsTable o (items_of_records (rows l) ++ y.item ∷ items_of_records (rows r))
      → IsTable o (items_of_records (rows l)) →
      Contains (items_of_records (rows l)) i → Lies i.a HasItem l y r (item_lies o.less i y)
  at_left l y r t tl is =
      let after =
      across o law i (items_of_records (rows l)) (y.item ∷ items_of_records (rows r)) t is in
      let less : o.less i y.item ≡ true = after.0.is_less in
      let e : (y.item.a == i.a) ≡ false = differs o law i y.item after.0 in
      let lack : Lacks i.a (items_of_records (rows r)) =
      all_weaker (Precedes o i) (λ (z : Item). (z.a == i.a) ≡ false) (differs o law i)
      (items_of_records (rows r)) after.1 in
      rw (e, less) (to_left e lack (tl, is))

  at_here : (l : ColouredTree) (y : Record) (r : ColouredTree) →
      IsTable o (items_of_records (rows l) ++ y.item ∷ items_of_records (rows r)) → y.item ≡ i →
      Lies i.a HasItem l y r (item_lies o.less i y)
  at_here l y r t same =
      let before : AllByRecursion (λ z. Precedes o z i) (items_of_records (rows l)) =
      all_before o law i (items_of_records (rows l)) (y.item ∷ items_of_records (rows r)) t
      (0, omega arith, same) in
      let e : (y.item.a == i.a) ≡ true = eq-eqb y.item.a i.a (ap (λ (z : Item). z.a) same) in
      rw e (right_here e (all_weaker (λ z. Precedes o z i) (λ (z : Item). (z.a == i.a) ≡ false)
      (differs_before o law i) (items_of_records (rows l)) before))

  at_right : (l : ColouredTree) (y : Record) (r : ColouredTree) →
      IsTable o (items_of_records (rows l) ++ y.item ∷ items_of_records (rows r))
      → IsTable o (items_of_records (rows r)) →
      Contains (items_of_records (rows r)) i → Lies i.a HasItem l y r (item_lies o.less i y)
  at_right l y r t tr is =
      let before : AllByRecursion (λ z. Precedes o z i) (items_of_records (rows l)) =
      all_before o law i (items_of_records (rows l)) (y.item ∷ items_of_records (rows r)) t
      (Contains-rest y.item i (items_of_records (rows r)) is) in
      let b : Precedes o y.item i = all_at (Precedes o y.item) (items_of_records (rows r)) i
      (parted o (items_of_records (rows l)) y.item (items_of_records (rows r)) t).behind is in
      let more : o.less i y.item ≡ false =
      law.one_is_less i y.item b.second_valid b.first_valid
      (law.symmetric i y.item ∙ b.is_apart) ∙ ap not b.is_less in
      let e : (y.item.a == i.a) ≡ false = differs_before o law i y.item b in
      rw (e, more) (to_right e (all_weaker (λ z. Precedes o z i)
      (λ (z : Item). (z.a == i.a) ≡ false) (differs_before o law i) (items_of_records (rows l))
      before) (tr, is))

  item_leads : Guides i.a (item_lies o.less i) HasItem
  item_leads red l y r h =
      let split = items_append (rows l) (y ∷ rows r) in
      let t : IsTable o (items_of_records (rows l) ++ y.item ∷ items_of_records (rows r)) =
      subst (IsTable o) split h.0 in
      let p = parts o (rows l) y (rows r) h.0 in
      ⊎_elim
      (λ is. at_left l y r t p.left is)
      (λ b. ⊎_elim (λ same. at_here l y r t same) (λ is. at_right l y r t p.right is)
      (Contains-cons_cases y.item i (items_of_records (rows r)) b))
      (Contains-append_cases (items_of_records (rows l)) (y.item ∷ items_of_records (rows r)) i
      (subst (λ zs. Contains zs i) split h.1))

  found_by_item : (t : ColouredTree) → IsTable o (items_of_records (rows t))
      → Contains (items_of_records (rows t)) i →
      is_some (found (item_lies o.less i) t) ≡ has i.a (items_of_records (rows t))
  found_by_item t is there = found_has i.a (item_lies o.less i) HasItem item_leads t (is, there)

-- a search through all items finds one of the first word, if there is one
either_is_some : (p q : Option Item) → is_some (first_item_of p q) ≡ (is_some p || is_some q)
either_is_some (Some x) q = refl
either_is_some None q = refl

pub any_has : (a : ℕ) (t : ColouredTree)
    → is_some (item_with_word a t) ≡ has a (items_of_records (rows t))
any_has a tip = refl
any_has a (branch red l y r) =
    grind (
      arith,
      nat_tests,
      any_has a l,
      any_has a r,
      items_append,
      has_either,
      or-true,
      either_is_some,
    )

-- of this first word, and an item of the tree
abbrev IsWith : ℕ → List Item → Option Item → Type 0
IsWith a is (Some x) = Contains is x × (x.a ≡ a)
IsWith a is None = Unit {0}

with_more_left : (a : ℕ) (is js : List Item) (p : Option Item) → IsWith a is p →
    IsWith a (is ++ js) p
with_more_left a is js (Some x) h = (Contains-append_left is js x h.0, h.1)
with_more_left a is js None h = tt

with_more_right : (a : ℕ) (is js : List Item) (p : Option Item) → IsWith a js p →
    IsWith a (is ++ js) p
with_more_right a is js (Some x) h = (Contains-append_right is js x h.0, h.1)
with_more_right a is js None h = tt

with_either : (a : ℕ) (is : List Item) (p q : Option Item) → IsWith a is p → IsWith a is q →
    IsWith a is (first_item_of p q)
with_either a is (Some x) q h k = h
with_either a is None q h k = k

any_is_with : (a : ℕ) (t : ColouredTree) → IsWith a (items_of_records (rows t)) (item_with_word a t)
any_is_with a tip = tt
any_is_with a (branch red l y r) =
    let is = items_of_records (rows l) in
    let js = items_of_records (rows r) in
    let here : Contains (is ++ y.item ∷ js) y.item =
    Contains-append_right is (y.item ∷ js) y.item (0, omega arith, refl) in
    let left : IsWith a (is ++ y.item ∷ js) (item_with_word a l) =
    with_more_left a is (y.item ∷ js) (item_with_word a l) (any_is_with a l) in
    let right : IsWith a (is ++ y.item ∷ js) (item_with_word a r) =
    with_more_right a is (y.item ∷ js) (item_with_word a r)
    (with_more_right a (y.item ∷ []) js (item_with_word a r) (any_is_with a r)) in
    subst (λ zs. IsWith a zs (item_with_word a (branch red l y r)))
    (sym (items_append (rows l) (y ∷ rows r)))
    (elim (y.item.a == a) as (λ b. (y.item.a == a) ≡ b →
    IsWith a (is ++ y.item ∷ js) (cond b (Some y.item)
    (first_item_of (item_with_word a l) (item_with_word a r)))) [
      | true ↦ λ e. (here, eqb-true y.item.a a e)
      | false ↦ λ e.
          with_either a (is ++ y.item ∷ js) (item_with_word a l) (item_with_word a r) left right
    ] refl)

pub any_is : (a : ℕ) (t : ColouredTree) (x : Item) → item_with_word a t ≡ Some x →
    Contains (items_of_records (rows t)) x × (x.a ≡ a)
any_is a t x e = subst (IsWith a (items_of_records (rows t))) e (any_is_with a t)

-- so that the item it finds leads to itself
pub found_by_any : {K : Type 0} (o : Order K) → IsLawful o → (a : ℕ) (t : ColouredTree) (x : Item) →
    IsTable o (items_of_records (rows t)) → item_with_word a t ≡ Some x
    → is_some (found (item_lies o.less x) t) ≡ true
found_by_any o law a t x is e =
    let w = any_is a t x e in
    found_by_item o law x t is w.0 ∙ ap (λ b. has b (items_of_records (rows t))) w.1
    ∙ sym (any_has a t) ∙ ap is_some e
