-- What an insert puts at its place, and what an erase takes out.
use Rattle.rb_trees.proofs.Words.{◌≡◌, ℕ, true, false, cond, List, [], ◌∷◌, ◌++◌, Some, refl}
use Rattle.rb_trees.proofs.Words.{sym, ◌∙◌, ap, subst, ◌==◌, insert, remove, slice_get}
use Rattle.rb_trees.proofs.Words.{AllByRecursion, map-append, Item, Order, Precedes, IsLawful}
use Rattle.rb_trees.proofs.Words.{IsTable, place_for, place_of, Parted, parted, Lacks}
use Rattle.rb_trees.proofs.Words.{differs_before, all_weaker, Record, ColouredTree, tip, branch}
use Rattle.rb_trees.proofs.Words.{rows, Above, plugged, past_left, past_right, way_by}
use Rattle.rb_trees.proofs.Words.{items_of_records, Bool, eq-eqb}
use Rattle.std.proofs.Common.{arith}
use Rattle.std.proofs.lemmas.Bool.Decides.{nat_tests}

pub items_append : (xs ys : List Record)
    → items_of_records (xs ++ ys) ≡ items_of_records xs ++ items_of_records ys
items_append xs ys = map-append (λ r. r.item) xs ys

pub parts : {K : Type 0} (o : Order K) (xs : List Record) (y : Record) (ys : List Record)
    → IsTable o (items_of_records (xs ++ y ∷ ys))
    → Parted o (items_of_records xs) y.item (items_of_records ys)
parts o xs y ys t = parted o (items_of_records xs) y.item (items_of_records ys)
    (subst (IsTable o) (items_append xs (y ∷ ys)) t)

-- where an item goes
module _ {K : Type 0} (o : Order K) (x : Record) where
  insert_front : (xs : List Record) (y : Record) (ys : List Record) → o.less x.item y.item ≡ true
      → insert (xs ++ y ∷ ys) (place_for o x.item (items_of_records (xs ++ y ∷ ys))) x
      ≡ insert xs (place_for o x.item (items_of_records xs)) x ++ y ∷ ys
  insert_front [] y ys e = rw e refl
  insert_front (z ∷ xs) y ys e = grind (arith, nat_tests, insert_front xs y ys e)

  insert_back : (xs : List Record) (y : Record) (ys : List Record)
      → AllByRecursion (λ (z : Item). o.less x.item z ≡ false) (items_of_records xs)
      → o.less x.item y.item ≡ false
      → insert (xs ++ y ∷ ys) (place_for o x.item (items_of_records (xs ++ y ∷ ys))) x
      ≡ xs ++ y ∷ insert ys (place_for o x.item (items_of_records ys)) x
  insert_back [] y ys h e = rw e refl
  insert_back (z ∷ xs) y ys h e = grind (arith, nat_tests, insert_back xs y ys h.1 e)

not_before : {K : Type 0} (o : Order K) → IsLawful o → (i y z : Item) → Precedes o z y
    → o.less i y ≡ false → o.less i z ≡ false
not_before o law i y z p e = grind (arith, nat_tests)

-- the tree with the new leaf, before anything is mended
abbrev with_leaf : (Item → Item → Bool) → Record → ColouredTree → ColouredTree
with_leaf less x tip = branch true tip x tip
with_leaf less x (branch red l y r) = cond (less x.item y.item)
    (branch red (with_leaf less x l) y r) (branch red l y (with_leaf less x r))

plugged_leaf : (less : Item → Item → Bool) (x : Record) (t : ColouredTree) (path : List Above)
    → plugged (way_by less x.item t path) (branch true tip x tip)
    ≡ plugged path (with_leaf less x t)
plugged_leaf less x tip path = refl
plugged_leaf less x (branch red l y r) path =
    grind (
      arith,
      nat_tests,
      plugged_leaf less x l (past_left red y r ∷ path),
      plugged_leaf less x r (past_right red l y ∷ path),
    )

rows_leaf : {K : Type 0} (o : Order K) → IsLawful o → (x : Record) (t : ColouredTree)
    → IsTable o (items_of_records (rows t)) → rows (with_leaf o.less x t)
    ≡ insert (rows t) (place_for o x.item (items_of_records (rows t))) x
rows_leaf o law x tip t = refl
rows_leaf o law x (branch red l y r) t =
    let p = parts o (rows l) y (rows r) t in
    elim (o.less x.item y.item) as (λ b. o.less x.item y.item ≡ b → rows (cond b
    (branch red (with_leaf o.less x l) y r) (branch red l y (with_leaf o.less x r))) ≡ insert
    (rows l ++ y ∷ rows r) (place_for o x.item (items_of_records (rows l ++ y ∷ rows r))) x) [
      | true ↦ λ e. ap (λ xs. xs ++ y ∷ rows r) (rows_leaf o law x l p.left)
          ∙ sym (insert_front o x (rows l) y (rows r) e)
      | false ↦ λ e.
          ap (λ xs. rows l ++ y ∷ xs) (rows_leaf o law x r p.right)
          ∙ sym (insert_back o x (rows l) y (rows r)
          (all_weaker (λ z. Precedes o z y.item) (λ z. o.less x.item z ≡ false)
          (λ z q. not_before o law x.item y.item z q e) (items_of_records (rows l)) p.before) e)
    ] refl

pub rows_grown : {K : Type 0} (o : Order K) → IsLawful o → (x : Record) (t : ColouredTree)
    → IsTable o (items_of_records (rows t))
    → rows (plugged (way_by o.less x.item t []) (branch true tip x tip))
    ≡ insert (rows t) (place_for o x.item (items_of_records (rows t))) x
rows_grown o law x t is = ap rows (plugged_leaf o.less x t []) ∙ rows_leaf o law x t is

-- the record of a first word in a table
module _ (a : ℕ) where
  remove_here : (xs : List Record) (y : Record) (ys : List Record) → Lacks a (items_of_records xs)
      → (y.item.a == a) ≡ true
      → remove (xs ++ y ∷ ys) (place_of a (items_of_records (xs ++ y ∷ ys))) ≡ xs ++ ys
  remove_here [] y ys h e = rw e refl
  remove_here (z ∷ xs) y ys h e = let f : (z.item.a == a) ≡ false = h.0 in
      rw f (ap (λ zs. z ∷ zs) (remove_here xs y ys h.1 e))

  get_here : (xs : List Record) (y : Record) (ys : List Record) → Lacks a (items_of_records xs)
      → (y.item.a == a) ≡ true
      → slice_get (xs ++ y ∷ ys) (place_of a (items_of_records (xs ++ y ∷ ys))) ≡ Some y
  get_here [] y ys h e = rw e refl
  get_here (z ∷ xs) y ys h e = let f : (z.item.a == a) ≡ false = h.0 in
      rw f (get_here xs y ys h.1 e)

  pub taken_out : {K : Type 0} (o : Order K) → IsLawful o
      → (xs : List Record) (x : Record) (ys : List Record)
      → IsTable o (items_of_records (xs ++ x ∷ ys)) → x.item.a ≡ a
      → (remove (xs ++ x ∷ ys) (place_of a (items_of_records (xs ++ x ∷ ys))) ≡ xs ++ ys)
      × (slice_get (xs ++ x ∷ ys) (place_of a (items_of_records (xs ++ x ∷ ys))) ≡ Some x)
  taken_out o law xs x ys t e =
      grind (arith, nat_tests, all_weaker, differs_before, parts, remove_here, eq-eqb, get_here)
