-- Tables of items, and what a key finds in one.
use Rattle.std.specs.Prelude.{◌≡◌, ◌≢◌, ℕ, suc, Bool, true, not, List, [], ◌∷◌, Option, Some, None}
use Rattle.std.specs.Prelude.{if◌then◌else◌, ◌==◌, filter, Contains}
use Rattle.std.specs.List.{AllByRecursion, list_any}
use Rattle.std.specs.Ordering.{is_eq}
use Rattle.std.specs.declared.cmp.Ordering.TheVariants.{Equal}
use Rattle.order_laws.specs.declared.items.Item.{Item}
use Rattle.order_laws.specs.Orders.{Order, Precedes}

-- a table: valid items, pairwise apart, listed in the order of `less`
abbrev pub IsTable : {K : Type 0} → Order K → List Item → Type 0
IsTable o [] = Unit {0}
IsTable o (x ∷ xs) = (o.valid x ≡ true) × AllByRecursion (Precedes o x) xs × IsTable o xs

-- the item of the table that the key is in, or none
abbrev pub look : {K : Type 0} → Order K → K → List Item → Option Item
look o k [] = None
look o k (x ∷ xs) = if is_eq (o.comp k x) then Some x else look o k xs

-- the answer is right: an item of the table that the key is in, or none if it is in no item
abbrev pub IsLook : {K : Type 0} → Order K → K → List Item → Option Item → Type 0
IsLook o k table (Some x) = Contains table x × (o.comp k x ≡ Equal)
IsLook o k table None = (x : Item) → Contains table x → o.comp k x ≢ Equal

-- the table with one item more, in its place
abbrev pub with_item : {K : Type 0} → Order K → Item → List Item → List Item
with_item o i [] = i ∷ []
with_item o i (x ∷ xs) = if o.less i x then i ∷ x ∷ xs else x ∷ with_item o i xs

-- the table without the item that has this first word
abbrev pub without : ℕ → List Item → List Item
without a table = filter (λ x. not (x.a == a)) table

-- the table without the items that have one of these first words
abbrev pub without_all : List ℕ → List Item → List Item
without_all gone table = filter (λ x. not (list_any (λ a. a == x.a) gone)) table

-- how many items of a table come before a new one
abbrev pub place_for : {K : Type 0} → Order K → Item → List Item → ℕ
place_for o i [] = 0
place_for o i (x ∷ xs) = if o.less i x then 0 else suc (place_for o i xs)

-- how many items come before the one that has this first word
abbrev pub place_of : ℕ → List Item → ℕ
place_of a [] = 0
place_of a (x ∷ xs) = if x.a == a then 0 else suc (place_of a xs)

-- whether some item has this first word
abbrev pub has : ℕ → List Item → Bool
has a table = list_any (λ x. x.a == a) table

-- whether some item is not apart from this one
abbrev pub meets : {K : Type 0} → Order K → Item → List Item → Bool
meets o i table = list_any (λ x. not (o.apart x i)) table
