-- The items of a table replaced by others, as one update.
use Rattle.std.specs.Prelude.{◌≡◌, ℕ, Bool, true, not, ◌&&◌, ◌==◌, List, [], ◌∷◌, ◌++◌, map, filter}
use Rattle.std.specs.Prelude.{drop, slice_get, false, Option, Some, if◌then◌else◌}
use Rattle.std.specs.List.{list_all, list_any}
use Rattle.order_laws.specs.declared.items.Item.{Item}
use Rattle.order_laws.specs.declared.refusals.Refusal.{Refusal}
use Rattle.order_laws.specs.declared.refusals.Refusal.TheVariants.{Overlap}
use Rattle.order_laws.specs.Orders.{Order}
use Rattle.table_updates.specs.declared.updates.Update.{Update}
use Rattle.table_updates.specs.declared.updates.Update.TheVariants.{Batch}
use Rattle.table_updates.specs.Updates.{refusal_for}
use Rattle.latch_core.specs.declared.replacements.Difference.{Difference}

-- two items have equal words
abbrev pub is_same : Item → Item → Bool
is_same x y = x.a == y.a && x.b == y.b && x.tag == y.tag

-- the items of a list that are not among others
abbrev pub not_among : List Item → List Item → List Item
not_among others list = filter (λ x. not (list_any (λ y. is_same x y) others)) list

-- the update by which a table comes to have these items: it erases the items of the table that are
-- not among them, and inserts the ones of them that are not in the table
abbrev pub replacement : List Item → List Item → Update
replacement table items =
    Batch (map (λ x. x.a) (not_among items table)) (not_among table items)

-- each item of a list is less than all that come after it
abbrev pub is_rising : {K : Type 0} → Order K → List Item → Bool
is_rising o [] = true
is_rising o (x ∷ xs) = list_all (λ y. o.less x y) xs && is_rising o xs

-- why a table is not to have these items, or none: if no update is pending, that they do not
-- rise; and else what is tested of the update
abbrev pub replacing_refusal : {K : Type 0} → Order K → ℕ → ℕ → Bool → List Item → ℕ → List Item
    → Option Refusal
replacing_refusal o n limit busy table seq items =
    if not busy && not (is_rising o items) then Some Overlap
    else refusal_for o n limit busy table seq (replacement table items)

-- the update that is found, while these items of the table are still to be given
abbrev pub update_found : Difference → List Item → List Item → Update
update_found d items table =
    let rest = drop d.place items in
    Batch (d.erase.items ++ map (λ x. x.a) (not_among rest table))
    (d.insert.items ++ not_among table rest)

-- a difference from these items was given the next items of a table
abbrev pub Tells : {K : Type 0} → Order K → List Item → Difference → List Item → Difference → Type 0
Tells o items d told d' =
    (more : List Item) → is_rising o (told ++ more) ≡ true
    → update_found d' items more ≡ update_found d items (told ++ more)

-- the first item of the list that was not looked at is not less than this one
abbrev pub StopsAt : {K : Type 0} → Order K → List Item → Difference → Item → Type 0
StopsAt o items d item =
    (first : Item) → slice_get items d.place ≡ Some first → o.less first item ≡ false
