-- Updates of a table: what they make of it, and why one is refused.
use Rattle.std.specs.Prelude.{ℕ, ◌+◌, ◌*◌, Bool, false, not, ◌||◌, List, [], ◌∷◌, ◌++◌, length}
use Rattle.std.specs.Prelude.{Option, Some, None, if◌then◌else◌, ◌==◌, nat_lt}
use Rattle.std.specs.List.{list_any}
use Rattle.order_laws.specs.declared.items.Item.{Item}
use Rattle.order_laws.specs.declared.refusals.Refusal.{Refusal}
use Rattle.order_laws.specs.declared.refusals.Refusal.TheVariants.{BadItem, Overlap, NoSuchItem}
use Rattle.order_laws.specs.declared.refusals.Refusal.TheVariants.{Full, UpdateInHand}
use Rattle.order_laws.specs.declared.refusals.Refusal.TheVariants.{SequenceSpent}
use Rattle.order_laws.specs.Orders.{Order}
use Rattle.order_laws.specs.Tables.{with_item, without_all, has, meets}
use Rattle.table_updates.specs.declared.updates.Update.{Update}
use Rattle.table_updates.specs.declared.updates.Update.TheVariants.{Insert, Erase, Batch}

-- the first words of the items that an update erases, and the items that it inserts
abbrev pub erased : Update → List ℕ
erased (Insert i) = []
erased (Erase a) = a ∷ []
erased (Batch erase insert) = erase

abbrev pub inserted : Update → List Item
inserted (Insert i) = i ∷ []
inserted (Erase a) = []
inserted (Batch erase insert) = insert

-- the table with all of these
abbrev pub with_items : {K : Type 0} → Order K → List Item → List Item → List Item
with_items o [] table = table
with_items o (i ∷ rest) table = with_items o rest (with_item o i table)

-- the table after an update
abbrev pub after : {K : Type 0} → Order K → List Item → Update → List Item
after o table u = with_items o (inserted u) (without_all (erased u) table)

-- the table after these updates, in order
abbrev pub replay : {K : Type 0} → Order K → List Item → List Update → List Item
replay o table [] = table
replay o table (u ∷ us) = replay o (after o table u) us

-- how many items an update inserts or erases, and how many steps it may take at n nodes
abbrev pub size_of : Update → ℕ
size_of u = length (erased u) + length (inserted u)

abbrev pub most_steps : ℕ → Update → ℕ
most_steps n u = 64 * (n + 1) * (size_of u + 1)

-- some item is not valid
abbrev pub some_invalid : {K : Type 0} → Order K → List Item → Bool
some_invalid o items = list_any (λ i. not (o.valid i)) items

-- some first word is in no item of the table; some first word is listed twice
abbrev pub some_missing : List ℕ → List Item → Bool
some_missing words table = list_any (λ a. not (has a table)) words

abbrev pub some_twice : List ℕ → Bool
some_twice [] = false
some_twice (a ∷ rest) = list_any (λ b. b == a) rest || some_twice rest

-- some first word cannot be erased
abbrev pub cannot_erase : List ℕ → List Item → Bool
cannot_erase words table = some_missing words table || some_twice words

-- two of these items are not apart, and one of them is not apart from an item of the table
abbrev pub some_overlap : {K : Type 0} → Order K → List Item → Bool
some_overlap o [] = false
some_overlap o (i ∷ rest) = meets o i rest || some_overlap o rest

abbrev pub some_meet : {K : Type 0} → Order K → List Item → List Item → Bool
some_meet o items table = list_any (λ i. meets o i table) items

-- some item cannot be inserted into the table without the items of these first words
abbrev pub cannot_insert : {K : Type 0} → Order K → List ℕ → List Item → List Item → Bool
cannot_insert o words items table =
    some_overlap o items || some_meet o items (without_all words table)

-- a test and its refusal; the first test that holds gives the refusal
abbrev pub Test : Type 0
Test = Bool × Refusal

abbrev pub first_that_holds : List Test → Option Refusal
first_that_holds [] = None
first_that_holds (test ∷ rest) = if test.0 then Some test.1 else first_that_holds rest

-- what is tested of an update at n nodes and this table
abbrev pub tests_of : {K : Type 0} → Order K → ℕ → List Item → Update → List Test
tests_of o n table (Insert i) =
    (not (o.valid i), BadItem) ∷ (meets o i table, Overlap) ∷ (length table == n, Full) ∷ []
tests_of o n table (Erase a) = (not (has a table), NoSuchItem) ∷ []
tests_of o n table (Batch erase insert) =
    (some_invalid o insert, BadItem)
    ∷ (cannot_erase erase table, NoSuchItem)
    ∷ (cannot_insert o erase insert table, Overlap)
    ∷ (nat_lt n (length table + length insert), Full)
    ∷ []

-- the refusal that the tests of an update give, or none
abbrev pub failed_test : {K : Type 0} → Order K → ℕ → List Item → Update → Option Refusal
failed_test o n table u = first_that_holds (tests_of o n table u)

-- why an update is refused, or none: at n nodes and a greatest sequence, with a pending update or
-- not, at this table and this sequence, from which two flips more may pass the greatest
abbrev pub refusal_for : {K : Type 0} → Order K → ℕ → ℕ → Bool → List Item → ℕ → Update
    → Option Refusal
refusal_for o n limit busy table seq u =
    first_that_holds
    ((busy, UpdateInHand) ∷ tests_of o n table u ++ (nat_lt limit (seq + 2), SequenceSpent) ∷ [])
