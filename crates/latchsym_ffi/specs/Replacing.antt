-- The items of a table replaced by the regions of a catalog, or by any others.
use Rattle.std.specs.Prelude.{◌≡◌, ◌⊎◌, ℕ, List, map}
use Rattle.order_laws.specs.declared.items.Item.{Item}
use Rattle.order_laws.specs.declared.refusals.Refusal.{Refusal}
use Rattle.order_laws.specs.declared.refusals.Refusal.TheVariants.{OutOfMemory}
use Rattle.order_laws.specs.Orders.{half_open}
use Rattle.order_laws.specs.Refusals.{refusal_number}
use Rattle.latch_table.specs.Replacing.{RefusesReplacing}
use Rattle.latch_table.specs.Writers.{WriterState}
use Rattle.modules.specs.Entries.{CatalogEntries}
use Rattle.modules.specs.RegionIndexes.{IsIndexOf}
use Rattle.latchsym_ffi.specs.declared.updates.TableItem.{TableItem}

-- an item as C has it
abbrev pub item_told : Item → TableItem
item_told i = record { a = i.a; b = i.b; tag = i.tag }

-- an item for each region of the catalog, by rising first address
pub record TellsItems (c : CatalogEntries) (told : List TableItem) : Type 0 where
  pub items : List Item
  pub indexed : IsIndexOf c items
  pub are : told ≡ map item_told items

-- the writer refuses a table of these items by the refusal of this number, or there was no memory
-- for a copy of them, which is made first
abbrev pub RefusesReplacingAs : WriterState → List Item → ℕ → Type 0
RefusesReplacingAs w list result =
    (e : Refusal) × (result ≡ refusal_number e)
    × (RefusesReplacing half_open w list e ⊎ (e ≡ OutOfMemory))
