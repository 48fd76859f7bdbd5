-- The table of a catalog's regions, its answer for an address, and a world that holds it.
use Rattle.std.specs.Prelude.{ℕ, ◌<◌, ◌≤◌, List, length, option_and_then, ◌≡◌, [], None}
use Rattle.order_laws.specs.declared.items.Item.{Item}
use Rattle.order_laws.specs.Orders.{half_open}
use Rattle.order_laws.specs.Tables.{look}
use Rattle.word_layout.specs.Limits.{most_nodes, greatest_wide_sequence}
use Rattle.listing.specs.AddressRules.{place_of}
use Rattle.listing.specs.declared.address_rules.AddressRule.{AddressRule}
use Rattle.modules.specs.Catalogs.{regions_of, IsSoundCatalog}
use Rattle.modules.specs.Entries.{CatalogEntries}
use Rattle.modules.specs.Items.{items_of, items_below}
use Rattle.command_tables.specs.declared.table.AddressAnswer.{AddressAnswer}
use Rattle.std.specs.FinMap.{get}
use Rattle.std.specs.List.{flat_map}
use Rattle.order_laws.specs.declared.half_open_ranges.HalfOpen.{HalfOpen}
use Rattle.order_laws.specs.declared.refusals.Refusal.{Refusal}
use Rattle.order_laws.specs.declared.refusals.Refusal.TheVariants.{BadCapacity, OutOfMemory}
use Rattle.word_layout.specs.Layouts.{capacity_of, limit_of}
use Rattle.table_updates.specs.declared.updates.Update.{Update}
use Rattle.table_updates.specs.Updates.{erased, inserted}
use Rattle.latch_steps.specs.declared.worlds.World.{World}
use Rattle.latch_steps.specs.Worlds.{IsAfter, layout_in}

-- a table may have a node for each region
abbrev pub HasFewRegions : CatalogEntries → Type 0
HasFewRegions c = length (regions_of c) ≤ most_nodes

-- there are more regions than a table may have nodes
abbrev pub HasManyRegions : CatalogEntries → Type 0
HasManyRegions c = most_nodes < length (regions_of c)

-- an address, and the item among these that holds the one looked up for it
abbrev pub answer_in : List Item → AddressRule → ℕ → AddressAnswer
answer_in items rule addr = record {
  addr = addr;
  item = option_and_then (λ place. look half_open place items) (place_of rule addr);
}

-- among the items of all regions
abbrev pub answer_at : CatalogEntries → AddressRule → ℕ → AddressAnswer
answer_at c rule addr = answer_in (items_of c) rule addr

-- ---- a world that holds the regions of modules

-- the world comes after these updates, with no pending update and no pending lookup
pub record IsIdle (updates : List Update) (w : World HalfOpen ℕ) : Type 0 where
  pub after : IsAfter half_open 0 updates w
  pub rest : after.moment.latch.pending ≡ None
  pub no_lookup : (r : ℕ) → get after.moment.lookups r ≡ None

-- the updates insert these items, at least one each, and erase none
pub record AreInsertsOf (updates : List Update) (items : List Item) : Type 0 where
  pub inserted : flat_map inserted updates ≡ items
  pub erased : flat_map erased updates ≡ []
  pub few : length updates ≤ length items

-- an idle world whose table has these items
pub record HasTable (items : List Item) (w : World HalfOpen ℕ) : Type 0 where
  pub updates : List Update
  pub idle : IsIdle updates w
  pub inserts : AreInsertsOf updates items

-- the world has the wide layout, and room for all regions
pub record HasRoomFor (c : CatalogEntries) (w : World HalfOpen ℕ) : Type 0 where
  pub capacity : length (items_of c) ≤ capacity_of (layout_in w)
  pub limit : limit_of (layout_in w) ≡ greatest_wide_sequence

-- it has the items of the modules of all lesser numbers, and room for the ones of the others
pub record HoldsBelow (c : CatalogEntries) (number : ℕ) (w : World HalfOpen ℕ) : Type 0 where
  pub sound : IsSoundCatalog c
  pub holds : HasTable (items_below c number) w
  pub room : HasRoomFor c w

-- a table of all regions is refused if there are too many, and else when out of memory
abbrev pub IsRefusedFor : CatalogEntries → Refusal → Type 0
IsRefusedFor c BadCapacity = HasManyRegions c
IsRefusedFor c OutOfMemory = Unit {0}
IsRefusedFor c _ = ⊥
