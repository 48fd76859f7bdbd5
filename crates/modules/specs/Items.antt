-- An item for each region of a catalog.
use Rattle.std.specs.Prelude.{ℕ, ◌+◌, List, [], length, map, Option}
use Rattle.std.specs.List.{flat_map, range_with_len}
use Rattle.std.specs.Option.{option_map_or}
use Rattle.order_laws.specs.declared.items.Item.{Item}
use Rattle.order_laws.specs.Orders.{half_open}
use Rattle.order_laws.specs.Tables.{look}
use Rattle.modules.specs.Catalogs.{module_of}
use Rattle.modules.specs.Entries.{CatalogEntries}
use Rattle.modules.specs.Loads.{item_of}

-- the items of the module of a number, if there is one
abbrev pub items_at : CatalogEntries → ℕ → List Item
items_at c number = option_map_or (λ m. map (item_of number) m.regions) (module_of c number) []

-- the items of the modules whose numbers are below this one
abbrev pub items_below : CatalogEntries → ℕ → List Item
items_below c number = flat_map (items_at c) (range_with_len 0 number)

-- the items of all regions, first the items of the kernel itself
abbrev pub items_of : CatalogEntries → List Item
items_of c = items_below c (length c.modules + 1)

-- the item that the address lies in
abbrev pub item_of_address : CatalogEntries → ℕ → Option Item
item_of_address c addr = look half_open addr (items_of c)
