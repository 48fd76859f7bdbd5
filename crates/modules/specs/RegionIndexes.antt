-- The items of all regions by rising first address, and the catalog that has them.
use Rattle.std.specs.Prelude.{ℕ, List}
use Rattle.std.specs.List.Sorted.{IsNonDecreasingBy, IsPermutation}
use Rattle.order_laws.specs.declared.items.Item.{Item}
use Rattle.modules.specs.Catalogs.{IsSoundCatalog}
use Rattle.modules.specs.Entries.{CatalogEntries}
use Rattle.modules.specs.Index.{IsSplitBy}
use Rattle.modules.specs.Items.{items_of}
use Rattle.modules.specs.declared.region_index.IndexedCatalog.TheInside.{Inside}

pub record IsIndexOf (c : CatalogEntries) (items : List Item) : Type 0 where
  pub same : IsPermutation (items_of c) items
  pub rising : IsNonDecreasingBy (λ i. i.a) items

-- the items below the place begin at or below the address, and the others above it
abbrev pub IsItemSplit : List Item → ℕ → ℕ → Type 0
IsItemSplit items addr place = IsSplitBy (λ i. i.a) items addr place

pub record IsWholeIndex (c : Inside) : Type 0 where
  pub sound : IsSoundCatalog c.catalog
  pub indexed : IsIndexOf c.catalog c.items.items
