-- What a handle of a catalog holds.
use Rattle.std.specs.Prelude.{Option}
use Rattle.modules.specs.Entries.{CatalogEntries}
use Rattle.modules.specs.ListingParts.{ListingParts}

-- the catalog, and the parts of its listing of symbols, if no listing of modules is beside it
pub record HeldCatalog : Type 0 where
  pub entries : CatalogEntries
  pub listing : Option ListingParts
