-- What a catalog keeps.
use Rattle.std.specs.Prelude.{◌≡◌, length}
use Rattle.modules.specs.Catalogs.{IsSoundCatalog, regions_of}
use Rattle.modules.specs.Entries.{CatalogEntries}
use Rattle.modules.specs.Names.{names_in}
use Rattle.modules.specs.declared.catalog.Catalog.TheInside.{Inside}

abbrev pub catalog_view : Inside → CatalogEntries
catalog_view c = record { built_in = c.built_in; modules = c.modules.items }

pub record IsWholeCatalog (c : Inside) : Type 0 where
  pub sound : IsSoundCatalog (catalog_view c)
  pub named : names_in c.modules.items ≡ c.names
  pub counted : c.regions ≡ length (regions_of (catalog_view c))
