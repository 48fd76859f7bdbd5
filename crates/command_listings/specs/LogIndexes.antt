-- What is known of the symbols that a log is answered from.
use Rattle.std.specs.Prelude.{Bool, List, Option, IfSome}
use Rattle.command_listings.specs.KernelNames.{AreLinked, Links}
use Rattle.modules.specs.Entries.{CatalogEntries}
use Rattle.command_listings.specs.NameFilters.{HoldsNames}
use Rattle.command_listings.specs.Sizes.{kernel_symbols}

-- The marks are of its names, and the links are of the symbols of the kernel itself.
pub record IsKnown (c : CatalogEntries) (marks : Option (List Bool)) (links : Option Links)
    : Type 0 where
  pub marked : IfSome marks (λ m. HoldsNames m c)
  pub linked : IfSome links (AreLinked (kernel_symbols c))
