-- How many rows a view has, and what the call writes of that.
use Rattle.std.specs.Prelude.{◌≡◌, ℕ, ◌^◌, ◌≤◌, ◌⊎◌, List, length}
use Rattle.modules.specs.Catalogs.{regions_of}
use Rattle.modules.specs.Entries.{CatalogEntries}
use Rattle.latchsym_ffi.specs.Answers.{answer_number}
use Rattle.latchsym_ffi.specs.declared.answers.CallOutcome.TheVariants.{Done}
use Rattle.latchsym_ffi.specs.declared.view_rows.ViewRegion.{ViewRegion}
use Rattle.latchsym_ffi.specs.declared.view_rows.ViewSymbol.{ViewSymbol}
use Rattle.latchsym_ffi.specs.declared.viewing.ViewSizes.{ViewSizes}
use Rattle.latchsym_ffi.specs.Views.{symbols_of}

-- as many rows as the catalog has regions, as it has symbols, and again
pub record AreRooms (c : CatalogEntries) (regions : List ViewRegion) (symbols : List ViewSymbol)
    (addresses : List ℕ) : Type 0 where
  pub of_regions : length regions ≡ length (regions_of c)
  pub of_symbols : length symbols ≡ length (symbols_of c)
  pub of_addresses : length addresses ≡ length (symbols_of c)

-- how many rows these are; or there are more symbols than memory could have
abbrev pub TellsSizes : CatalogEntries → ℕ → ViewSizes → ViewSizes → Type 0
TellsSizes c result old new =
    ((result ≡ answer_number Done) × (new.regions ≡ length (regions_of c))
    × (new.symbols ≡ length (symbols_of c)))
    ⊎ ((result ≡ 7) × (new ≡ old) × (2 ^ 64 ≤ length (symbols_of c)))
