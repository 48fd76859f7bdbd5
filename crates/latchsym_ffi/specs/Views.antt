-- A catalog in rows of plain memory.
use Rattle.std.specs.Prelude.{◌≡◌, ℕ, ◌+◌, List, [], All, length, map, slice_get, Option, Some}
use Rattle.std.specs.List.{flat_map, range_with_len}
use Rattle.std.specs.Option.{option_map, option_map_or}
use Rattle.order_laws.specs.declared.items.Item.{Item}
use Rattle.modules.specs.Catalogs.{IsSoundCatalog, module_of}
use Rattle.modules.specs.Entries.{CatalogEntries, ModuleEntry, SymbolEntry}
use Rattle.modules.specs.Found.{Found}
use Rattle.modules.specs.Index.{IsIndex}
use Rattle.modules.specs.RegionIndexes.{IsIndexOf}
use Rattle.modules.specs.declared.symbols.IndexEntry.{IndexEntry}
use Rattle.latchsym_ffi.specs.Finding.{Known}
use Rattle.latchsym_ffi.specs.declared.view_rows.ViewRegion.{ViewRegion}
use Rattle.latchsym_ffi.specs.declared.view_rows.ViewSymbol.{ViewSymbol}
use Rattle.latchsym_ffi.specs.declared.views.FoundRow.{FoundRow}
use Rattle.latchsym_ffi.specs.declared.views.SeenRow.{SeenRow}

-- a symbol without its letter, for which the rows have no column
abbrev pub without_letter : SymbolEntry → SymbolEntry
without_letter s = record { addr = s.addr; letter = 0; name = s.name }

abbrev pub found_without_letter : Found → Found
found_without_letter f =
    record { symbol = without_letter f.symbol; offset = f.offset; size = f.size }

abbrev pub known_without_letter : Known → Known
known_without_letter k = option_map (λ p. (p.0, option_map found_without_letter p.1)) k

abbrev pub symbol_of_row : ViewSymbol → SymbolEntry
symbol_of_row s = record { addr = s.addr; letter = 0; name = s.name.now }

abbrev pub entry_of_row : ViewSymbol → IndexEntry
entry_of_row s = record { addr = s.addr; place = s.place }

abbrev pub item_of_row : ViewRegion → Item
item_of_row r = record { a = r.a; b = r.b; tag = r.module_number }

abbrev pub shown_row : FoundRow → Found
shown_row f = record { symbol = symbol_of_row f.symbol.now; offset = f.offset; size = f.size }

abbrev pub known_row : SeenRow → Item × Option Found
known_row s = (item_of_row s.region.now, option_map shown_row s.found)

-- each of the symbols once, by rising address and of equal ones the first listed last, and their
-- addresses
pub record AreRowsOf (symbols : List SymbolEntry) (rows : List ViewSymbol)
    (addresses : List ℕ) : Type 0 where
  pub indexed : IsIndex symbols (map entry_of_row rows)
  pub named : All
      (λ r. option_map without_letter (slice_get symbols r.place) ≡ Some (symbol_of_row r)) rows
  pub starts : addresses ≡ map (λ r. r.addr) rows

-- the region is one of the module of its number, with this module's name and symbols
pub record IsRegionRow (c : CatalogEntries) (r : ViewRegion) : Type 0 where
  pub owner : ModuleEntry
  pub there : module_of c r.module_number ≡ Some owner
  pub name : r.«module».now ≡ owner.name
  pub rows : AreRowsOf owner.symbols r.symbols.now r.addresses.now

-- all regions of the catalog, by rising first address
pub record IsViewOf (c : CatalogEntries) (regions : List ViewRegion) : Type 0 where
  pub sound : IsSoundCatalog c
  pub indexed : IsIndexOf c (map item_of_row regions)
  pub each : All (IsRegionRow c) regions

-- the symbols of the module of a number, if there is one
abbrev pub symbols_at : CatalogEntries → ℕ → List SymbolEntry
symbols_at c number = option_map_or (λ m. m.symbols) (module_of c number) []

-- the rows of the modules whose numbers are below this one
abbrev pub symbols_below : CatalogEntries → ℕ → List SymbolEntry
symbols_below c number = flat_map (symbols_at c) (range_with_len 0 number)

-- the rows of all modules, of the kernel itself first
abbrev pub symbols_of : CatalogEntries → List SymbolEntry
symbols_of c = symbols_below c (length c.modules + 1)
