-- What a view is laid out of, step by step.
use Rattle.std.specs.Prelude.{◌≡◌, List, All, map, slice_get, Some, ℕ}
use Rattle.modules.specs.Entries.{CatalogEntries, SymbolEntry}
use Rattle.modules.specs.Index.{index_entries_of}
use Rattle.modules.specs.Items.{items_below}
use Rattle.std.specs.Option.{option_map}
use Rattle.latchsym_ffi.specs.Views.{IsRegionRow, entry_of_row, item_of_row, symbol_of_row}
use Rattle.latchsym_ffi.specs.Views.{without_letter}
use Rattle.latchsym_ffi.specs.declared.view_rows.ViewRegion.{ViewRegion}
use Rattle.latchsym_ffi.specs.declared.view_rows.ViewSymbol.{ViewSymbol}

-- the rows have the symbols, in the order listed
pub record AreListed (symbols : List SymbolEntry) (rows : List ViewSymbol) : Type 0 where
  pub entries : map entry_of_row rows ≡ index_entries_of symbols
  pub named : All
      (λ r. option_map without_letter (slice_get symbols r.place) ≡ Some (symbol_of_row r)) rows

-- the rows have the regions of all modules with lower numbers
pub record AreRowsBelow (c : CatalogEntries) (number : ℕ)
    (regions : List ViewRegion) : Type 0 where
  pub items : map item_of_row regions ≡ items_below c number
  pub each : All (IsRegionRow c) regions
