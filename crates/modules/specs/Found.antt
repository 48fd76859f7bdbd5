-- The symbol that an address belongs to.
use Rattle.std.specs.Prelude.{◌≡◌, ◌≢◌, ℕ, ◌-◌, ◌<◌, ◌≤◌, ◌⊎◌, All, Contains, List, filter, Option}
use Rattle.std.specs.Prelude.{Some, slice_get, slice_index_or, unwrap_or}
use Rattle.std.specs.Option.{option_map, option_and_then}
use Rattle.order_laws.specs.declared.items.Item.{Item}
use Rattle.modules.specs.Around.{symbol_below, address_above}
use Rattle.modules.specs.Catalogs.{module_of}
use Rattle.modules.specs.Entries.{CatalogEntries, SymbolEntry}
use Rattle.modules.specs.Regions.{holds}

-- a symbol, how far the address lies above it, and how far it reaches
pub record Found : Type 0 where
  pub symbol : SymbolEntry
  pub offset : ℕ
  pub size : ℕ

-- the symbol reaches to the least address of a symbol above its own, or to the region's end
abbrev pub symbol_found_at : List SymbolEntry → ℕ → ℕ → SymbolEntry → Found
symbol_found_at symbols end addr s = record {
  symbol = s;
  offset = addr - s.addr;
  size = unwrap_or (address_above symbols s.addr) end - s.addr;
}

-- the symbols from an address up to an end that is excluded, in the order listed
abbrev pub symbols_from : List SymbolEntry → ℕ → ℕ → List SymbolEntry
symbols_from symbols start end = filter (λ s. holds (start, end) s.addr) symbols

-- of symbols in the order listed, in a region that ends at `end`
abbrev pub found_in : List SymbolEntry → ℕ → ℕ → Option Found
found_in symbols end addr =
    option_map (symbol_found_at symbols end addr) (symbol_below symbols addr)

-- of the kept symbols of the item's module that lie in the item
abbrev pub symbol_at : CatalogEntries → Item → ℕ → Option Found
symbol_at c item addr =
    option_and_then
    (λ m. found_in (symbols_from m.symbols item.a item.b) item.b addr)
    (module_of c item.tag)

-- the symbol reaches to the least address of a symbol above its own, or to the region's end if
-- there is none
abbrev pub ReachesUpTo : List SymbolEntry → ℕ → SymbolEntry → ℕ → Type 0
ReachesUpTo symbols end s size =
    (All (λ t. t.addr ≤ s.addr) symbols × (size ≡ end - s.addr))
    ⊎ ((t : SymbolEntry) × Contains symbols t × (s.addr < t.addr)
    × All (λ u. (u.addr ≤ s.addr) ⊎ (t.addr ≤ u.addr)) symbols × (size ≡ t.addr - s.addr))

-- the symbol at a place, at or below the address, with none between them and none of its address at
-- an earlier place
pub record IsFound (symbols : List SymbolEntry) (end addr : ℕ) (f : Found) : Type 0 where
  pub place : ℕ
  pub listed : slice_get symbols place ≡ Some f.symbol
  pub below : f.symbol.addr ≤ addr
  pub nearest : All (λ s. (s.addr ≤ f.symbol.addr) ⊎ (addr < s.addr)) symbols
  pub first : (k : ℕ) (d : SymbolEntry) → k < place
      → (slice_index_or symbols k d).addr ≢ f.symbol.addr
  pub offset : f.offset ≡ addr - f.symbol.addr
  pub reaches : ReachesUpTo symbols end f.symbol f.size
