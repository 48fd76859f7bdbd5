-- Whether a function of the kernel itself has the size that a log says.
use Rattle.std.specs.Prelude.{ℕ, ◌&&◌, Bool, false, if◌then◌else◌, List, [], nat_eq}
use Rattle.std.specs.Prelude.{Option, Some, None, option_and_then}
use Rattle.std.specs.List.{list_any}
use Rattle.std.specs.Option.{option_map_or}
use Rattle.std.specs.Str.{bytes_eq}
use Rattle.modules.specs.Catalogs.{module_of}
use Rattle.modules.specs.Entries.{CatalogEntries, SymbolEntry}
use Rattle.modules.specs.Found.{Found, symbol_at}
use Rattle.modules.specs.Items.{item_of_address}

-- the symbols of the kernel itself
abbrev pub kernel_symbols : CatalogEntries → List SymbolEntry
kernel_symbols c = option_map_or (λ m. m.symbols) (module_of c 0) []

-- the symbol that an address belongs to has this size
abbrev pub found_at : CatalogEntries → ℕ → Option Found
found_at c addr = option_and_then (λ i. symbol_at c i addr) (item_of_address c addr)

abbrev pub has_size_at : CatalogEntries → ℕ → ℕ → Bool
has_size_at c size addr = option_map_or (λ f. nat_eq f.size size) (found_at c addr) false

-- a symbol has this name; and this size too
abbrev pub has_name : List ℕ → SymbolEntry → Bool
has_name name s = bytes_eq s.name name

abbrev pub is_sized : CatalogEntries → List ℕ → ℕ → SymbolEntry → Bool
is_sized c name size s = has_name name s && has_size_at c size s.addr

-- Of the symbols with this name one has this size, or none; no answer if none has the name.
abbrev pub has_size_among : CatalogEntries → List SymbolEntry → List ℕ → ℕ → Option Bool
has_size_among c symbols name size =
    if list_any (has_name name) symbols then Some (list_any (is_sized c name size) symbols)
    else None

-- likewise of the symbols of the kernel itself
abbrev pub has_size_by : CatalogEntries → List ℕ → ℕ → Option Bool
has_size_by c name size = has_size_among c (kernel_symbols c) name size
