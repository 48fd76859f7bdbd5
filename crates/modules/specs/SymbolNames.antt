-- From a name to the symbols of all modules that have it.
use Rattle.std.specs.Prelude.{◌≡◌, ℕ, ◌+◌, List, [], filter, length, map}
use Rattle.std.specs.List.{enumerate_from, flat_map, range_with_len}
use Rattle.std.specs.Option.{option_map_or}
use Rattle.std.specs.Str.{bytes_eq}
use Rattle.modules.specs.Catalogs.{module_of}
use Rattle.modules.specs.Entries.{CatalogEntries, SymbolEntry}

-- a symbol's name, the number of its module, and its place among the symbols of this module
pub record SymbolName : Type 0 where
  pub name : List ℕ
  pub number : ℕ
  pub place : ℕ

-- the names of the symbols of one module, in the order listed
abbrev pub names_of_symbols : ℕ → List SymbolEntry → List SymbolName
names_of_symbols number symbols =
    map (λ p. record { name = p.1.name; number = number; place = p.0 }) (enumerate_from 0 symbols)

-- the symbols of the module of a number, if there is one
abbrev pub names_in_module : CatalogEntries → ℕ → List SymbolName
names_in_module c number =
    option_map_or (λ m. names_of_symbols number m.symbols) (module_of c number) []

-- the symbols of the modules whose numbers are below this one
abbrev pub names_below : CatalogEntries → ℕ → List SymbolName
names_below c number = flat_map (names_in_module c) (range_with_len 0 number)

-- the symbols of all modules, of the kernel itself first
abbrev pub named_symbols : CatalogEntries → List SymbolName
named_symbols c = names_below c (length c.modules + 1)

-- those that have this name
abbrev pub all_of_name : List ℕ → List SymbolName → List SymbolName
all_of_name name symbols = filter (λ s. bytes_eq s.name name) symbols

-- the symbols of the catalog that have this name, by rising number of their modules and, in one
-- module, in the order listed
abbrev pub symbols_named : CatalogEntries → List ℕ → List SymbolName
symbols_named c name = all_of_name name (named_symbols c)

-- of each name these are the symbols of the catalog, in its order
abbrev pub IsNamesOf : CatalogEntries → List SymbolName → Type 0
IsNamesOf c names = (name : List ℕ) → all_of_name name names ≡ symbols_named c name
