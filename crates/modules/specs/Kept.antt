-- Which symbols and region lines are kept, and in which module.
use Rattle.std.specs.Prelude.{◌≢◌, ℕ, Bool, false, ◌&&◌, ◌||◌, is_none, List, map, filter}
use Rattle.std.specs.List.{AllPairs, list_any}
use Rattle.std.specs.Option.{option_map_or}
use Rattle.std.specs.Str.{bytes_eq}
use Rattle.modules.specs.Accepted.{Accepted, names_of}
use Rattle.modules.specs.Entries.{SymbolEntry}
use Rattle.modules.specs.Listed.{ListedRegion, ListedSymbol}
use Rattle.modules.specs.Placed.{PlacedModule, has_core, lines_named}
use Rattle.modules.specs.Regions.{holds, lies_in_any}

-- no two names are equal
abbrev pub AreDistinctNames : List (List ℕ) → Type 0
AreDistinctNames names = AllPairs (λ x y. x ≢ y) names

-- the symbol alone, without its module
abbrev pub entry_of : ListedSymbol → SymbolEntry
entry_of s = record { addr = s.addr; letter = s.letter; name = s.name }

-- a symbol without a module that lies in a region of the kernel itself
abbrev pub is_built_in : List (ℕ × ℕ) → ListedSymbol → Bool
is_built_in built_in s = is_none s.owner && lies_in_any built_in s.addr

-- the address lies in one of the module's regions
abbrev pub lies_in : PlacedModule → ℕ → Bool
lies_in m addr = list_any (λ r. holds r addr) m.regions

-- a symbol of the module of this name that lies in one of its regions
abbrev pub belongs : PlacedModule → ListedSymbol → Bool
belongs m s = option_map_or (λ name. bytes_eq name m.name) s.owner false && lies_in m s.addr

-- a symbol of the kernel itself, or of an accepted module
abbrev pub is_kept : Accepted → ListedSymbol → Bool
is_kept a s = is_built_in a.built_in s || list_any (λ m. belongs m s) a.modules

-- the symbols that pass a test, in the order listed
abbrev pub symbols_that : (ListedSymbol → Bool) → List ListedSymbol → List SymbolEntry
symbols_that passes symbols = map entry_of (filter passes symbols)

-- a region line of an accepted module that has a core line
abbrev pub is_used : Accepted → List ListedRegion → ListedRegion → Bool
is_used a regions r =
    list_any (bytes_eq r.name) (names_of a.modules) && has_core (lines_named r.name regions)
