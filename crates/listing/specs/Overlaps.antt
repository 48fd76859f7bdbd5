-- Modules that are listed, and are not in the catalog since their regions meet others.
use Rattle.std.specs.Prelude.{ℕ, Bool, false, not, ◌&&◌, List, Option, Some}
use Rattle.std.specs.List.{list_any}
use Rattle.std.specs.Option.{option_map_or}
use Rattle.std.specs.Str.{bytes_eq}
use Rattle.modules.specs.Entries.{CatalogEntries, ModuleEntry}
use Rattle.modules.specs.Listed.{ListedModule, ListedSymbol}

-- the module is there and has the name
abbrev pub has_name : List ℕ → Option ModuleEntry → Bool
has_name name m = option_map_or (λ entry. bytes_eq name entry.name) m false

-- a module of the catalog has the name
abbrev pub has_module : CatalogEntries → List ℕ → Bool
has_module c name = list_any (λ m. has_name name (Some m)) c.modules

-- A listed module of this name is left out. Its line was kept out as one that overlaps, since a
-- line that is double has the name of one that was accepted.
abbrev pub is_left_out : CatalogEntries → List ℕ → Bool
is_left_out c name = not (has_module c name)

-- a listed module has the name
abbrev pub is_listed_name : List ListedModule → List ℕ → Bool
is_listed_name modules name = list_any (λ m. bytes_eq m.name name) modules

-- the symbol names a module that is listed and left out
abbrev pub names_left_out : List ListedModule → CatalogEntries → ListedSymbol → Bool
names_left_out modules c s =
    option_map_or (λ name. is_left_out c name && is_listed_name modules name) s.owner false

-- one of the symbols does
abbrev pub do_modules_overlap : List ListedModule → List ListedSymbol → CatalogEntries → Bool
do_modules_overlap modules symbols c = list_any (names_left_out modules c) symbols
