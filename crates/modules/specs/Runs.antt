-- Lines of symbols in runs of one module.
use Rattle.std.specs.Prelude.{ℕ, List, map, flat_map, Option}
use Rattle.std.specs.Option.{option_copied}
use Rattle.modules.specs.Entries.{SymbolEntry}
use Rattle.modules.specs.Listed.{ListedSymbol}
use Rattle.modules.specs.declared.symbol_lines.Run.{Run}

-- the line of a symbol of this module, or of the kernel itself
abbrev pub line_of : Option (List ℕ) → SymbolEntry → ListedSymbol
line_of owner s =
    record { addr = s.addr; letter = s.letter; name = s.name; owner = owner }

-- the lines of a run
abbrev pub lines_of_run : Run → List ListedSymbol
lines_of_run r = map (line_of (option_copied r.module)) r.symbols.items

abbrev pub lines_of_all : List Run → List ListedSymbol
lines_of_all runs = flat_map lines_of_run runs
