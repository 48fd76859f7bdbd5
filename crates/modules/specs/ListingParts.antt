-- A listing of symbols in the parts that catalogs share, and what a change makes of it.
use Rattle.std.specs.Prelude.{◌≡◌, ℕ, Bool, true, not, is_none, is_some, List, ◌++◌, count_by}
use Rattle.std.specs.Prelude.{filter, Option}
use Rattle.std.specs.List.{list_any}
use Rattle.std.specs.Option.{option_map_or}
use Rattle.std.specs.Str.{bytes_eq}
use Rattle.modules.specs.Accepted.{Accepted}
use Rattle.modules.specs.Catalogs.{catalog_with, kept_counts}
use Rattle.modules.specs.Entries.{CatalogEntries, SymbolEntry}
use Rattle.modules.specs.FromSymbols.{IsFromSymbols}
use Rattle.modules.specs.Kept.{is_built_in, symbols_that}
use Rattle.modules.specs.Lines.{kernel_regions}
use Rattle.modules.specs.Listed.{BoundNames, ListedSymbol}
use Rattle.modules.specs.declared.catalog.BuildCounts.{BuildCounts}

-- the lines of modules
abbrev pub module_lines : List ListedSymbol → List ListedSymbol
module_lines lines = filter (λ l. is_some l.owner) lines

-- the regions of the kernel itself, its symbols in them, how many lines it has, and the lines of
-- modules
pub record ListingParts : Type 0 where
  pub kernel : List (ℕ × ℕ)
  pub symbols : List SymbolEntry
  pub kernel_lines : ℕ
  pub lines : List ListedSymbol

-- the parts of a listing whose kernel lies between these names, or else in its usual regions
abbrev pub parts_of : Option BoundNames → List ListedSymbol → ListingParts
parts_of names lines = record {
  kernel = kernel_regions names lines;
  symbols = symbols_that (is_built_in (kernel_regions names lines)) lines;
  kernel_lines = count_by (λ l. is_none l.owner) lines;
  lines = module_lines lines;
}

-- the catalog and the counts are those of a listing of symbols alone
abbrev pub IsOfSymbols : Option BoundNames → List ListedSymbol → CatalogEntries → BuildCounts
    → Type 0
IsOfSymbols names lines c n = (a : Accepted) × IsFromSymbols names lines a
    × (c ≡ catalog_with a lines) × (n ≡ kept_counts a lines)

-- ---- a change

-- a line of the kernel itself, or of a module that is not named
abbrev pub is_unnamed : List (List ℕ) → ListedSymbol → Bool
is_unnamed named l = option_map_or (λ name. not (list_any (bytes_eq name) named)) l.owner true

-- a listing after a change that names these modules: without their lines, and with the lines of
-- modules that are added after the others
abbrev pub changed_lines : List (List ℕ) → List ListedSymbol → List ListedSymbol
    → List ListedSymbol
changed_lines named added lines = filter (is_unnamed named) lines ++ module_lines added

-- its parts
abbrev pub changed_parts : List (List ℕ) → List ListedSymbol → ListingParts → ListingParts
changed_parts named added p = record p { lines = changed_lines named added p.lines }
