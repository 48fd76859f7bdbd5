-- How many lines of listings are used and how many are not, by cause.
use Rattle.std.specs.Prelude.{ℕ, Bool, if◌then◌else◌, List, [], ◌∷◌, ◌++◌, codes, decimal}
use Rattle.std.specs.Prelude.{drop, flat_map, map, slice_index, take, Option, Some, None}
use Rattle.std.specs.Option.{option_map, option_map_or}
use Rattle.texts.specs.Lines.{lines_of}
use Rattle.listing.specs.ModuleListing.{module_cause_name, module_causes, module_place}
use Rattle.listing.specs.Opening.{Listed, has_regions, skipped_modules_of}
use Rattle.listing.specs.SymbolListing.{symbol_cause_name, symbol_causes, symbol_counts}
use Rattle.listing.specs.SymbolListing.{symbol_place}
use Rattle.listing.specs.declared.module_listing.SkippedModule.TheVariants as module_cause
use Rattle.listing.specs.declared.opening.OpenedCatalog.{OpenedCatalog}
use Rattle.listing.specs.declared.symbol_listing.SkippedSymbol.TheVariants as symbol_cause
use Rattle.listing.specs.declared.tallies.TheConstants.{DOUBLE, MODULES, OVERLAP, REGIONS, STRAY}
use Rattle.listing.specs.declared.tallies.TheConstants.{SYMBOLS}
use Rattle.modules.specs.declared.catalog.BuildCounts.{BuildCounts}

-- what is listed, how much of it is kept, and what else is counted, each with its name
pub record Tally : Type 0 where
  pub title : List ℕ
  pub kept : ℕ
  pub rows : List (List ℕ × ℕ)

-- of all listings
pub record Tallies : Type 0 where
  pub modules : Tally
  pub symbols : Tally
  pub regions : Option Tally

-- causes with their counts, each cause known by its place
abbrev pub rows_of : {E : Type 0} → (E → ℕ) → (E → List ℕ) → List ℕ → List E → List (List ℕ × ℕ)
rows_of place name counts causes = map (λ c. (name c, slice_index counts (place c))) causes

-- of a listing of modules: the causes that the build finds come before the first cause of a line's
-- form, which is that it is long
abbrev pub modules_tally : List ℕ → BuildCounts → Tally
modules_tally skipped built = record {
  title = MODULES.now;
  kept = built.modules;
  rows =
      rows_of module_place module_cause_name skipped
      (take (module_place module_cause.Long) module_causes)
      ++ (OVERLAP.now, built.overlap) ∷ (DOUBLE.now, built.double)
      ∷ rows_of module_place module_cause_name skipped
      (drop (module_place module_cause.Long) module_causes);
}

-- of a listing of symbols, with the numbers of kept and of stray ones
abbrev pub symbols_tally : List ℕ → ℕ → ℕ → Tally
symbols_tally skipped kept stray = record {
  title = SYMBOLS.now;
  kept = kept;
  rows =
      rows_of symbol_place symbol_cause_name skipped
      (take (symbol_place symbol_cause.Long) symbol_causes)
      ++ (STRAY.now, stray)
      ∷ rows_of symbol_place symbol_cause_name skipped
      (drop (symbol_place symbol_cause.Long) symbol_causes);
}

-- of a listing of regions: how many lines a module has its regions from, and how many none has
abbrev pub regions_tally : BuildCounts → Tally
regions_tally built = record {
  title = REGIONS.now;
  kept = built.regions;
  rows = (STRAY.now, built.stray_regions) ∷ [];
}

-- how many modules a listing of symbols alone has, and how many regions these have
abbrev pub found_tally : BuildCounts → Tally
found_tally built = record {
  title = MODULES.now;
  kept = built.modules;
  rows = (REGIONS.now, built.regions) ∷ [];
}

-- of a listing of modules, with the numbers of its skipped lines, or of symbols alone; of a listing
-- of symbols; and of a listing of regions, if there is one
abbrev pub tallies_by : Option (List ℕ) → List ℕ → Bool → BuildCounts → Tallies
tallies_by modules symbols given built = record {
  modules = option_map_or (λ skipped. modules_tally skipped built) modules (found_tally built);
  symbols = symbols_tally symbols built.symbols built.stray;
  regions = if given then Some (regions_tally built) else None;
}

-- of listings with these counts of lines
abbrev pub tallies_with : Listed → BuildCounts → Tallies
tallies_with l built =
    tallies_by (skipped_modules_of l) (symbol_counts (lines_of l.kallsyms)) (has_regions l) built

-- of listings that were opened
abbrev pub tallies_of : OpenedCatalog → Tallies
tallies_of o =
    tallies_by (option_map (λ k. k.by_place) o.skipped_modules) o.skipped_symbols.by_place
    o.has_regions o.built

-- ---- their lines

-- ` NAME COUNT`
unfoldable pub row_text : List ℕ × ℕ → List ℕ
row_text row = codes " " ++ row.0 ++ codes " " ++ decimal row.1

-- `TITLE KEPT`, and each row
unfoldable pub tally_line : Tally → List ℕ
tally_line t = t.title ++ codes " " ++ decimal t.kept ++ flat_map row_text t.rows ++ codes "\n"

-- a line for each listing
abbrev pub counts_text : Tallies → List ℕ
counts_text t =
    tally_line t.modules ++ tally_line t.symbols ++ option_map_or tally_line t.regions []
