-- The lines of modules in runs that catalogs share, and the parts of a listing.
use Rattle.std.specs.Prelude.{◌≡◌, ◌+◌, is_none, length, List, map, flat_map, Option, Some}
use Rattle.modules.specs.Kept.{symbols_that}
use Rattle.modules.specs.ListingParts.{ListingParts, module_lines, parts_of}
use Rattle.modules.specs.Listed.{BoundNames, ListedSymbol}
use Rattle.modules.specs.Runs.{line_of}
use Rattle.modules.specs.declared.shared_listings.PartedLines.{PartedLines}
use Rattle.modules.specs.declared.shared_listings.SharedListing.TheInside.{Inside}
use Rattle.modules.specs.declared.shared_listings.SharedRun.{SharedRun}

-- the lines of a run
abbrev pub lines_of_one : SharedRun → List ListedSymbol
lines_of_one r = map (line_of (Some r.module.now)) r.symbols

abbrev pub lines_of_shared : List SharedRun → List ListedSymbol
lines_of_shared runs = flat_map lines_of_one runs

-- the symbols of the lines without a module, and the lines of modules
pub record IsParted (lines : List ListedSymbol) (p : PartedLines) : Type 0 where
  pub kernel : p.kernel.items ≡ symbols_that (λ l. is_none l.owner) lines
  pub runs : lines_of_shared p.runs.items ≡ module_lines lines

abbrev pub listing_view : Inside → ListingParts
listing_view l = record {
  kernel = l.kernel.items;
  symbols = l.symbols;
  kernel_lines = l.kernel_lines;
  lines = lines_of_shared l.runs.items;
}

-- they are the parts of some listing, and its lines are counted
pub record IsWholeListing (l : Inside) : Type 0 where
  pub names : Option BoundNames
  pub listed : List ListedSymbol
  pub parts : listing_view l ≡ parts_of names listed
  pub counted : l.count ≡ l.kernel_lines + length (lines_of_shared l.runs.items)
