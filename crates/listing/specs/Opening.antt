-- What listings say: a catalog, how many of their lines are used, and what is noted of them.
use Rattle.std.specs.Prelude.{◌≡◌, ℕ, Bool, ◌&&◌, false, true, length, List, [], find, is_none}
use Rattle.std.specs.Prelude.{is_some}
use Rattle.std.specs.Prelude.{Option, Some, None, Result, Ok, Err, if◌then◌else◌, unwrap_or}
use Rattle.std.specs.Option.{option_and_then, option_copied, option_map, option_map_or}
use Rattle.texts.specs.Lines.{lines_of}
use Rattle.modules.specs.Accepted.{Accepted}
use Rattle.modules.specs.Catalogs.{build_of_listed, catalog_of, catalog_with, counts_of}
use Rattle.modules.specs.Catalogs.{kept_counts}
use Rattle.modules.specs.Entries.{CatalogEntries}
use Rattle.modules.specs.FromSymbols.{IsFromSymbols}
use Rattle.modules.specs.Lines.{bounds_for, usual_bounds_of}
use Rattle.modules.specs.Listed.{BoundNames, ListedRegion, ListedSymbol}
use Rattle.modules.specs.ListingParts.{ListingParts, parts_of}
use Rattle.modules.specs.Placed.{are_few}
use Rattle.modules.specs.declared.catalog.BuildCounts.{BuildCounts}
use Rattle.listing.specs.ListingNotes.{all_notes, is_of_kallsyms, is_of_modules}
use Rattle.listing.specs.Looks.{are_modules_hidden, are_symbols_hidden}
use Rattle.listing.specs.ModuleListing.{module_counts, modules_in}
use Rattle.listing.specs.Owners.{unlisted_owner}
use Rattle.listing.specs.RegionListing.{regions_of_text}
use Rattle.listing.specs.SymbolListing.{symbol_counts, symbols_in, symbols_with}
use Rattle.listing.specs.declared.listing_notes.ListingNote.{ListingNote}
use Rattle.listing.specs.declared.listing_notes.ListingNotes.{ListingNotes}
use Rattle.listing.specs.declared.owners.Owner.{Owner}
use Rattle.listing.specs.declared.opening.BuiltCatalog.{BuiltCatalog}
use Rattle.listing.specs.declared.opening.Listings.{Listings}
use Rattle.listing.specs.declared.opening.OpenedCatalog.{OpenedCatalog}

-- ---- what is given

-- the texts of listings; only the listing of symbols must be there
pub record Given : Type 0 where
  pub modules : Option (List ℕ)
  pub kallsyms : List ℕ
  pub regions : Option (List ℕ)

abbrev pub given : Option (List ℕ) → List ℕ → Option (List ℕ) → Given
given modules kallsyms regions =
    record { modules = modules; kallsyms = kallsyms; regions = regions }

-- the texts of listings of modules and of symbols, and the lines of a listing of regions
pub record Listed : Type 0 where
  pub modules : Option (List ℕ)
  pub kallsyms : List ℕ
  pub regions : Option (List ListedRegion)

-- the listings that the program has
abbrev pub listed_in : Listings → Listed
listed_in l = record {
  modules = option_copied l.modules;
  kallsyms = l.kallsyms.now;
  regions = option_map (λ lines. lines.items) l.regions;
}

-- the texts with these region lines, if the listing of them has no bad line
abbrev pub with_lines : Given → Result (List ListedRegion) ℕ → Result Listed ℕ
with_lines g (Ok lines) =
    Ok (record { modules = g.modules; kallsyms = g.kallsyms; regions = Some lines })
with_lines g (Err n) = Err n

-- the listings with these texts and this text of a listing of regions, if there is one, or the
-- number of its first bad line
abbrev pub listings_with : Given → Option (List ℕ) → Result Listed ℕ
listings_with g None =
    Ok (record { modules = g.modules; kallsyms = g.kallsyms; regions = None })
listings_with g (Some text) = with_lines g (regions_of_text text)

-- the listings with these texts, or the number of the first bad line of the listing of regions
abbrev pub listings_of : Given → Result Listed ℕ
listings_of g = listings_with g g.regions

-- there are listings of regions and of modules
abbrev pub has_regions : Listed → Bool
has_regions l = is_some l.modules && is_some l.regions

-- the region lines that count
abbrev pub lines_beside : Listed → List ListedRegion
lines_beside l = if is_some l.modules then unwrap_or l.regions [] else []

-- ---- the catalog, and how many lines are used

-- the symbols that a catalog may keep: mapping symbols among them or not
abbrev pub symbols_of : Bool → List ℕ → List ListedSymbol
symbols_of mapping text = symbols_with mapping (symbols_in (lines_of text))

-- The catalog and the counts are built from a listing of modules with this text, these region lines
-- and these symbols. The names of the kernel's bounds may be given.
pub record AreByModules (kernel : Option BoundNames) (text : List ℕ) (lines : List ListedRegion)
    (symbols : List ListedSymbol) (c : CatalogEntries) (n : BuildCounts)
    : Type 0 where
  pub few : are_few lines ≡ true
  pub catalog : c ≡ catalog_of kernel (modules_in (lines_of text)) lines symbols
  pub counts : n ≡ counts_of kernel (modules_in (lines_of text)) lines symbols

-- The catalog and the counts are built from these symbols alone.
pub record AreBySymbols (kernel : Option BoundNames) (symbols : List ListedSymbol)
    (c : CatalogEntries) (n : BuildCounts)
    : Type 0 where
  pub modules : Accepted
  pub found : IsFromSymbols kernel symbols modules
  pub catalog : c ≡ catalog_with modules symbols
  pub counts : n ≡ kept_counts modules symbols

-- The catalog and the counts are built from listings, of whose symbols these may be kept. Without a
-- listing of modules, the symbols give the regions of modules.
abbrev pub AreBy : Option BoundNames → Listed → List ListedSymbol → Option (List ℕ)
    → CatalogEntries → BuildCounts → Type 0
AreBy kernel l symbols (Some text) c n =
    AreByModules kernel text (unwrap_or l.regions []) symbols c n
AreBy kernel l symbols None c n = AreBySymbols kernel symbols c n

-- Listings say this catalog, and these counts of their lines. A symbol that is not kept is stray.
pub record Say (kernel : Option BoundNames) (mapping : Bool) (l : Listed) (c : CatalogEntries)
    (n : BuildCounts)
    : Type 0 where
  pub kept : BuildCounts
  pub built : AreBy kernel l (symbols_of mapping l.kallsyms) l.modules c kept
  pub counts : n ≡ build_of_listed (length (symbols_in (lines_of l.kallsyms))) kept

-- ---- what is noted

-- the first note that applies to the listing of modules, if there is one
abbrev pub note_on_modules : Bool → Listed → CatalogEntries → Option ListingNote
note_on_modules mapping l c =
    option_and_then (λ text. find (is_of_modules mapping text l.kallsyms c) all_notes) l.modules

-- the first note that applies to a listing of symbols, if `kept` of its lines are kept
abbrev pub note_on_symbols : Option BoundNames → Bool → Listed → ℕ → Option ListingNote
note_on_symbols kernel mapping l kept =
    find (is_of_kallsyms (bounds_for kernel (symbols_of mapping l.kallsyms)) (is_none l.modules)
    l.kallsyms kept) all_notes

-- of listings that say this catalog and these counts
abbrev pub notes_of : Option BoundNames → Bool → Listed → CatalogEntries → BuildCounts
    → ListingNotes
notes_of kernel mapping l c n = record {
  modules = note_on_modules mapping l c;
  kallsyms = note_on_symbols kernel mapping l n.symbols;
}

-- ---- all of it

-- all well-formed lines of the listing of modules are hidden, if there is one
abbrev pub hides_modules : Listed → Bool
hides_modules l = option_map_or (λ text. are_modules_hidden (lines_of text)) l.modules false

-- the owner of the first symbol whose owner the listing of modules lacks, if there is one
abbrev pub unlisted_in : Bool → Listed → Option Owner
unlisted_in mapping l =
    option_and_then
    (λ text. unlisted_owner (modules_in (lines_of text)) (symbols_of mapping l.kallsyms)) l.modules

-- how many lines of the listing of modules are skipped, by cause, if there is one
abbrev pub skipped_modules_of : Listed → Option (List ℕ)
skipped_modules_of l = option_map (λ text. module_counts (lines_of text)) l.modules

-- the parts of the listing of symbols, if no listing of modules is beside it
abbrev pub parts_alone : Option BoundNames → List ListedSymbol → Option (List ℕ)
    → Option ListingParts
parts_alone kernel symbols (Some text) = None
parts_alone kernel symbols None = Some (parts_of kernel symbols)

-- what was built, of symbols that may be kept, is what listings say
pub record AreBuilt (kernel : Option BoundNames) (mapping : Bool) (l : Listed)
    (symbols : List ListedSymbol) (b : BuiltCatalog) : Type 0 where
  pub said : AreBy kernel l symbols l.modules b.catalog b.counts
  pub listing : b.listing ≡ parts_alone kernel symbols l.modules
  pub skipped : option_map (λ k. k.by_place) b.skipped ≡ skipped_modules_of l
  pub hidden : b.hidden ≡ hides_modules l
  pub unlisted : b.unlisted ≡ unlisted_in mapping l
  pub note : b.note ≡ note_on_modules mapping l b.catalog

-- what was opened is what listings say
pub record IsOpened (kernel : Option BoundNames) (mapping : Bool) (l : Listed) (o : OpenedCatalog)
    : Type 0 where
  pub said : Say kernel mapping l o.catalog o.built
  pub listing : o.listing ≡ parts_alone kernel (symbols_of mapping l.kallsyms) l.modules
  pub skipped_modules : option_map (λ k. k.by_place) o.skipped_modules ≡ skipped_modules_of l
  pub skipped_symbols : o.skipped_symbols.by_place ≡ symbol_counts (lines_of l.kallsyms)
  pub has_regions : o.has_regions ≡ has_regions l
  pub modules_hidden : o.modules_hidden ≡ hides_modules l
  pub unlisted : o.unlisted ≡ unlisted_in mapping l
  pub symbols_hidden : o.symbols_hidden ≡ are_symbols_hidden (lines_of l.kallsyms)
  pub usual : o.usual ≡ usual_bounds_of (symbols_of mapping l.kallsyms)
  pub notes : o.notes ≡ notes_of kernel mapping l o.catalog o.built
