-- What the bytes of the listings say.
use Rattle.std.specs.Prelude.{◌≡◌, ℕ, List, false, IsOkAnd, Option, Err, slice_index}
use Rattle.std.specs.Option.{option_map, option_map_or}
use Rattle.order_laws.specs.declared.refusals.Refusal.TheVariants as refusal
use Rattle.listing.specs.declared.listing_notes.ListingNotes.{ListingNotes}
use Rattle.listing.specs.declared.module_listing.SkippedModule.{SkippedModule}
use Rattle.listing.specs.declared.module_listing.SkippedModule.TheVariants as module_cause
use Rattle.listing.specs.declared.opening.OpenedCatalog.{OpenedCatalog}
use Rattle.listing.specs.declared.symbol_listing.SkippedSymbol.TheVariants as symbol_cause
use Rattle.texts.specs.Lines.{lines_of}
use Rattle.texts.specs.declared.faults.LineFault.{LineFault}
use Rattle.texts.specs.declared.faults.LineFault.TheVariants as line
use Rattle.listing.specs.ModuleListing.{module_place}
use Rattle.listing.specs.Opening.{Given, Listed, Say, lines_beside, listings_of, notes_of}
use Rattle.listing.specs.Opening.{parts_alone, skipped_modules_of, symbols_of}
use Rattle.listing.specs.SymbolListing.{symbol_counts, symbol_place}
use Rattle.modules.specs.Entries.{CatalogEntries}
use Rattle.modules.specs.Listed.{BoundNames}
use Rattle.modules.specs.ListingParts.{ListingParts}
use Rattle.modules.specs.Placed.{are_few}
use Rattle.modules.specs.declared.catalog.BuildCounts.{BuildCounts}
use Rattle.latchsym_ffi.specs.Answers.{number_if_noted}
use Rattle.latchsym_ffi.specs.Listings.{kernel_in, texts_in}
use Rattle.latchsym_ffi.specs.declared.listings.CatalogListings.{CatalogListings}
use Rattle.latchsym_ffi.specs.declared.opening.CatalogCounts.{CatalogCounts}
use Rattle.latchsym_ffi.specs.declared.opening.CatalogFault.{CatalogFault}
use Rattle.latchsym_ffi.specs.declared.opening.CatalogFault.TheVariants.{BadLine, Refused}

-- how many lines of modules are skipped for a cause, by the counts of the causes if there are any
abbrev pub skipped_for : Option (List ℕ) → SkippedModule → ℕ
skipped_for counts cause = option_map_or (λ m. slice_index m (module_place cause)) counts 0

-- the counts of the skipped lines of both listings, by cause, the counts of the build, and the
-- notes
abbrev pub counts_in : Option (List ℕ) → List ℕ → BuildCounts → ListingNotes → CatalogCounts
counts_in m s b notes = record {
  modules = b.modules;
  modules_hidden = skipped_for m module_cause.Hidden;
  modules_empty = skipped_for m module_cause.Empty;
  modules_wraps = skipped_for m module_cause.Wraps;
  modules_overlap = b.overlap;
  modules_double = b.double;
  modules_long = skipped_for m module_cause.Long;
  modules_malformed = skipped_for m module_cause.Malformed;
  symbols = b.symbols;
  symbols_hidden = slice_index s (symbol_place symbol_cause.Hidden);
  symbols_stray = b.stray;
  symbols_long = slice_index s (symbol_place symbol_cause.Long);
  symbols_malformed = slice_index s (symbol_place symbol_cause.Malformed);
  regions = b.regions;
  regions_stray = b.stray_regions;
  modules_note = number_if_noted notes.modules;
  symbols_note = number_if_noted notes.kallsyms;
}

-- of what was opened
abbrev pub counts_of : OpenedCatalog → CatalogCounts
counts_of o =
    counts_in (option_map (λ k. k.by_place) o.skipped_modules) o.skipped_symbols.by_place o.built
    o.notes

-- of listings that say this catalog and these counts
abbrev pub counts_with : Option BoundNames → Listed → CatalogEntries → BuildCounts → CatalogCounts
counts_with kernel l c n =
    counts_in (skipped_modules_of l) (symbol_counts (lines_of l.kallsyms)) n
    (notes_of kernel false l c n)

-- the catalog and the counts of listings, without mapping symbols
abbrev pub IsCounted : Option BoundNames → CatalogEntries → CatalogCounts → Listed → Type 0
IsCounted kernel c counts l =
    (n : BuildCounts) × Say kernel false l c n × (counts ≡ counts_with kernel l c n)

-- they are of what C gives
abbrev pub AreRead : CatalogListings → CatalogEntries → CatalogCounts → Type 0
AreRead given c counts =
    IsOkAnd (listings_of (texts_in given)) (IsCounted (kernel_in given) c counts)

-- the parts of the listing of symbols that C gives, if no listing of modules is beside it
abbrev pub IsListedFor : CatalogListings → Option ListingParts → Type 0
IsListedFor given listing = IsOkAnd (listings_of (texts_in given)) (λ l.
    listing ≡ parts_alone (kernel_in given) (symbols_of false l.kallsyms) l.modules)

-- why no catalog is opened if the listing of regions is not read
abbrev pub fault_of : LineFault → CatalogFault
fault_of (line.BadLine n) = BadLine n
fault_of line.OutOfMemory = Refused refusal.OutOfMemory
fault_of line.Read = Refused refusal.OutOfMemory

-- more than seven region lines have one name
abbrev pub HasTooManyRegionLines : Given → Type 0
HasTooManyRegionLines g = IsOkAnd (listings_of g) (λ l. are_few (lines_beside l) ≡ false)

-- why the texts are refused
abbrev pub RefusesTexts : Given → CatalogFault → Type 0
RefusesTexts g (Refused refusal.OutOfMemory) = Unit {0}
RefusesTexts g (Refused refusal.TooManyRegions) = HasTooManyRegionLines g
RefusesTexts g (BadLine n) = listings_of g ≡ Err n
RefusesTexts g _ = ⊥
