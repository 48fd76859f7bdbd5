-- What is written of listings that are checked.
use Rattle.std.specs.Prelude.{◌≡◌, ℕ, nat_eq, if◌then◌else◌, List, [], ◌++◌, Option, Some, None}
use Rattle.std.specs.Prelude.{codes, decimal, false, is_none, unwrap_or}
use Rattle.std.specs.Option.{option_map, option_map_or}
use Rattle.modules.specs.Entries.{CatalogEntries}
use Rattle.modules.specs.Lines.{bounds_for}
use Rattle.modules.specs.Listed.{BoundNames}
use Rattle.modules.specs.declared.catalog.BuildCounts.{BuildCounts}
use Rattle.histories.specs.Grammar.{HistoryPart}
use Rattle.histories.specs.ListingsAt.{changes_in, listings_in, span_of}
use Rattle.listing.specs.ListingNotes.{is_of_kallsyms, is_of_modules}
use Rattle.listing.specs.Opening.{Given, Listed, Say, listings_of, symbols_of}
use Rattle.listing.specs.Tallies.{Tallies, counts_text, tallies_of, tallies_with}
use Rattle.listing.specs.declared.opening.OpenedCatalog.{OpenedCatalog}
use Rattle.command_parts.specs.Readings.{HoldsOf}
use Rattle.command_listings.specs.NoteTexts.{applying_lines}
use Rattle.command_listings.specs.declared.checks.TheConstants as said
use Rattle.command_listings.specs.declared.sources.ListingFiles.{ListingFiles}

-- the name of the file of modules, which is empty if there is none
abbrev pub modules_name : ListingFiles → List ℕ
modules_name files = unwrap_or (option_map (λ f. f.now) files.modules) []

-- the notes that apply to a listing of modules, if there is one
abbrev pub lines_on_modules : BoundNames → ListingFiles → Option (List ℕ) → List ℕ → CatalogEntries
    → List ℕ
lines_on_modules names files modules kallsyms c =
    option_map_or
    (λ text. applying_lines names (modules_name files) (is_of_modules false text kallsyms c))
    modules []

-- the first and the last time of a history, as they are written
abbrev pub span_text : Option (List ℕ × List ℕ) → List ℕ
span_text None = []
span_text (Some (first, last)) = said.FROM.now ++ first ++ said.TO.now ++ last

-- how many listings and how many changes a history has, and its first and its last time
abbrev pub history_line : List HistoryPart → List ℕ
history_line parts =
    said.LISTINGS.now ++ decimal (listings_in parts) ++ said.CHANGES.now
    ++ decimal (changes_in parts) ++ span_text (span_of parts) ++ codes "\n"

-- of a history that may be there
abbrev pub history_text : Option (List HistoryPart) → List ℕ
history_text history = option_map_or history_line history []

-- The notes that apply to listings with these texts in these files, first on the modules; the
-- counts of a history, if they are from one; and the counts of their lines. These names bound the
-- kernel, and this number of symbols is kept.
abbrev pub report_by : BoundNames → ListingFiles → Option (List HistoryPart) → Option (List ℕ)
    → List ℕ → CatalogEntries → ℕ → Tallies → List ℕ
report_by names files history modules kallsyms c kept tallies =
    lines_on_modules names files modules kallsyms c
    ++ applying_lines names files.kallsyms.now
    (is_of_kallsyms names (is_none modules) kallsyms kept)
    ++ history_text history ++ counts_text tallies

-- of listings that were opened
abbrev pub opened_report : BoundNames → ListingFiles → Option (List HistoryPart) → Given
    → OpenedCatalog → List ℕ
opened_report names files history g o =
    report_by names files history g.modules g.kallsyms o.catalog o.built.symbols (tallies_of o)

-- of listings that say this catalog and these counts
abbrev pub report : Option BoundNames → ListingFiles → Option (List HistoryPart) → Listed
    → CatalogEntries → BuildCounts → List ℕ
report kernel files history l c n =
    report_by (bounds_for kernel (symbols_of false l.kallsyms)) files history l.modules l.kallsyms c
    n.symbols (tallies_with l n)

-- the program's status, by how many symbols are kept
abbrev pub status_of_kept : ℕ → ℕ
status_of_kept kept = if nat_eq kept 0 then 1 else 0

-- the report on listings in these files, which a history may have, and the status
abbrev pub IsReport : Option BoundNames → ListingFiles → Option (List HistoryPart) → List ℕ → ℕ
    → Listed → Type 0
IsReport kernel files history text status l =
    (c : CatalogEntries) × (n : BuildCounts) × Say kernel false l c n
    × (text ≡ report kernel files history l c n) × (status ≡ status_of_kept n.symbols)

-- of the listings with these texts
abbrev pub IsChecked : Option BoundNames → ListingFiles → Option (List HistoryPart) → Given
    → List ℕ → ℕ → Type 0
IsChecked kernel files history g text status =
    HoldsOf (IsReport kernel files history text status) (listings_of g)
