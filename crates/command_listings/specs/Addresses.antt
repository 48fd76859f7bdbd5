-- What is written for names that are asked for.
use Rattle.std.specs.Prelude.{◌≡◌, List, ℕ, Option}
use Rattle.modules.specs.Entries.{CatalogEntries}
use Rattle.modules.specs.Listed.{BoundNames}
use Rattle.command_parts.specs.OpenedCatalogs.{IsCatalogOf}
use Rattle.command_parts.specs.declared.fault.Finished.{Finished}
use Rattle.listing.specs.Opening.{Given}
use Rattle.listing.specs.SymbolListing.{symbols_in}
use Rattle.texts.specs.Lines.{lines_of}
use Rattle.command_listings.specs.AddressTexts.{address_status, address_text}
use Rattle.command_listings.specs.declared.address_texts.AddressOptions.{AddressOptions}

-- the lines of these words, in this form, by the catalog of the listings, with the status of them
-- and what is noted of the listings
abbrev pub IsAddressed : AddressOptions → Option BoundNames → List (List ℕ) → Given → List ℕ
    → Finished → Type 0
IsAddressed form kernel words g text finished =
    (c : CatalogEntries) × IsCatalogOf kernel g c finished.notes
    × (text ≡ address_text form c (symbols_in (lines_of g.kallsyms)) words)
    × (finished.status ≡ address_status form c (symbols_in (lines_of g.kallsyms)) words)
