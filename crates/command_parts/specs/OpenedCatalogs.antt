-- The catalog that listings say, and what is noted of them.
use Rattle.std.specs.Prelude.{◌≡◌, ℕ, List, [], ◌∷◌, Option, Some, None, Result, Ok, Err, false}
use Rattle.std.specs.Option.{option_map}
use Rattle.texts.specs.Counted.{device_of, failures_of}
use Rattle.modules.specs.Entries.{CatalogEntries}
use Rattle.modules.specs.Listed.{BoundNames}
use Rattle.modules.specs.Placed.{are_few}
use Rattle.modules.specs.declared.catalog.BuildCounts.{BuildCounts}
use Rattle.order_laws.specs.declared.refusals.Refusal.TheVariants as refusal
use Rattle.listing.specs.Opening.{Given, IsOpened, Listed, Say, given, lines_beside, listed_in}
use Rattle.listing.specs.Opening.{listings_of, notes_of}
use Rattle.listing.specs.declared.listing_notes.ListingNotes.{ListingNotes}
use Rattle.listing.specs.declared.opening.Listings.{Listings}
use Rattle.listing.specs.declared.opening.OpenedCatalog.{OpenedCatalog}
use Rattle.command_parts.specs.Readings.{Failures, HoldsOf, NoReaderFailed, OnlyFailed, failures_in}
use Rattle.command_parts.specs.Readings.{known_text}
use Rattle.command_parts.specs.declared.fault.Fault.{Fault}
use Rattle.command_parts.specs.declared.fault.Fault.TheVariants.{Refused, BadLine, Read}
use Rattle.command_parts.specs.declared.opened_catalogs.ListingReaders.{ListingReaders}
use Rattle.command_parts.specs.declared.opened_catalogs.ListingTexts.{ListingTexts}

-- ---- what is read

-- the texts that the program has read
abbrev pub texts_in : ListingTexts → Given
texts_in t = record {
  modules = option_map (λ text. text.items) t.modules;
  kallsyms = t.kallsyms.items;
  regions = option_map (λ text. text.items) t.regions;
}

-- the texts, if each of them is known
abbrev pub given_of : Option (Option (List ℕ)) → Option (List ℕ) → Option (Option (List ℕ))
    → Option Given
given_of (Some modules) (Some kallsyms) (Some regions) = Some (given modules kallsyms regions)
given_of _ _ _ = None

abbrev pub known_given : {M K R : Type 0} → (M → Option (List ℕ)) → (K → Option (List ℕ))
    → (R → Option (List ℕ)) → ListingReaders M K R → Option Given
known_given modules kallsyms regions readers =
    given_of (known_text modules readers.modules) (kallsyms (device_of readers.kallsyms))
    (known_text regions readers.regions)

-- the counts of failed calls, in the order in which the listings are read
abbrev pub listing_failures : {M K R : Type 0} → ListingReaders M K R → ListingReaders M K R
    → Failures
listing_failures old new =
    (failures_in old.modules, failures_in new.modules)
    ∷ (failures_of old.kallsyms, failures_of new.kallsyms)
    ∷ (failures_in old.regions, failures_in new.regions) ∷ []

-- all of these files were read whole, or why they were not
abbrev pub AreReadAs : {A : Type 0} → Failures → Result A Fault → Type 0
AreReadAs counts (Ok _) = NoReaderFailed counts
AreReadAs counts (Err (Refused refusal.OutOfMemory)) = NoReaderFailed counts
AreReadAs counts (Err (Read place)) = OnlyFailed place counts
AreReadAs counts (Err _) = ⊥

-- ---- what it says

-- a line of the listing of regions is bad, and this is the first such line
abbrev pub HasBadRegion : ℕ → Given → Type 0
HasBadRegion n g = listings_of g ≡ Err n

-- more than seven lines of the listing of regions have one name
abbrev pub HasCrowdedRegions : Given → Type 0
HasCrowdedRegions g = HoldsOf (λ l. are_few (lines_beside l) ≡ false) (listings_of g)

-- the listings with these texts, or why there are none
abbrev pub GivesListings : Given → Result Listings Fault → Type 0
GivesListings g (Ok l) = listings_of g ≡ Ok (listed_in l)
GivesListings g (Err (Refused refusal.OutOfMemory)) = Unit {0}
GivesListings g (Err (BadLine place n)) = (place ≡ 2) × HasBadRegion n g
GivesListings g (Err _) = ⊥

-- The catalog and the notes of listings, without mapping symbols. The kernel lies between the names
-- that are given, or else in its usual regions.
abbrev pub IsCatalogBy : Option BoundNames → CatalogEntries → ListingNotes → Listed → Type 0
IsCatalogBy kernel c notes l =
    (n : BuildCounts) × Say kernel false l c n × (notes ≡ notes_of kernel false l c n)

-- they are of listings with these texts
abbrev pub IsCatalogOf : Option BoundNames → Given → CatalogEntries → ListingNotes → Type 0
IsCatalogOf kernel g c notes = HoldsOf (IsCatalogBy kernel c notes) (listings_of g)

-- what is returned that opens listings with these texts
abbrev pub OpensCatalog : Option BoundNames → Given → Result OpenedCatalog Fault → Type 0
OpensCatalog kernel g (Ok o) = HoldsOf (λ l. IsOpened kernel false l o) (listings_of g)
OpensCatalog kernel g (Err (Refused refusal.OutOfMemory)) = Unit {0}
OpensCatalog kernel g (Err (Refused refusal.TooManyRegions)) = HasCrowdedRegions g
OpensCatalog kernel g (Err (BadLine place n)) = (place ≡ 2) × HasBadRegion n g
OpensCatalog kernel g (Err _) = ⊥
