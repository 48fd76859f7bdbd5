-- What is written for listings and for the addresses that are asked for.
use Rattle.std.specs.Prelude.{◌≡◌, ℕ, List, [], false, is_some}
use Rattle.std.specs.Prelude.{Option, Some, None, Result, Ok, Err, IfSome, unwrap_or}
use Rattle.std.specs.Global.{Vec}
use Rattle.std.specs.Option.{option_map}
use Rattle.texts.specs.Counted.{Rose}
use Rattle.texts.specs.Said.{entries_after}
use Rattle.texts.specs.declared.output.Output.{Output}
use Rattle.texts.specs.Output.{Delivered, WrotePart}
use Rattle.order_laws.specs.declared.refusals.Refusal.TheVariants as refusal
use Rattle.modules.specs.Entries.{CatalogEntries}
use Rattle.modules.specs.Lines.{usual_bounds}
use Rattle.modules.specs.Listed.{BoundNames}
use Rattle.modules.specs.Placed.{are_few}
use Rattle.modules.specs.declared.catalog.BuildCounts.{BuildCounts}
use Rattle.listing.specs.Addresses.{addresses_of}
use Rattle.listing.specs.Opening.{Listed, Say, lines_beside, notes_of}
use Rattle.listing.specs.Tallies.{tallies_with}
use Rattle.listing.specs.declared.listing_notes.ListingNotes.{ListingNotes}
use Rattle.command_tables.specs.CatalogTables.{HasFewRegions, HasManyRegions}
use Rattle.command_tables.specs.Inputs.{Inputs}
use Rattle.command_tables.specs.LookupTexts.{Query, lookup_lines}
use Rattle.command_parts.specs.Readings.{AnswersInputs, Failures}
use Rattle.command_parts.specs.declared.fault.Fault.{Fault}
use Rattle.command_parts.specs.declared.fault.Fault.TheVariants.{Refused, BadLine, Read, Write}

-- ---- what is asked

-- the addresses of a file that may be there
abbrev pub listed_addresses : Option (List ℕ) → Result (List ℕ) ℕ
listed_addresses None = Ok []
listed_addresses (Some text) = addresses_of text

-- the addresses that are given, and after them the ones of the file
abbrev pub all_addresses : List ℕ → Option (List ℕ) → Result (List ℕ) ℕ
all_addresses given text = entries_after given (listed_addresses text)

-- all addresses of a query, if the text of the file is known
abbrev pub addresses_known : Query → Option (Option (List ℕ)) → Option (Result (List ℕ) ℕ)
addresses_known query file = option_map (all_addresses query.addresses) file

-- the addresses of both places, if the text of the file is known, or why they are not there
abbrev pub GivesAddresses : List ℕ → Option (Option (List ℕ)) → ℕ → ℕ
    → Result (Vec ℕ) Fault → Type 0
GivesAddresses given known before after (Ok v) =
    (after ≡ before) × IfSome known (λ text. all_addresses given text ≡ Ok v.items)
GivesAddresses given known before after (Err (Refused refusal.OutOfMemory)) = after ≡ before
GivesAddresses given known before after (Err (BadLine place n)) =
    (after ≡ before) × (place ≡ 3) × IfSome known (λ text. all_addresses given text ≡ Err n)
GivesAddresses given known before after (Err (Read place)) = (place ≡ 3) × Rose before after
GivesAddresses given known before after (Err _) = ⊥

-- ---- what is answered

-- the names that bound the kernel: those that are given, or else the usual ones if modules are
-- listed
abbrev pub bounds_beside : BoundNames → Option BoundNames → Option (List ℕ) → Option BoundNames
bounds_beside usual kernel (Some text) = Some (unwrap_or kernel usual)
bounds_beside usual kernel None = kernel

abbrev pub bounds_of_lookup : Query → Listed → Option BoundNames
bounds_of_lookup query l = bounds_beside usual_bounds query.kernel l.modules

-- listings say this catalog and these counts to a lookup, which keeps mapping symbols if modules
-- are listed
abbrev pub SayToLookup : Query → Listed → CatalogEntries → BuildCounts → Type 0
SayToLookup query l c n = Say (bounds_of_lookup query l) (is_some l.modules) l c n

-- A line for each address and then the counts were written, as far as this says, by the catalog of
-- the listings, which a table can have. This is noted of them.
pub record IsLookedUp (Wrote : List ℕ → Type 0) (query : Query) (i : Inputs (List ℕ))
    (notes : ListingNotes)
    : Type 0 where
  pub catalog : CatalogEntries
  pub counts : BuildCounts
  pub said : SayToLookup query i.listings catalog counts
  pub few : HasFewRegions catalog
  pub wrote :
      Wrote (lookup_lines query.form catalog query.rule i.said
      (tallies_with i.listings counts))
  pub noted :
      notes ≡ notes_of (bounds_of_lookup query i.listings) (is_some i.listings.modules)
      i.listings catalog counts

-- the catalog of the listings has more regions than a table
abbrev pub FitsNoTable : Query → Listed → Type 0
FitsNoTable query l =
    (c : CatalogEntries) × (n : BuildCounts) × SayToLookup query l c n × HasManyRegions c

-- What is returned that looks addresses up in this catalog, and writes this text. Every fault but a
-- failed write leaves the writer as it was, and a call of it failed then alone.
abbrev pub WritesLookup : {W : Type 0} → (W → Option (List ℕ)) → CatalogEntries → List ℕ
    → Output W → Output W → Result (Unit {0}) Fault → Type 0
WritesLookup contents c text w w' (Ok _) = HasFewRegions c × Delivered contents w w' text
WritesLookup contents c text w w' (Err (Refused refusal.OutOfMemory)) = w' ≡ w
WritesLookup contents c text w w' (Err (Refused refusal.BadCapacity)) =
    (w' ≡ w) × HasManyRegions c
WritesLookup contents c text w w' (Err Write) = HasFewRegions c × WrotePart contents w w' text
WritesLookup contents c text w w' (Err _) = ⊥

-- what is said of the inputs if this is returned
abbrev pub IsLookupOf : {W : Type 0} → (W → Option (List ℕ)) → Query → Output W → Output W
    → Inputs (List ℕ) → Result ListingNotes Fault → Type 0
IsLookupOf contents query w w' i (Ok notes) =
    IsLookedUp (Delivered contents w w') query i notes
IsLookupOf contents query w w' i (Err (Refused refusal.BadCapacity)) =
    FitsNoTable query i.listings
IsLookupOf contents query w w' i (Err (Refused refusal.TooManyRegions)) =
    are_few (lines_beside i.listings) ≡ false
IsLookupOf contents query w w' i (Err Write) =
    (notes : ListingNotes) × IsLookedUp (WrotePart contents w w') query i notes
IsLookupOf contents query w w' i (Err _) = Unit {0}

-- what is returned if the inputs were read, if these are known
abbrev pub AnswersLookup : {W : Type 0} → (W → Option (List ℕ)) → Query
    → Option (Result (Inputs (List ℕ)) (ℕ × ℕ)) → Failures → Output W → Output W
    → Result ListingNotes Fault → Type 0
AnswersLookup contents query known counts w w' result =
    AnswersInputs (IsLookupOf contents query w w') known counts w w' result
