-- The listing at a time.
use Rattle.std.specs.Prelude.{◌≡◌, ◌≤◌, ℕ, ◌-◌, ◌==◌, if◌then◌else◌, nat_le, filter, length, min}
use Rattle.std.specs.Prelude.{take}
use Rattle.std.specs.Prelude.{List, [], ◌∷◌, get_or, Option, Some, None}
use Rattle.std.specs.Prelude.{All, true, Result, Ok, Err}
use Rattle.std.specs.List.{flat_map, prefix_len}
use Rattle.std.specs.Option.{option_map_or}
use Rattle.modules.specs.LastBegun.{last_begun}
use Rattle.logs.specs.Lines.{lines}
use Rattle.histories.specs.Changes.{changed_by}
use Rattle.histories.specs.Grammar.{HistoryPart, history_of}
use Rattle.histories.specs.ListingLines.{is_of_kernel, without_end}

-- the listing from a part on, if this one was before
abbrev pub after_part : List ℕ → HistoryPart → List ℕ
after_part before part = if part.header.is_change then changed_by part.text before else part.text

-- likewise of parts, one after the other
abbrev pub after_parts : List ℕ → List HistoryPart → List ℕ
after_parts before [] = before
after_parts before (part ∷ parts) = after_parts (after_part before part) parts

-- no listing is among these parts
abbrev pub AreChanges : List HistoryPart → Type 0
AreChanges parts = All (λ part. part.header.is_change ≡ true) parts

-- the lines of the kernel itself
abbrev pub kernel_lines : List ℕ → List ℕ
kernel_lines listing =
    flat_map (λ line. if is_of_kernel (without_end line) then line else []) (lines listing)

-- before the first time: the kernel itself does not move
abbrev pub before_all : List HistoryPart → List ℕ
before_all [] = []
before_all (first ∷ parts) = kernel_lines first.text

-- the listing after the first `count` parts
abbrev pub listing_after : ℕ → List HistoryPart → List ℕ
listing_after count parts =
    if count == 0 then before_all parts else after_parts [] (take count parts)

-- the first part has the first listing, if there is a part
abbrev pub first_count : List HistoryPart → ℕ
first_count parts = min (length parts) 1

-- how many parts have a time that is not above this one; without a time all count
abbrev pub count_at : Option ℕ → List HistoryPart → ℕ
count_at None parts = length parts
count_at (Some time) parts = prefix_len (λ part. nat_le part.header.time time) parts

-- the listing at a time, or at the end
abbrev pub listing_at : Option ℕ → List HistoryPart → List ℕ
listing_at time parts = listing_after (count_at time parts) parts

-- the listing at a time in the file with these lines, or the number of the first line that is not
-- understood
abbrev pub listing_in : Option ℕ → List (List ℕ) → Result (List ℕ) ℕ
listing_in time file = elim (history_of file) [
  | Ok parts ↦ Ok (listing_at time parts)
  | Err n ↦ Err n
]

-- ---- each listing with the time from which on it holds

pub record DatedListing : Type 0 where
  pub since : ℕ
  pub text : List ℕ

-- the listing of each of these parts, if this one was before them
abbrev pub dated_listings : List ℕ → List HistoryPart → List DatedListing
dated_listings before [] = []
dated_listings before (part ∷ parts) =
    let text = after_part before part in
    record { since = part.header.time; text = text } ∷ dated_listings text parts

-- The last of them that began at or before the time, or the kernel itself before the first. It is
-- `listing_at` of parts in the order of time (a law of this crate).
abbrev pub last_listing : ℕ → List HistoryPart → List ℕ
last_listing time parts =
    option_map_or (λ l. l.text) (last_begun (λ l. l.since) time (dated_listings [] parts))
    (before_all parts)

-- ---- what a history has

abbrev pub changes_in : List HistoryPart → ℕ
changes_in parts = length (filter (λ part. part.header.is_change) parts)

-- the others
abbrev pub listings_in : List HistoryPart → ℕ
listings_in parts = length parts - changes_in parts

-- the TIME of the first part and the one of the last, as they are written
abbrev pub span_of : List HistoryPart → Option (List ℕ × List ℕ)
span_of [] = None
span_of (first ∷ more) =
    let last = get_or (first ∷ more) (length more) first in
    Some (first.time_text, last.time_text)

-- ---- a listing with its place

-- a listing, and after how many parts it is
pub record ListingAfter : Type 0 where
  pub count : ℕ
  pub text : List ℕ

-- it is a listing of this history
abbrev pub IsOf : List HistoryPart → ListingAfter → Type 0
IsOf parts l = (l.count ≤ length parts) × (l.text ≡ listing_after l.count parts)

-- it is the one at a time, or at the end
abbrev pub IsAt : Option ℕ → List HistoryPart → ListingAfter → Type 0
IsAt time parts l = (l.count ≡ count_at time parts) × (l.text ≡ listing_at time parts)
