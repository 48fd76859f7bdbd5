-- What is read of a log that lasts, and of the listings that name it.
use Rattle.std.specs.Prelude.{◌≡◌, ℕ, List, [], ◌∷◌, ◌++◌, take, Option, Some, Result, Ok, Err}
use Rattle.std.specs.Prelude.{IfOk, IfSome}
use Rattle.std.specs.Io.KnownBytes.{ReadConsumes}
use Rattle.command_parts.specs.OpenedCatalogs.{texts_in}
use Rattle.command_parts.specs.declared.fault.Fault.{Fault}
use Rattle.command_parts.specs.declared.fault.Fault.TheVariants.{Read, Refused}
use Rattle.command_parts.specs.declared.opened_catalogs.ListingTexts.{ListingTexts}
use Rattle.command_listings.specs.declared.lasting_log.Unlisted.{Unlisted}
use Rattle.listing.specs.Opening.{Given}
use Rattle.order_laws.specs.declared.refusals.Refusal.TheVariants as refusal

-- What is read at once: a block of the log, with no bytes at its end; the texts of the listings; or
-- nothing, for this fault.
pub data Event : Type 0 where
  Block : List ℕ → Event
  Listings : Given → Event
  Failed : Fault → Event

-- What was read of a log and of its listings, in order; the bytes of the log that are left; what
-- the listings give that are read next; and what they give after that. Each may be unknown.
pub record Seen : Type 0 where
  pub events : Option (List Event)
  pub left : Option (List ℕ)
  pub next : Option Given
  pub later : Option Given

-- what a call reads that reads a block into a room; and one that reads the listings
abbrev pub block_event : List ℕ → Result ℕ Fault → Event
block_event room (Ok count) = Block (take count room)
block_event room (Err fault) = Failed fault

abbrev pub listings_event : Result ListingTexts Unlisted → Event
listings_event (Ok texts) = Listings (texts_in texts)
listings_event (Err unlisted) = Failed unlisted.fault

-- the fault is one of listings that are read
abbrev pub IsFaultOfListings : Fault → Type 0
IsFaultOfListings (Refused refusal.OutOfMemory) = Unit {0}
IsFaultOfListings (Read place) = Unit {0}
IsFaultOfListings _ = ⊥

-- these events came after the earlier ones, if those are known
abbrev pub Happen : Option (List Event) → Option (List Event) → List Event → Type 0
Happen before after events = IfSome before (λ earlier. after ≡ Some (earlier ++ events))

-- a call read a block of the log into a room: what was left has lost it
pub record ReadsBlock (before after : Seen) (room : List ℕ) (result : Result ℕ Fault)
    : Type 0 where
  pub event : Happen before.events after.events (block_event room result ∷ [])
  pub bytes : ReadConsumes before.left after.left result room
  pub next : after.next ≡ before.next
  pub later : after.later ≡ before.later

-- a call read the listings: they gave what their files hold
pub record ReadsListings (before after : Seen) (result : Result ListingTexts Unlisted)
    : Type 0 where
  pub event : Happen before.events after.events (listings_event result ∷ [])
  pub texts : IfOk result (λ texts. IfSome before.next (λ known. texts_in texts ≡ known))
  pub left : after.left ≡ before.left
  pub next : after.next ≡ before.later
  pub later : after.later ≡ before.later
