-- A table that has the regions of the catalog shown last.
use Rattle.std.specs.Prelude.{◌≡◌, ◌⊎◌, ◌≤◌, ℕ, ◌+◌, ◌-◌, List, [], ◌∷◌, ◌++◌, All, length, take}
use Rattle.std.specs.Prelude.{position, Option, Some, None}
use Rattle.order_laws.specs.declared.items.Item.{Item}
use Rattle.order_laws.specs.declared.refusals.Refusal.TheVariants.{OutOfMemory}
use Rattle.order_laws.specs.Orders.{half_open}
use Rattle.order_laws.specs.Tables.{look}
use Rattle.order_laws.specs.declared.refusals.Refusal.{Refusal}
use Rattle.table_updates.specs.declared.updates.Update.{Update}
use Rattle.table_updates.specs.declared.updates.Update.TheVariants.{Batch}
use Rattle.table_updates.specs.Updates.{replay}
use Rattle.latch_table.specs.Replacing.{BeginsReplacing, RefusesReplacing}
use Rattle.latch_table.specs.Writers.{Begins, Finishes, Refuses, WriterState}
use Rattle.modules.specs.Entries.{CatalogEntries}
use Rattle.modules.specs.Items.{item_of_address}
use Rattle.modules.specs.RegionIndexes.{IsIndexOf}
use Rattle.follower.specs.declared.catalogs.DatedCatalog.{DatedCatalog}
use Rattle.follower.specs.declared.noted.DatedCode.{DatedCode}
use Rattle.follower.specs.declared.noted.NotedTime.{NotedTime}
use Rattle.follower.specs.declared.follower.NotShown.{NotShown}
use Rattle.follower.specs.declared.follower.NotShown.TheVariants.{Refused, StampFalls}
use Rattle.follower.specs.Catalogs.{EachStands}
use Rattle.follower.specs.Code.{CodeEntry}
use Rattle.follower.specs.Noted.{Ends, stays_at}

-- the writer of a table, the catalogs that it showed, and the code that was noted, the newest first
pub record Followed : Type 0 where
  pub writer : WriterState
  pub catalogs : List DatedCatalog
  pub noted : List DatedCode

-- how many updates were accepted, above the opening generation: at rest all of them are shown
abbrev pub generation_of : WriterState → ℕ
generation_of w = w.base + length w.history

-- the table at a generation that was reached
abbrev pub table_at : WriterState → ℕ → List Item
table_at w generation = replay half_open [] (take (generation - w.base) w.history)

-- at the generation each address lay in the region that it lies in by the catalog
abbrev pub IsShownAt : WriterState → ℕ → CatalogEntries → Type 0
IsShownAt w generation c =
    (addr : ℕ) → look half_open addr (table_at w generation) ≡ item_of_address c addr

-- no update is pending, and at each generation that was reached the table showed the catalog that
-- is current there, if one is
pub record IsFollowed (w : WriterState) (dated : List DatedCatalog) : Type 0 where
  pub rests : w.latch.pending ≡ None
  pub stands : EachStands (IsShownAt w) (generation_of w) dated

-- the update is pending after which the table has these items, at this generation and no flip made
pub record IsBegun (w : WriterState) (items : List Item) (w' : WriterState) (previous : ℕ)
    : Type 0 where
  pub replaces : BeginsReplacing half_open w items w'
  pub reaches : replay half_open [] w'.history ≡ items
  pub before : previous ≡ generation_of w

-- the update is pending after which the table has the regions of the catalog; this is kept already,
-- and current from the generation of the update on
pub record BeginsToShow (d : DatedCatalog) (w w' : WriterState) (dated dated' : List DatedCatalog)
    : Type 0 where
  pub items : List Item
  pub indexed : IsIndexOf d.catalog items
  pub begun : IsBegun w items w' d.previous
  pub since : All (λ e. e.since ≤ d.since) dated
  pub kept : dated' ≡ dated ++ d ∷ []

-- the catalog as it is kept
abbrev pub dated_as : CatalogEntries → ℕ → ℕ → WriterState → DatedCatalog
dated_as c since tag w =
    record { previous = generation_of w; since = since; tag = tag; catalog = c }

-- the regions of the catalog replaced the table in one update, and it is current from the
-- generation of this update on
pub record Shows (c : CatalogEntries) (since tag : ℕ) (old new : Followed) (generation : ℕ)
    : Type 0 where
  pub pending : WriterState
  pub begun : BeginsToShow (dated_as c since tag old.writer) old.writer pending old.catalogs
      new.catalogs
  pub finished : Finishes pending new.writer generation
  pub noted : new.noted ≡ old.noted

-- its stamp is below the stamp of an earlier catalog, or the table refuses its regions, or memory
-- ran out
abbrev pub RefusesToShow : CatalogEntries → ℕ → WriterState → List DatedCatalog → NotShown → Type 0
RefusesToShow c since w dated StampFalls = All (λ d. d.since ≤ since) dated → ⊥
RefusesToShow c since w dated (Refused why) =
    ((items : List Item) × IsIndexOf c items × RefusesReplacing half_open w items why)
    ⊎ (why ≡ OutOfMemory)

-- an update that neither erases nor inserts
abbrev pub no_change : Update
no_change = Batch [] []

-- it is pending, at this generation and no flip made
pub record BeginsMoment (w w' : WriterState) (previous : ℕ) : Type 0 where
  pub begins : Begins half_open w no_change w'
  pub before : previous ≡ generation_of w

-- the generation of an update in which the table stayed as it was
pub record PassesMoment (w w' : WriterState) (generation : ℕ) : Type 0 where
  pub pending : WriterState
  pub begun : BeginsMoment w pending (generation_of w)
  pub finished : Finishes pending w' generation

-- the table refuses such an update, or memory ran out
abbrev pub RefusesMoment : WriterState → Refusal → Type 0
RefusesMoment w e = Refuses half_open w no_change e ⊎ (e ≡ OutOfMemory)

-- when something is noted of which this is the stamp
abbrev pub time_as : WriterState → ℕ → NotedTime
time_as w since = record { previous = generation_of w; since = since }

-- the code as it is kept
abbrev pub code_as : CodeEntry → ℕ → WriterState → DatedCode
code_as code since w = record { code = code; begun = time_as w since; gone = None }

-- the code is noted, and there from its own generation on
pub record Notes (code : CodeEntry) (since : ℕ) (old new : Followed) (generation : ℕ)
    : Type 0 where
  pub passed : PassesMoment old.writer new.writer generation
  pub noted : new.noted ≡ code_as code since old.writer ∷ old.noted
  pub catalogs : new.catalogs ≡ old.catalogs

-- the code noted last of those that begin there and stay is gone from its own generation on
pub record NotesGone (start since : ℕ) (old new : Followed) (generation : ℕ) : Type 0 where
  pub passed : PassesMoment old.writer new.writer generation
  pub ended : Ends start (time_as old.writer since) old.noted new.noted
  pub catalogs : new.catalogs ≡ old.catalogs

-- so it is, if some begins there and stays
abbrev pub NotesGoneAny : ℕ → ℕ → Followed → Followed → Option ℕ → Type 0
NotesGoneAny start since old new None = (position (stays_at start) old.noted ≡ None) × (new ≡ old)
NotesGoneAny start since old new (Some generation) = NotesGone start since old new generation
