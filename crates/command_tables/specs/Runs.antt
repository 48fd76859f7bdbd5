-- What is written for a script and the listings that it is run over.
use Rattle.std.specs.Prelude.{◌≡◌, ℕ, ◌<◌, ◌≤◌, ◌==◌, true, false, if◌then◌else◌, List}
use Rattle.std.specs.Prelude.{Option, Some, Result, Ok, Err}
use Rattle.std.specs.Global.{Vec}
use Rattle.std.specs.List.{list_any}
use Rattle.std.specs.Option.{option_map}
use Rattle.texts.specs.declared.output.Output.{Output}
use Rattle.texts.specs.Output.{Delivered, WrotePart}
use Rattle.latch_table.specs.Limits.{most_readers}
use Rattle.run_files.specs.Scripts.{script_of}
use Rattle.run_files.specs.declared.scripts.ScriptLine.{ScriptLine}
use Rattle.modules.specs.Entries.{CatalogEntries}
use Rattle.modules.specs.Placed.{are_few}
use Rattle.order_laws.specs.declared.refusals.Refusal.TheVariants as refusal
use Rattle.shared_lookup.specs.Followings.{FollowServed}
use Rattle.shared_lookup.specs.Readers.{EachHasLooked}
use Rattle.shared_lookup.specs.Servings.{EachHasOutcome, EachIsAnswered, EachIsFoundIn}
use Rattle.shared_lookup.specs.Servings.{IsWrongCount}
use Rattle.shared_lookup.specs.declared.served.Served.{Served}
use Rattle.command_tables.specs.Assignments.{IsAssigned}
use Rattle.command_tables.specs.CatalogTables.{HasFewRegions}
use Rattle.listing.specs.Opening.{Listed, Say, lines_beside, notes_of}
use Rattle.listing.specs.declared.listing_notes.ListingNotes.{ListingNotes}
use Rattle.modules.specs.Listed.{BoundNames}
use Rattle.modules.specs.declared.catalog.BuildCounts.{BuildCounts}
use Rattle.command_parts.specs.Readings.{AnswersInputs, Failures}
use Rattle.command_tables.specs.Inputs.{Inputs}
use Rattle.command_tables.specs.RunTexts.{run_text}
use Rattle.command_tables.specs.declared.assignments.Assignments.{Assignments}
use Rattle.command_parts.specs.declared.fault.Fault.{Fault}
use Rattle.command_parts.specs.declared.fault.Finished.{Finished}
use Rattle.command_parts.specs.declared.fault.Fault.TheVariants.{Refused, Write}

-- the lines of a script for this many readers, if its text is known
abbrev pub script_known : ℕ → Option (List ℕ) → Option (Result (List ScriptLine) ℕ)
script_known readers text = option_map (script_of readers) text

-- a table can have the regions of the catalog, and this many readers
abbrev pub MayRun : CatalogEntries → ℕ → Type 0
MayRun c readers = HasFewRegions c × (0 < readers) × (readers ≤ most_readers)

-- What writers and readers may come back with for what they were assigned. The changes of each
-- writer follow the log of a table with 64-bit sequences; no list of addresses ended early; each
-- answer is what its address lies in at its generation; and some readers, whose loads these are,
-- looked for the answers. That the readers of a run did, `serve` says of what it gives back.
pub record IsServed (c : CatalogEntries) (a : Assignments) (s : Served) : Type 0 where
  pub outcomes : EachHasOutcome c a.changes.items s.changes.items
  pub follow : FollowServed c s.log.items a.changes.items s.changes.items
  pub answers : EachIsAnswered a.keys.items s.answers.items s.ended.items
  pub found : EachIsFoundIn s.log.items s.answers.items
  pub looked : EachHasLooked s.log.items s.answers.items s.readers.items
  pub whole : list_any (λ e. e) s.ended.items ≡ false
  pub wrong : IsWrongCount c a.changes.items s.changes.items s.answers.items s.log.items s.wrong

-- the program's status if this many are wrong
abbrev pub status_of : ℕ → ℕ
status_of wrong = if wrong == 0 then 0 else 1

-- What is returned for what came back, if the changes are of modules of these names.
abbrev pub TellsServed : {W : Type 0} → (W → Option (List ℕ)) → CatalogEntries
    → List (Vec (List ℕ)) → Served
    → Output W → Output W → Result ℕ Fault → Type 0
TellsServed contents c names s w w' (Ok status) =
    (list_any (λ e. e) s.ended.items ≡ false) × (status ≡ status_of s.wrong)
    × Delivered contents w w' (run_text c names s)
TellsServed contents c names s w w' (Err (Refused refusal.OutOfMemory)) =
    (w' ≡ w) × (list_any (λ e. e) s.ended.items ≡ true)
TellsServed contents c names s w w' (Err Write) =
    (list_any (λ e. e) s.ended.items ≡ false) × WrotePart contents w w' (run_text c names s)
TellsServed contents c names s w w' (Err _) = ⊥

-- The text of something that writers and readers may come back with for these lines was written as
-- far as this says, and the status says whether something of it is wrong.
abbrev pub IsRun : (List ℕ → Type 0) → CatalogEntries → ℕ → List ScriptLine → ℕ → Type 0
IsRun Wrote c readers lines status =
    (a : Assignments) × IsAssigned c readers lines a
    × ((s : Served) × IsServed c a s × (status ≡ status_of s.wrong)
    × Wrote (run_text c a.names.items s))

-- What is returned for these lines. Every fault but a failed write leaves the writer as it was, and
-- a call of it failed then alone.
abbrev pub AnswersLines : {W : Type 0} → (W → Option (List ℕ)) → CatalogEntries → ℕ
    → List ScriptLine
    → Output W → Output W → Result ℕ Fault → Type 0
AnswersLines contents c readers lines w w' (Ok status) =
    MayRun c readers × IsRun (Delivered contents w w') c readers lines status
AnswersLines contents c readers lines w w' (Err (Refused refusal.OutOfMemory)) = w' ≡ w
AnswersLines contents c readers lines w w' (Err (Refused refusal.BadCapacity)) =
    (w' ≡ w) × (MayRun c readers → ⊥)
AnswersLines contents c readers lines w w' (Err Write) =
    MayRun c readers × ((status : ℕ) × IsRun (WrotePart contents w w') c readers lines status)
AnswersLines contents c readers lines w w' (Err _) = ⊥

-- Something that came back of the lines of a script, done in the regions of the catalog that the
-- listings say, was written as far as this says. It had this status, and this is noted of the
-- listings.
pub record IsScriptRun (Wrote : List ℕ → Type 0) (kernel : BoundNames) (readers : ℕ)
    (i : Inputs (List ScriptLine)) (status : ℕ) (notes : ListingNotes)
    : Type 0 where
  pub catalog : CatalogEntries
  pub counts : BuildCounts
  pub said : Say (Some kernel) true i.listings catalog counts
  pub may : MayRun catalog readers
  pub run : IsRun Wrote catalog readers i.said status
  pub noted : notes ≡ notes_of (Some kernel) true i.listings catalog counts

-- a table can not have the regions of the catalog that the listings say, or not this many readers
abbrev pub FitsNoRun : BoundNames → ℕ → Listed → Type 0
FitsNoRun kernel readers l =
    (c : CatalogEntries) × (n : BuildCounts) × Say (Some kernel) true l c n
    × (MayRun c readers → ⊥)

-- what is said of the inputs if this is returned
abbrev pub IsRunOf : {W : Type 0} → (W → Option (List ℕ)) → BoundNames → ℕ → Output W → Output W
    → Inputs (List ScriptLine) → Result Finished Fault → Type 0
IsRunOf contents kernel readers w w' i (Ok finished) =
    IsScriptRun (Delivered contents w w') kernel readers i finished.status finished.notes
IsRunOf contents kernel readers w w' i (Err (Refused refusal.BadCapacity)) =
    FitsNoRun kernel readers i.listings
IsRunOf contents kernel readers w w' i (Err (Refused refusal.TooManyRegions)) =
    are_few (lines_beside i.listings) ≡ false
IsRunOf contents kernel readers w w' i (Err Write) =
    (status : ℕ) × (notes : ListingNotes)
    × IsScriptRun (WrotePart contents w w') kernel readers i status notes
IsRunOf contents kernel readers w w' i (Err _) = Unit {0}

-- what is returned if the inputs were read, if these are known
abbrev pub AnswersRun : {W : Type 0} → (W → Option (List ℕ)) → BoundNames → ℕ
    → Option (Result (Inputs (List ScriptLine)) (ℕ × ℕ)) → Failures → Output W → Output W
    → Result Finished Fault → Type 0
AnswersRun contents kernel readers known counts w w' result =
    AnswersInputs (IsRunOf contents kernel readers w w') known counts w w' result
