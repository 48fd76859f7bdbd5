-- Why a command failed, and what one came to that did not.
use Rattle.std.specs.Prelude.{◌≡◌, ℕ, Option, Some, None, Result, Ok, Err}
use Rattle.texts.specs.declared.faults.LineFault.{LineFault}
use Rattle.texts.specs.declared.faults.LineFault.TheVariants as line
use Rattle.order_laws.specs.Refusals.{refusal_number}
use Rattle.order_laws.specs.declared.refusals.Refusal.TheVariants as refusal
use Rattle.listing.specs.ListingNotes.{no_notes}
use Rattle.command_parts.specs.declared.fault.Fault.{Fault}
use Rattle.command_parts.specs.declared.fault.Finished.{Finished}
use Rattle.command_parts.specs.declared.fault.Fault.TheVariants.{Refused, BadLine, Read, TooLong}
use Rattle.command_parts.specs.declared.fault.Fault.TheVariants.{Write}
use Rattle.listing.specs.declared.listing_notes.ListingNotes.{ListingNotes}

-- the number of a fault
abbrev pub fault_number : Fault → ℕ
fault_number (Refused refusal) = refusal_number refusal
fault_number (BadLine place line) = 15
fault_number (Read place) = 16
fault_number (TooLong place) = 17
fault_number Write = 16

abbrev pub fault_place : Fault → Option ℕ
fault_place (Refused refusal) = None
fault_place (BadLine place line) = Some place
fault_place (Read place) = Some place
fault_place (TooLong place) = Some place
fault_place Write = None

abbrev pub line_of : Fault → Option ℕ
line_of (Refused refusal) = None
line_of (BadLine place line) = Some line
line_of (Read place) = None
line_of (TooLong place) = None
line_of Write = None

-- the program's fault if a line of the file at this place is not understood, or another fault of it
abbrev pub IsLineFault : ℕ → LineFault → Fault → Type 0
IsLineFault place line.OutOfMemory fault = fault ≡ Refused refusal.OutOfMemory
IsLineFault place line.Read fault = fault ≡ Read place
IsLineFault place (line.BadLine n) fault = fault ≡ BadLine place n

-- the end of a job of this status with these notes
abbrev pub with_notes : ListingNotes → Result ℕ Fault → Result Finished Fault
with_notes notes (Ok status) = Ok (record { status = status; notes = notes })
with_notes notes (Err fault) = Err fault

-- success of an engine that has no status of its own is status 0
abbrev pub with_status : Result ListingNotes Fault → Result Finished Fault
with_status (Ok notes) = with_notes notes (Ok 0)
with_status (Err fault) = Err fault

-- the notes of a job that came to this
abbrev pub noted : ListingNotes → Result (Unit {0}) Fault → Result ListingNotes Fault
noted notes (Ok _) = Ok notes
noted notes (Err fault) = Err fault

-- a job without listings has no notes
abbrev pub without_notes : Result (Unit {0}) Fault → Result ListingNotes Fault
without_notes = noted no_notes
