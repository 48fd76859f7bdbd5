-- What is said at the end of a run: what is noted of its listings, or why it failed.
use Rattle.std.specs.Prelude.{◌≡◌, ℕ, List, [], ◌++◌, Option, Result, Ok, Err}
use Rattle.std.specs.Prelude.{codes, decimal, is_some, option_and_then, unwrap_or}
use Rattle.std.specs.declared.io.Error.{Error}
use Rattle.clap.specs.Words.{Text}
use Rattle.texts.specs.declared.output.Output.{Output}
use Rattle.texts.specs.Output.{Says}
use Rattle.order_laws.specs.Refusals.{refusal_number}
use Rattle.command_line.specs.Requests.{file_at}
use Rattle.latchsym.specs.Reasons.{reason_text}
use Rattle.listing.specs.ListingNotes.{is_some_noted}
use Rattle.command_listings.specs.NoteTexts.{IsNoted}
use Rattle.latchsym.specs.JobNotes.{notes_text}
use Rattle.latchsym.specs.Wildcards.{IsWildcardNoted, wildcard_in}
use Rattle.command_traces.specs.TraceTexts.{refused_text}
use Rattle.command_line.specs.declared.requests.Job.{Job}
use Rattle.command_parts.specs.declared.fault.Fault.{Fault}
use Rattle.command_parts.specs.declared.fault.Finished.{Finished}
use Rattle.command_parts.specs.declared.fault.Fault.TheVariants.{Refused, BadLine, Read, TooLong}
use Rattle.command_parts.specs.declared.fault.Fault.TheVariants.{Write}
use Rattle.command_parts.specs.Faults.{fault_place}
use Rattle.latchsym.specs.declared.reports.TheConstants as text

abbrev pub bad_line_text : Text → ℕ → List ℕ
bad_line_text file line = file ++ text.LINE.now ++ decimal line ++ text.NOT_UNDERSTOOD.now

-- what failed with a file, and what the system says of it
abbrev pub failed_text : Text → List ℕ → Option (List ℕ) → List ℕ
failed_text file what words = file ++ what ++ reason_text words ++ codes "\n"

-- what is said of a fault that is about this file, after the program's name, and what the system
-- said of a call that failed
abbrev pub message_text : Text → Option (List ℕ) → Fault → List ℕ
message_text file words (Refused refusal) = refused_text (refusal_number refusal)
message_text file words (BadLine place line) = bad_line_text file line
message_text file words (Read place) = failed_text file text.UNREAD.now words
message_text file words (TooLong place) = file ++ text.TOO_LONG.now
message_text file words Write = failed_text [] text.UNWRITTEN.now words

-- the line on the standard error
abbrev pub fault_text : Text → Option (List ℕ) → Fault → List ℕ
fault_text file words fault = text.PROGRAM.now ++ message_text file words fault

-- the file of the job that the fault is about
abbrev pub file_of : Job → Fault → Text
file_of job fault = unwrap_or (option_and_then (file_at job) (fault_place fault)) []

-- the line of a fault was said, with the system's words for its error, if there is one
abbrev pub IsFaultTold : {D : Type 0} → (D → Option (List ℕ)) → Output D → Output D → Text
    → Option Error → Fault → Type 0
IsFaultTold contents old new file error fault =
    (words : Option (List ℕ)) × (is_some words ≡ is_some error)
    × Says contents old new (fault_text file words fault)

-- The program's status after a job with this outcome, and what it has said: the notes on the
-- listings and on names if the job came to a status, and else the fault with its error.
abbrev pub IsConcluded : {D : Type 0} → (D → Option (List ℕ)) → Job → Option Error → Output D
    → Output D → Result Finished Fault → ℕ → Type 0
IsConcluded {D} contents job error old new (Ok own) status =
    (status ≡ own.status)
    × ((noted : Output D)
    × IsNoted contents old noted (is_some_noted own.notes) (notes_text job own.notes)
    × IsWildcardNoted contents noted new (wildcard_in own.status job))
IsConcluded {D} contents job error old new (Err fault) status =
    (status ≡ 1) × IsFaultTold contents old new (file_of job fault) error fault
