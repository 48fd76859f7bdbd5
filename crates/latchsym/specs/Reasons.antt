-- What the system said of a failed call, if the job's command writes it.
use Rattle.std.specs.Prelude.{ℕ, Bool, false, nat_eq, List, [], ◌++◌, codes}
use Rattle.std.specs.Prelude.{Option, Some, None, if◌then◌else◌}
use Rattle.std.specs.declared.io.Error.{Error}
use Rattle.texts.specs.declared.counted.Counted.{Counted}
use Rattle.texts.specs.Counted.{error_of}
use Rattle.command_parts.specs.declared.opened_catalogs.ListingReaders.{ListingReaders}
use Rattle.command_parts.specs.declared.fault.Fault.{Fault}
use Rattle.command_parts.specs.declared.fault.Fault.TheVariants.{Read, Write}
use Rattle.command_line.specs.Requests.{does_tell}
use Rattle.latchsym.specs.declared.jobs.OpenedJob.{OpenedJob}
use Rattle.latchsym.specs.declared.jobs.OpenedJob.TheVariants.{Request}

-- the error that a reader gave last, if there is a reader
abbrev pub error_if_given : {R : Type 0} → Option (Counted R) → Option Error
error_if_given None = None
error_if_given (Some r) = error_of r

-- the error of one reader of a request
abbrev pub error_of_request : {R : Type 0} → ListingReaders R R R → Option (Counted R) → ℕ
    → Option Error
error_of_request r input place =
    if nat_eq place 0 then error_if_given r.modules
    else if nat_eq place 1 then error_of r.kallsyms
    else if nat_eq place 2 then error_if_given r.regions
    else if nat_eq place 3 then error_if_given input
    else None

-- the error that the reader of a listing gave last, if the fault is about it
abbrev pub error_of_listings : {R : Type 0} → ListingReaders R R R → Fault → Option Error
error_of_listings r (Read place) = error_of_request r None place
error_of_listings r _ = None

abbrev pub tells_errors : {R : Type 0} → OpenedJob R → Bool
tells_errors (Request q r input) = does_tell q.now.subcommand
tells_errors _ = false

-- the error that one reader of such a job gave last
abbrev pub error_at : {R : Type 0} → OpenedJob R → ℕ → Option Error
error_at (Request q r input) place =
    if does_tell q.now.subcommand then error_of_request r input place else None
error_at _ place = None

-- the error that made such a job fault, of its readers, or of its writer, which gave this one last
abbrev pub error_behind : {R : Type 0} → OpenedJob R → Option Error → Fault → Option Error
error_behind job written (Read place) = error_at job place
error_behind job written Write = if tells_errors job then written else None
error_behind job written _ = None

-- what the system said, in brackets, if it said something
abbrev pub reason_text : Option (List ℕ) → List ℕ
reason_text None = []
reason_text (Some words) = codes " (" ++ words ++ codes ")"
