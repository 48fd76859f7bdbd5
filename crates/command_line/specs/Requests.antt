-- The files that a job reads, by their names, and whether its command writes what the system said
-- of a failed call.
use Rattle.std.specs.Prelude.{ℕ, List, [], ◌∷◌, Option, Some, None, option_and_then, slice_get}
use Rattle.std.specs.Prelude.{Bool, true, false}
use Rattle.std.specs.Option.{option_map}
use Rattle.clap.specs.Words.{Text}
use Rattle.command_line.specs.declared.requests.Job.{Job}
use Rattle.command_line.specs.declared.requests.Job.TheVariants as job
use Rattle.command_line.specs.declared.requests.Request.{Request}
use Rattle.command_line.specs.declared.requests.Subcommand.{Subcommand}
use Rattle.command_line.specs.declared.requests.Subcommand.TheVariants as sub

-- the file that is read after the listings
abbrev pub input_of : Subcommand → Option Text
input_of (sub.Lookup lookup) = option_map (λ f. f.now) lookup.file
input_of (sub.Run run) = Some run.script.now
input_of (sub.Annotate annotate) = Some annotate.log.now
input_of sub.Check = None
input_of (sub.Address address) = None
input_of (sub.Record r) = Some r.events.now

-- the files that are read, in order; the place of one that is not given stays empty
abbrev pub files_of_request : Request → List (Option Text)
files_of_request q =
    option_map (λ f. f.now) q.sources.files.modules ∷ Some q.sources.files.kallsyms.now
    ∷ option_map (λ f. f.now) q.sources.files.regions ∷ input_of q.subcommand ∷ []

abbrev pub files_of : Job → List (Option Text)
files_of (job.Trace file) = Some file.now ∷ []
files_of (job.Steps file) = Some file.now ∷ []
files_of (job.Request q) = files_of_request q

-- the file at a place among them
abbrev pub request_file_at : Request → ℕ → Option Text
request_file_at q place = option_and_then (λ f. f) (slice_get (files_of_request q) place)

abbrev pub file_at : Job → ℕ → Option Text
file_at job place = option_and_then (λ f. f) (slice_get (files_of job) place)

-- the commands that write what the system said
abbrev pub does_tell : Subcommand → Bool
does_tell (sub.Annotate annotate) = true
does_tell sub.Check = true
does_tell (sub.Address address) = true
does_tell (sub.Record r) = true
does_tell _ = false
