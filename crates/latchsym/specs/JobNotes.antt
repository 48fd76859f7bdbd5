-- The lines that say what is noted of the listings of a job.
use Rattle.std.specs.Prelude.{ℕ, Bool, true, false, List, [], ◌++◌, if◌then◌else◌, Option}
use Rattle.std.specs.Prelude.{Some, None, unwrap_or}
use Rattle.std.specs.Borrow.{Bor}
use Rattle.std.specs.Option.{option_map_or}
use Rattle.clap.specs.Words.{Text}
use Rattle.modules.specs.Lines.{usual_bounds}
use Rattle.modules.specs.Listed.{BoundNames}
use Rattle.listing.specs.declared.listing_notes.ListingNote.{ListingNote}
use Rattle.listing.specs.declared.listing_notes.ListingNote.TheVariants.{ModulesOverlap}
use Rattle.listing.specs.declared.listing_notes.ListingNotes.{ListingNotes}
use Rattle.command_listings.specs.NoteTexts.{line_if_noted, lines_by, note_head, note_lines}
use Rattle.command_listings.specs.NoteTexts.{noted_bounds}
use Rattle.command_listings.specs.declared.sources.Sources.{Sources}
use Rattle.latchsym.specs.RecordedEvents.{ended_lines}
use Rattle.latchsym.specs.declared.job_notes.TheConstants.{GIVE_REGIONS}
use Rattle.command_line.specs.declared.requests.Job.{Job}
use Rattle.command_line.specs.declared.requests.Job.TheVariants as job
use Rattle.command_line.specs.declared.requests.Request.{Request}
use Rattle.command_line.specs.declared.requests.Subcommand.{Subcommand}
use Rattle.command_line.specs.declared.requests.Subcommand.TheVariants.{Lookup, Record, Run}

-- The bounds of a lookup: if modules are listed, the kernel lies between `_stext` and `_end` if no
-- names are given.
abbrev pub bounds_of_lookup : Option BoundNames → Option (Bor Text) → BoundNames
bounds_of_lookup kernel (Some modules) = unwrap_or kernel usual_bounds
bounds_of_lookup kernel None = noted_bounds kernel

abbrev pub lines_of_lookup : Sources → ListingNotes → List ℕ
lines_of_lookup q notes =
    lines_by (bounds_of_lookup q.kernel q.files.modules) q.files.modules q.files.kallsyms.now notes

-- ---- of a run, which needs the listing of modules

-- it is noted that modules overlap
abbrev pub is_overlap : Option ListingNote → Bool
is_overlap (Some ModulesOverlap) = true
is_overlap _ = false

-- the line that says so
abbrev pub overlap_line : Text → List ℕ
overlap_line modules = note_head modules ++ GIVE_REGIONS.now

-- the line of what may be noted of that listing
abbrev pub run_line : BoundNames → Text → Option ListingNote → List ℕ
run_line names modules note =
    if is_overlap note then overlap_line modules else line_if_noted names modules note

-- the lines of a run
abbrev pub run_lines : BoundNames → Text → Text → ListingNotes → List ℕ
run_lines names modules kallsyms notes =
    run_line names modules notes.modules ++ line_if_noted names kallsyms notes.kallsyms

-- ---- of a job, by the names of its files

abbrev pub lines_of_run : Sources → ListingNotes → List ℕ
lines_of_run q notes =
    option_map_or
    (λ (m : Bor Text). run_lines (unwrap_or q.kernel usual_bounds) m.now q.files.kallsyms.now notes)
    q.files.modules []

abbrev pub lines_asked : Request → Subcommand → ListingNotes → List ℕ
lines_asked q (Run r) notes = lines_of_run q.sources notes
lines_asked q (Lookup l) notes = lines_of_lookup q.sources notes
lines_asked q (Record r) notes = ended_lines q.sources.files.kallsyms.now notes.kallsyms
lines_asked q _ notes = note_lines q.sources.kernel q.sources.files notes

abbrev pub notes_text : Job → ListingNotes → List ℕ
notes_text (job.Request q) notes = lines_asked q q.subcommand notes
notes_text _ notes = []
