-- What is noted of a log after its end: the first that applies.
use Rattle.std.specs.Prelude.{◌≡◌, ℕ, ◌+◌, ◌-◌, ◌%◌, ◌^◌, ◌==◌, ◌&&◌, not, min, Bool, List, ◌++◌}
use Rattle.std.specs.Prelude.{codes}
use Rattle.std.specs.Prelude.{decimal, if◌then◌else◌, Option, Some, None, option_and_then}
use Rattle.std.specs.Option.{option_map, option_or}
use Rattle.std.specs.Str.{bytes_eq}
use Rattle.texts.specs.Exact.{hexadecimal}
use Rattle.texts.specs.Output.{Says}
use Rattle.texts.specs.declared.output.Output.{Output}
use Rattle.modules.specs.Lines.{usual_bounds}
use Rattle.listing.specs.Looks.{is_gzip, is_utf_16}
use Rattle.listing.specs.declared.listing_notes.ListingNote.{ListingNote}
use Rattle.listing.specs.declared.listing_notes.ListingNote.TheVariants.{Gzip, Utf16}
use Rattle.logs.specs.KernelOffsets.{kernel_place}
use Rattle.logs.specs.KernelReports.{is_of_another_build}
use Rattle.logs.specs.LogNames.{is_of_another_boot, is_unnamed}
use Rattle.logs.specs.declared.kernel_offsets.KernelOffset.{KernelOffset}
use Rattle.logs.specs.declared.kernel_reports.KernelReport.{KernelReport}
use Rattle.logs.specs.declared.log_names.LogNames.{LogNames}
use Rattle.command_listings.specs.LineRuns.{is_untimed}
use Rattle.command_listings.specs.NoteTexts.{message_of, note_head}
use Rattle.command_listings.specs.declared.line_runs.LogTimes.{LogTimes}
use Rattle.command_listings.specs.declared.log_notes.ListedKernel.{ListedKernel}
use Rattle.command_listings.specs.declared.log_notes.LogNote.{LogNote}
use Rattle.command_listings.specs.declared.log_notes.LogNote.TheVariants.{Form, Moved, OtherBuild}
use Rattle.command_listings.specs.declared.log_notes.LogNote.TheVariants.{OtherNames, OtherPlace}
use Rattle.command_listings.specs.declared.log_notes.LogNote.TheVariants.{Unnamed, Untimed}
use Rattle.command_listings.specs.declared.log_notes.TheConstants.{ANOTHER_BOOT, ANOTHER_BUILD}
use Rattle.command_listings.specs.declared.log_notes.TheConstants.{DISAGREE, GIVE_OFFSET}
use Rattle.command_listings.specs.declared.log_notes.TheConstants.{HAVE_NAMES, LAY_AT, LISTED_AT}
use Rattle.command_listings.specs.declared.log_notes.TheConstants.{MOVED, NONE_OF, NO_TIME, OF}
use Rattle.command_listings.specs.declared.log_notes.TheConstants.{STANDARD_INPUT, THIS_BOOT}

-- ---- which note applies

-- what the first two bytes of a log say of its form
abbrev pub note_of_head : List ℕ → Option ListingNote
note_of_head head =
    if is_gzip head then Some Gzip else if is_utf_16 head then Some Utf16 else None

-- The addresses differ as kernels are moved: by a multiple of 0x200000. (If they do not, the log
-- counts from elsewhere.)
abbrev pub differs : ℕ → ℕ → Bool
differs place listed =
    not (place == listed) && ((place + 2 ^ 64 - listed) % 2 ^ 64) % 2097152 == 0

-- the offset to give in place of this one
abbrev pub offset_to_give : KernelOffset → ℕ → ℕ
offset_to_give k offset = (k.offset + offset) % 2 ^ 64

-- A kernel lay so, and the listing's lies at an address, with this offset: it was moved from
-- there, or lay elsewhere.
abbrev pub place_note : KernelOffset → ℕ → ℕ → Option LogNote
place_note k listed offset =
    let place = kernel_place k in
    if not (differs place listed) then None
    else if listed == k.from then Some (Moved k.offset (offset_to_give k offset))
    else Some (OtherPlace place listed)

-- the place of a listing's kernel for the log
abbrev pub listed_place : ListedKernel → Option ℕ
listed_place kernel = option_map (λ base. (base + kernel.offset) % 2 ^ 64) kernel.base

-- what a log says of its kernel that is not so of the listing's
abbrev pub kernel_note : KernelReport → ListedKernel → Option LogNote
kernel_note r kernel =
    if is_of_another_build r then Some (OtherBuild r)
    else option_and_then
    (λ k. option_and_then (λ listed. place_note k listed kernel.offset) (listed_place kernel))
    r.offset

-- its names are others than the listing's, or there are none
abbrev pub names_note : LogNames → Option LogNote
names_note names =
    if is_of_another_boot names then Some (OtherNames names)
    else if is_unnamed names then Some (Unnamed names)
    else None

-- the first that applies to a log with these first two bytes and these names
abbrev pub note_of_log : List ℕ → LogNames → ListedKernel → Option LogNote
note_of_log head names kernel =
    option_or (option_map Form (note_of_head head))
    (option_or (kernel_note names.kernel kernel) (names_note names))

-- the first that applies to a log that was named by a history: whether a line has a time comes
-- before what names say
abbrev pub note_of_timed_log : List ℕ → LogTimes → LogNames → ListedKernel → Option LogNote
note_of_timed_log head times names kernel =
    option_or (option_map Form (note_of_head head))
    (if is_untimed times then Some Untimed else note_of_log head names kernel)

-- ---- what it says

-- functions of its kernel have another size in the listing
abbrev pub other_build_line : KernelReport → List ℕ
other_build_line r = decimal r.resized ++ OF.now ++ decimal r.functions ++ ANOTHER_BUILD.now

-- its kernel was moved so, and this offset gives names
abbrev pub moved_line : ℕ → ℕ → List ℕ
moved_line by offset =
    MOVED.now ++ hexadecimal by ++ GIVE_OFFSET.now ++ hexadecimal offset ++ codes "\n"

-- its kernel lay at the one address, and the listing's lies at the other
abbrev pub other_boot_line : ℕ → ℕ → List ℕ
other_boot_line place listed =
    LAY_AT.now ++ hexadecimal place ++ LISTED_AT.now ++ hexadecimal listed ++ ANOTHER_BOOT.now

-- that the names which the log has itself are not the listing's
abbrev pub other_names_line : LogNames → List ℕ
other_names_line names =
    DISAGREE.now ++ decimal names.disagreeing ++ OF.now
    ++ decimal (min (names.agreeing + names.disagreeing) (2 ^ 64 - 1))
    ++ THIS_BOOT.now

-- that no address of the log in a file has a name
abbrev pub unnamed_line : LogNames → List ℕ
unnamed_line names =
    NONE_OF.now ++ decimal names.addresses
    ++ HAVE_NAMES.now

abbrev pub log_message : LogNote → List ℕ
log_message (Form note) = message_of usual_bounds note ++ codes "\n"
log_message (OtherBuild r) = other_build_line r
log_message (Moved by offset) = moved_line by offset
log_message (OtherPlace place listed) = other_boot_line place listed
log_message (OtherNames names) = other_names_line names
log_message (Unnamed names) = unnamed_line names
log_message Untimed = NO_TIME.now

-- what notes call the log in this file; `-` is the standard input
abbrev pub log_name : List ℕ → List ℕ
log_name log = if bytes_eq log (codes "-") then STANDARD_INPUT.now else log

abbrev pub log_line : List ℕ → LogNote → List ℕ
log_line log note = note_head (log_name log) ++ log_message note

-- what is noted of the log in this file was said, and nothing else
abbrev pub IsLogNoted : {D : Type 0} → (D → Option (List ℕ)) → Output D → Output D → List ℕ
    → Option LogNote → Type 0
IsLogNoted contents old new log (Some note) = Says contents old new (log_line log note)
IsLogNoted contents old new log None = new ≡ old
