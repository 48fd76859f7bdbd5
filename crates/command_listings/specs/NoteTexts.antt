-- The lines that say what is noted of listings.
use Rattle.std.specs.Prelude.{◌≡◌, ℕ, Bool, true, false, List, [], ◌++◌, codes, flat_map}
use Rattle.std.specs.Prelude.{if◌then◌else◌, Option}
use Rattle.std.specs.Prelude.{Some, None, unwrap_or}
use Rattle.std.specs.Borrow.{Bor}
use Rattle.std.specs.Option.{option_map_or}
use Rattle.std.specs.Str.{bytes_eq}
use Rattle.texts.specs.declared.output.Output.{Output}
use Rattle.texts.specs.Output.{Says}
use Rattle.modules.specs.Listed.{BoundNames}
use Rattle.listing.specs.ListingNotes.{all_notes}
use Rattle.listing.specs.NoteTexts.{plain_text}
use Rattle.listing.specs.Owners.{owner_name}
use Rattle.command_listings.specs.declared.note_texts.TheConstants.{END, ETEXT, LEFT_OUT}
use Rattle.command_listings.specs.declared.note_texts.TheConstants.{MODULES_OVERLAP, NOTE}
use Rattle.command_listings.specs.declared.note_texts.TheConstants.{NO_MODULE, NO_SYMBOL, STEXT}
use Rattle.command_listings.specs.declared.note_texts.TheConstants.{TRY_KERNEL}
use Rattle.command_listings.specs.declared.sources.ListingFiles.{ListingFiles}
use Rattle.listing.specs.declared.listing_notes.ListingNote.{ListingNote}
use Rattle.listing.specs.declared.listing_notes.ListingNote.TheVariants.{NoStart, NoEnd}
use Rattle.listing.specs.declared.listing_notes.ListingNote.TheVariants.{ModulesOverlap}
use Rattle.listing.specs.declared.listing_notes.ListingNote.TheVariants.{UnlistedOwner}
use Rattle.listing.specs.declared.listing_notes.ListingNotes.{ListingNotes}
use Rattle.listing.specs.declared.owners.Owner.{Owner}

-- what to try if a name is missing: many kernels list no `_end`
abbrev pub remedy_text : List ℕ → List ℕ
remedy_text name = if bytes_eq name END.now then TRY_KERNEL.now else []

abbrev pub missing_text : List ℕ → List ℕ
missing_text name = NO_SYMBOL.now ++ name ++ remedy_text name

-- that no listing of modules has an owner of symbols
abbrev pub unlisted_text : Owner → List ℕ
unlisted_text owner = NO_MODULE.now ++ owner_name owner ++ LEFT_OUT.now

-- what a note says that names something, if these names bound the kernel
abbrev pub naming_text : BoundNames → ListingNote → List ℕ
naming_text names NoStart = missing_text names.start
naming_text names NoEnd = missing_text names.end
naming_text names ModulesOverlap = MODULES_OVERLAP.now
naming_text names (UnlistedOwner owner) = unlisted_text owner
naming_text names _ = []

-- what a note says
abbrev pub message_of : BoundNames → ListingNote → List ℕ
message_of names note = unwrap_or (plain_text note) (naming_text names note)

-- what a line of a note begins with
abbrev pub note_head : List ℕ → List ℕ
note_head file = NOTE.now ++ file ++ codes ": "

-- the line of a note on the listing in this file
abbrev pub note_line : BoundNames → List ℕ → ListingNote → List ℕ
note_line names file note = note_head file ++ message_of names note ++ codes "\n"

-- the line of what may be noted of a file
abbrev pub line_if_noted : BoundNames → List ℕ → Option ListingNote → List ℕ
line_if_noted names file note = option_map_or (note_line names file) note []

abbrev pub lines_for : BoundNames → List ℕ → List ℕ → ListingNotes → List ℕ
lines_for names modules kallsyms notes =
    line_if_noted names modules notes.modules ++ line_if_noted names kallsyms notes.kallsyms

-- the line of a note, if it applies
abbrev pub line_where : Bool → List ℕ → List ℕ
line_where applies line = if applies then line else []

-- the lines of all notes that apply to the listing in this file
abbrev pub applying_lines : BoundNames → List ℕ → (ListingNote → Bool) → List ℕ
applying_lines names file applies =
    flat_map (λ note. line_where (applies note) (note_line names file note)) all_notes

-- the names of the bounds that a listing of symbols may miss: those that are given, or else the
-- last of the usual ones
abbrev pub noted_bounds : Option BoundNames → BoundNames
noted_bounds kernel = unwrap_or kernel (record { start = STEXT.now; end = ETEXT.now })

-- the lines for files of listings, perhaps without one of modules, if these names bound the kernel
abbrev pub lines_by : BoundNames → Option (Bor (List ℕ)) → List ℕ → ListingNotes → List ℕ
lines_by names (Some modules) kallsyms notes = lines_for names modules.now kallsyms notes
lines_by names None kallsyms notes = line_if_noted names kallsyms notes.kallsyms

-- the lines for files of listings, if these names are given for the kernel's bounds
abbrev pub note_lines : Option BoundNames → ListingFiles → ListingNotes → List ℕ
note_lines kernel files notes =
    lines_by (noted_bounds kernel) files.modules files.kallsyms.now notes

-- ---- written, or not

-- if something is noted these lines were said, and else nothing was
abbrev pub IsNoted : {D : Type 0} → (D → Option (List ℕ)) → Output D → Output D → Bool
    → List ℕ → Type 0
IsNoted contents old new true lines = Says contents old new lines
IsNoted contents old new false lines = new ≡ old
