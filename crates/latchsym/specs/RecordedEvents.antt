-- Events that are recorded: what is known of their files, and what is said of a listing that ended
-- it.
use Rattle.std.specs.Prelude.{ℕ, List, [], ◌++◌, codes, Option, Some, None, unwrap_or}
use Rattle.texts.specs.Counted.{device_of}
use Rattle.texts.specs.declared.counted.Counted.{Counted}
use Rattle.clap.specs.Words.{Text}
use Rattle.command_listings.specs.LastingLogs.{Seen}
use Rattle.command_listings.specs.declared.sources.ListingFiles.{ListingFiles}
use Rattle.listing.specs.NoteTexts.{plain_text}
use Rattle.listing.specs.declared.listing_notes.ListingNote.{ListingNote}
use Rattle.latchsym.specs.Files.{FileTexts, given_by}

-- What is known of events before they are recorded: what they have, and what the files of the
-- listings hold, which are opened each time that they are read. In which order all of it is read is
-- not.
abbrev pub seen_again : {R : Type 0} → (R → Option (List ℕ)) → FileTexts → ListingFiles → Counted R
    → Seen
seen_again remaining file_text files r = record {
  events = None;
  left = remaining (device_of r);
  next = given_by file_text files;
  later = given_by file_text files;
}

-- the line that says what is wrong with the listing in this file
abbrev pub ended_line : Text → ListingNote → List ℕ
ended_line file note =
    codes "latchsym: " ++ file ++ codes ": " ++ unwrap_or (plain_text note) [] ++ codes "\n"

-- the line that says why the listing in this file ended a recording, if it did
abbrev pub ended_lines : Text → Option ListingNote → List ℕ
ended_lines file None = []
ended_lines file (Some note) = ended_line file note
