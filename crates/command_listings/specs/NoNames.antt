-- Why listings that are read again give no names, and the note on that.
use Rattle.std.specs.Prelude.{◌≡◌, ℕ, zero, suc, List, [], ◌++◌, decimal}
use Rattle.std.specs.Option.{option_map_or}
use Rattle.command_listings.specs.NoteTexts.{note_head}
use Rattle.command_listings.specs.declared.no_names.NoNames.{NoNames}
use Rattle.command_listings.specs.declared.no_names.NoNames.TheVariants as no
use Rattle.command_listings.specs.declared.sources.ListingFiles.{ListingFiles}
use Rattle.command_listings.specs.declared.no_names.TheConstants as text

-- the file of listings at this place
abbrev pub file_at : ListingFiles → ℕ → List ℕ
file_at files zero = option_map_or (λ f. f.now) files.modules []
file_at files (suc zero) = files.kallsyms.now
file_at files _ = option_map_or (λ f. f.now) files.regions []

-- the place of the file that it is about
abbrev pub place_of : NoNames → ℕ
place_of (no.Unread place error) = place
place_of no.NoSymbol = 1
place_of (no.BadLine place line) = place
place_of no.TooManyRegions = 2

-- that a line is not understood
abbrev pub bad_line_words : ℕ → List ℕ
bad_line_words line = text.LINE.now ++ decimal line ++ text.NOT_UNDERSTOOD.now

-- these words say why; what the system says is not known
abbrev pub AreWords : NoNames → List ℕ → Type 0
AreWords (no.Unread place error) words = Unit {0}
AreWords no.NoSymbol words = words ≡ text.NO_SYMBOL.now
AreWords (no.BadLine place line) words = words ≡ bad_line_words line
AreWords no.TooManyRegions words = words ≡ text.CROWDED.now

-- the line of the note
abbrev pub unread_line : ListingFiles → NoNames → List ℕ → List ℕ
unread_line files why words =
    note_head (file_at files (place_of why)) ++ text.UNREAD_AGAIN.now ++ words
    ++ text.UNTIL_IT_CAN.now

-- it is noted so
abbrev pub TellsUnread : ListingFiles → NoNames → List ℕ → Type 0
TellsUnread files why note =
    (words : List ℕ) × AreWords why words × (note ≡ unread_line files why words)
