-- What notes say that name nothing.
use Rattle.std.specs.Prelude.{ℕ, ◌-◌, List, length, take, Option, Some, None}
use Rattle.std.specs.Option.{option_map}
use Rattle.listing.specs.declared.listing_notes.ListingNote.{ListingNote}
use Rattle.listing.specs.declared.listing_notes.ListingNote.TheVariants as note
use Rattle.listing.specs.declared.note_texts.TheConstants as says

-- a text with a last byte 0, as C wants it
abbrev pub ended_text : ListingNote → Option (List ℕ)
ended_text note.Empty = Some says.EMPTY.now
ended_text note.Gzip = Some says.GZIP.now
ended_text note.Utf16 = Some says.UTF_16.now
ended_text note.AllHidden = Some says.ALL_HIDDEN.now
ended_text note.LooksLikeSymbols = Some says.LOOKS_LIKE_SYMBOLS.now
ended_text note.LooksLikeModules = Some says.LOOKS_LIKE_MODULES.now
ended_text note.LinesEndInCrLf = Some says.LINES_END_IN_CR_LF.now
ended_text note.OtherBoot = Some says.OTHER_BOOT.now
ended_text note.NoModuleLine = Some says.NO_MODULE_LINE.now
ended_text note.NoSymbolLine = Some says.NO_SYMBOL_LINE.now
ended_text _ = None

-- a text without its last byte
abbrev pub without_last : List ℕ → List ℕ
without_last text = take (length text - 1) text

-- what a note says that names nothing, whoever says it
abbrev pub plain_text : ListingNote → Option (List ℕ)
plain_text note = option_map without_last (ended_text note)
