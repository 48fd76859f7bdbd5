-- The texts of the numbers that calls return. Each is kept with a 0 at its end, which is not of it.
use Rattle.std.specs.Prelude.{ℕ, List, unwrap_or}
use Rattle.std.specs.Option.{option_map_or}
use Rattle.listing.specs.NoteTexts.{plain_text, without_last}
use Rattle.listing.specs.declared.listing_notes.ListingNote.{ListingNote}
use Rattle.listing.specs.declared.listing_notes.ListingNote.TheVariants as note
use Rattle.order_laws.specs.declared.refusals.Refusal.{Refusal}
use Rattle.order_laws.specs.declared.refusals.Refusal.TheVariants as refusal
use Rattle.latchsym_ffi.specs.Answers.{answer_with}
use Rattle.latchsym_ffi.specs.declared.answer_texts.TheConstants as says
use Rattle.latchsym_ffi.specs.declared.answers.CallOutcome.{CallOutcome}
use Rattle.latchsym_ffi.specs.declared.answers.CallOutcome.TheVariants as answer

abbrev pub refusal_text : Refusal → List ℕ
refusal_text refusal.BadItem = without_last says.BAD_ITEM.now
refusal_text refusal.Overlap = without_last says.OVERLAP.now
refusal_text refusal.NoSuchItem = without_last says.NO_SUCH_ITEM.now
refusal_text refusal.Full = without_last says.FULL.now
refusal_text refusal.UpdateInHand = without_last says.UPDATE_IN_HAND.now
refusal_text refusal.SequenceSpent = without_last says.SEQUENCE_SPENT.now
refusal_text refusal.OutOfMemory = without_last says.OUT_OF_MEMORY.now
refusal_text refusal.ReaderBusy = without_last says.READER_BUSY.now
refusal_text refusal.ReaderIdle = without_last says.READER_IDLE.now
refusal_text refusal.BadCapacity = without_last says.BAD_CAPACITY.now
refusal_text refusal.UnknownModule = without_last says.UNKNOWN_MODULE.now
refusal_text refusal.AlreadyLoaded = without_last says.ALREADY_LOADED.now
refusal_text refusal.NotLoaded = without_last says.NOT_LOADED.now
refusal_text refusal.TooManyRegions = without_last says.TOO_MANY_REGIONS.now
refusal_text refusal.NoInit = without_last says.NO_INIT.now

-- that a number is none of an answer
abbrev pub no_text : List ℕ
no_text = without_last says.NO_NUMBER.now

-- what is said of a listing after its name, if the commands say it otherwise
abbrev pub own_text : ListingNote → List ℕ
own_text note.NoStart = without_last says.NO_START.now
own_text note.NoEnd = without_last says.NO_END.now
own_text note.ModulesOverlap = without_last says.MODULES_OVERLAP.now
own_text (note.UnlistedOwner owner) = without_last says.UNLISTED_OWNER.now
own_text _ = no_text

-- what is said of a listing after its name
abbrev pub note_text : ListingNote → List ℕ
note_text note = unwrap_or (plain_text note) (own_text note)

abbrev pub answer_text : CallOutcome → List ℕ
answer_text answer.Done = without_last says.DONE.now
answer_text (answer.Refused r) = refusal_text r
answer_text answer.BadLine = without_last says.BAD_LINE.now
answer_text answer.NoSymbol = without_last says.NO_SYMBOL.now
answer_text answer.Nothing = without_last says.NOTHING.now
answer_text answer.Retry = without_last says.RETRY.now
answer_text answer.Busy = without_last says.BUSY.now
answer_text answer.Forgotten = without_last says.FORGOTTEN.now
answer_text answer.Flip = without_last says.FLIP.now
answer_text answer.Store = without_last says.STORE.now
answer_text (answer.Noted n) = note_text n
answer_text answer.BadHandle = without_last says.BAD_HANDLE.now
answer_text answer.BadLength = without_last says.BAD_LENGTH.now
answer_text answer.BadListings = without_last says.BAD_LISTINGS.now
answer_text answer.BadStamp = without_last says.BAD_STAMP.now

-- what a number means
abbrev pub text_with : ℕ → List ℕ
text_with number = option_map_or answer_text (answer_with number) no_text
