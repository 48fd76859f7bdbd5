-- The numbers that calls return.
use Rattle.std.specs.Prelude.{ℕ, Bool, nat_eq, List, [], ◌∷◌, find, Option, Some, None}
use Rattle.listing.specs.declared.listing_notes.ListingNote.{ListingNote}
use Rattle.listing.specs.declared.listing_notes.ListingNote.TheVariants as note
use Rattle.listing.specs.declared.owners.Owner.TheVariants.{Bpf}
use Rattle.order_laws.specs.declared.refusals.Refusal.TheVariants as refusal
use Rattle.order_laws.specs.Refusals.{refusal_number}
use Rattle.latchsym_ffi.specs.declared.answers.CallOutcome.{CallOutcome}
use Rattle.latchsym_ffi.specs.declared.answers.CallOutcome.TheVariants.{Done, Refused, BadLine}
use Rattle.latchsym_ffi.specs.declared.answers.CallOutcome.TheVariants.{NoSymbol, Nothing, Retry}
use Rattle.latchsym_ffi.specs.declared.answers.CallOutcome.TheVariants.{Busy}
use Rattle.latchsym_ffi.specs.declared.answers.CallOutcome.TheVariants.{Flip, Store, Noted}
use Rattle.latchsym_ffi.specs.declared.answers.CallOutcome.TheVariants.{BadHandle}
use Rattle.latchsym_ffi.specs.declared.answers.CallOutcome.TheVariants.{BadLength, BadListings}
use Rattle.latchsym_ffi.specs.declared.answers.CallOutcome.TheVariants.{BadStamp, Forgotten}

-- the number of a note on a listing
abbrev pub note_number : ListingNote → ℕ
note_number note.Gzip = 41
note_number note.AllHidden = 42
note_number note.LooksLikeSymbols = 43
note_number note.LooksLikeModules = 44
note_number note.LinesEndInCrLf = 45
note_number note.NoStart = 46
note_number note.NoEnd = 47
note_number note.OtherBoot = 48
note_number note.NoModuleLine = 49
note_number note.NoSymbolLine = 50
note_number note.ModulesOverlap = 51
note_number note.Empty = 52
note_number note.Utf16 = 53
note_number (note.UnlistedOwner owner) = 54

-- the number that is returned for an answer
abbrev pub answer_number : CallOutcome → ℕ
answer_number Done = 0
answer_number (Refused r) = refusal_number r
answer_number BadLine = 15
answer_number NoSymbol = 21
answer_number Nothing = 22
answer_number Retry = 23
answer_number Busy = 24
answer_number Forgotten = 25
answer_number Flip = 31
answer_number Store = 32
answer_number (Noted n) = note_number n
answer_number BadHandle = 101
answer_number BadLength = 102
answer_number BadListings = 103
answer_number BadStamp = 104

-- all answers, by rising number
abbrev pub all_answers : List CallOutcome
all_answers =
    Done ∷ Refused refusal.BadItem ∷ Refused refusal.Overlap ∷ Refused refusal.NoSuchItem
    ∷ Refused refusal.Full ∷ Refused refusal.UpdateInHand ∷ Refused refusal.SequenceSpent
    ∷ Refused refusal.OutOfMemory ∷ Refused refusal.ReaderBusy ∷ Refused refusal.ReaderIdle
    ∷ Refused refusal.BadCapacity ∷ Refused refusal.UnknownModule ∷ Refused refusal.AlreadyLoaded
    ∷ Refused refusal.NotLoaded ∷ Refused refusal.TooManyRegions ∷ BadLine ∷ Refused refusal.NoInit
    ∷ NoSymbol ∷ Nothing ∷ Retry ∷ Busy ∷ Forgotten ∷ Flip ∷ Store ∷ Noted note.Gzip
    ∷ Noted note.AllHidden
    ∷ Noted note.LooksLikeSymbols ∷ Noted note.LooksLikeModules ∷ Noted note.LinesEndInCrLf
    ∷ Noted note.NoStart ∷ Noted note.NoEnd ∷ Noted note.OtherBoot
    ∷ Noted note.NoModuleLine ∷ Noted note.NoSymbolLine ∷ Noted note.ModulesOverlap
    ∷ Noted note.Empty ∷ Noted note.Utf16 ∷ Noted (note.UnlistedOwner Bpf) ∷ BadHandle ∷ BadLength
    ∷ BadListings ∷ BadStamp ∷ []

unfoldable pub has_number : ℕ → CallOutcome → Bool
has_number number a = nat_eq (answer_number a) number

-- the answer, of any owner if it is a note that names one
abbrev pub of_any_owner : CallOutcome → CallOutcome
of_any_owner (Noted (note.UnlistedOwner owner)) = Noted (note.UnlistedOwner Bpf)
of_any_owner a = a

-- the answer of a number, if an answer has it
abbrev pub answer_with : ℕ → Option CallOutcome
answer_with number = find (has_number number) all_answers

-- the number of a note if there is one, and else of nothing
abbrev pub number_if_noted : Option ListingNote → ℕ
number_if_noted None = answer_number Nothing
number_if_noted (Some n) = note_number n
