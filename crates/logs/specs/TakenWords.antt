-- How the address words of a line are taken.
use Rattle.std.specs.Prelude.{ℕ, ◌==◌, ◌||◌, ◌&&◌, not, Bool, true, false, if◌then◌else◌, List}
use Rattle.std.specs.Prelude.{[], ◌∷◌, length, drop, codes, Option, None, Some, nat_eq}
use Rattle.std.specs.List.{ends_with, list_any, starts_with}
use Rattle.std.specs.Option.{option_map_or}
use Rattle.std.specs.Str.{bytes_eq}
use Rattle.logs.specs.Places.{begins_numbered, end_of, first_of, has_label, is_lead, prefix_end}
use Rattle.logs.specs.Places.{without_end}
use Rattle.logs.specs.Words.{address_at, has_prefix, is_word_byte, part, words_behind}
use Rattle.logs.specs.declared.contexts.LogContext.{LogContext}
use Rattle.logs.specs.declared.contexts.First.{First}
use Rattle.logs.specs.declared.contexts.First.TheVariants as first
use Rattle.logs.specs.declared.places.ByteClass.TheVariants as kind
use Rattle.logs.specs.declared.address_words.WordPlace.{WordPlace}
use Rattle.logs.specs.declared.address_words.AddressWord.{AddressWord}
use Rattle.logs.specs.declared.address_words.TheConstants as text
use Rattle.logs.specs.declared.words.Word.{Word}

-- ---- the place of a word

-- the bytes between the address word before, or the line's begin, and a word
unfoldable pub gap_before : List ℕ → Option AddressWord → Word → List ℕ
gap_before line last w = part line (option_map_or (λ t. t.word.end) last 0) w.start

-- the place of a word after these bytes: between their prefix and it only items may come
abbrev pub place_after_prefix : Bool → List ℕ → WordPlace
place_after_prefix at_start head =
    let lead = drop (prefix_end at_start head) head in
    record { begins_line = is_lead 0 lead; is_numbered = begins_numbered lead }

-- The place of a word with these bytes before its marks. After another address word there has to be
-- a prefix.
unfoldable pub place_of : Option AddressWord → List ℕ → WordPlace
place_of None head = place_after_prefix true head
place_of (Some t) head =
    if prefix_end false head == 0
    then record { begins_line = false; is_numbered = t.place.is_numbered }
    else place_after_prefix false head

-- its one mark is `[`
abbrev pub has_bracket : List ℕ → Bool
has_bracket gap = bytes_eq (end_of kind.Mark gap) (codes "[")

-- It has the mark `[<`, a tab directly before it, or `0x`.
abbrev pub is_marked : List ℕ → List ℕ → Bool
is_marked gap word =
    ends_with nat_eq (end_of kind.Mark gap) (codes "[<") || has_prefix word
    || ends_with nat_eq gap (9 ∷ [])

-- It is the second of `[ADDRESS] [ADDRESS]`, and the first begins the line.
abbrev pub ends_pair : Option AddressWord → List ℕ → Bool
ends_pair None gap = false
ends_pair (Some t) gap =
    t.begins_pair && has_bracket gap
    && bytes_eq (without_end kind.Space (without_end kind.Mark gap)) (codes "]")

-- it begins its line with the mark `[`
abbrev pub begins_pair : WordPlace → List ℕ → Bool
begins_pair place gap = place.begins_line && has_bracket gap

-- `:` comes directly after it: a row of memory
abbrev pub is_row : List ℕ → Bool
is_row after = starts_with nat_eq after (codes ":")

-- It is a frame: no row of memory, and it begins its line with such a mark, or ends such a pair.
unfoldable pub is_frame : WordPlace → Option AddressWord → List ℕ → List ℕ → List ℕ → Bool
is_frame place last gap word after =
    not (is_row after)
    && ((place.begins_line && is_marked gap word) || ends_pair last gap)

-- ---- how its place says that it is taken: the first of these that applies, else as it is

-- It has a `;` directly before it and directly after it: a folded stack.
abbrev pub is_folded : List ℕ → List ℕ → Bool
is_folded gap after =
    ends_with nat_eq gap (codes ";") && starts_with nat_eq after (codes ";")

-- The bytes before it and after it say that it is a caller's: a label, a folded stack, or `at` in a
-- line whose text begins with `#` and a digit.
unfoldable pub says_caller : WordPlace → List ℕ → List ℕ → Bool
says_caller place gap after =
    has_label gap || is_folded gap after
    || (place.is_numbered
    && bytes_eq (end_of kind.Word (without_end kind.LabelGap gap)) (codes "at"))

-- The address word before it in its line has this number, with no `:` or `=` between: it is taken
-- as that one is by its place.
abbrev pub repeats : AddressWord → List ℕ → ℕ → Bool
repeats t gap value = t.value == value && not (list_any (λ b. b == 58 || b == 61) gap)

-- a first frame is taken as it is
abbrev pub is_exact : First → Bool
is_exact first.Exact = true
is_exact _ = false

-- It is a frame and not the first of its trace: one comes before it and no line between ends a
-- trace, or a line since the last frame has the word `RIP`, `EIP` or `NIP`.
abbrev pub continues_trace : First → Bool → Bool
continues_trace next is_frame = is_frame && not (is_exact next)

unfoldable pub is_caller : First → Option AddressWord → List ℕ → Bool → Bool → ℕ → Bool
is_caller next None gap says is_frame value = says || continues_trace next is_frame
is_caller next (Some t) gap says is_frame value =
    says || (if repeats t gap value then t.is_caller else continues_trace next is_frame)

-- ---- words that are not of this kernel

-- the bytes, after one of a word or not, have these words
abbrev pub has_words : List ℕ → Bool → List ℕ → Bool
has_words words within [] = false
has_words words within (b ∷ bytes) =
    (not within && starts_with nat_eq (b ∷ bytes) words
    && first_of kind.Word (drop (length words) (b ∷ bytes)) == 0)
    || has_words words (is_word_byte b) bytes

-- the line ends the registers of a program; and these bytes begin them
abbrev pub ends_user : List ℕ → Bool
ends_user line = has_words text.KERNEL.now false line || has_words text.CALL_TRACE.now false line

abbrev pub begins_user : List ℕ → Bool
begins_user bytes = has_words text.USER.now false bytes

-- a program's registers were begun before the line, and it does not end them
abbrev pub is_user_line : LogContext → List ℕ → Bool
is_user_line context line = context.is_user && not (ends_user line)

-- the bytes have `Code:` or `ACPI:`
abbrev pub has_code : List ℕ → Bool
has_code [] = false
has_code (b ∷ bytes) =
    starts_with nat_eq (b ∷ bytes) text.CODE.now
    || starts_with nat_eq (b ∷ bytes) text.ACPI.now || has_code bytes

-- From the word on, all of its line is not of this kernel: from the address word before it on, or
-- else the line is a program's; or it is one of a program, or, of 32 bits, a part of its code.
unfoldable pub is_outside : Bool → LogContext → List ℕ → Option AddressWord → List ℕ → Bool
is_outside narrow context line last gap =
    option_map_or (λ t. t.is_outside) last (is_user_line context line)
    || begins_user gap || (narrow && has_code gap)

-- A `:`, a blank, two hexadecimal digits and a blank begin the bytes: a dump of bytes.
abbrev pub begins_dump : List ℕ → Bool
begins_dump after =
    starts_with nat_eq after (codes ": ")
    && first_of kind.Hexadecimal (drop 2 after) == 2
    && starts_with nat_eq (drop 4 after) (codes " ")

-- The last word, after which only blanks and `:` come, says that an address of 32 bits is one of a
-- bus, or a register's value.
abbrev pub has_bus_label : List ℕ → Bool
has_bus_label gap =
    let word = end_of kind.Word (without_end kind.ColonGap gap) in
    bytes_eq word text.MMIO.now || bytes_eq word text.MEMORY.now || bytes_eq word text.PORT.now
    || bytes_eq word text.CAUSE.now || bytes_eq word text.STATUS.now
    || bytes_eq word text.CONFIG.now || bytes_eq word text.PROCESSOR.now

-- The word is not of this kernel: it is outside, or a row of a dump, or, of 32 bits, after such a
-- label.
unfoldable pub is_foreign : Bool → Bool → List ℕ → List ℕ → Bool
is_foreign outside narrow gap after =
    outside || begins_dump after || (narrow && has_bus_label gap)

-- an address word, after another one or as the first of its line
abbrev pub taken_at : Bool → LogContext → List ℕ → Option AddressWord → Word → ℕ → AddressWord
taken_at narrow context line last w value =
    let gap = gap_before line last w in
    let place = place_of last (without_end kind.Mark gap) in
    let after = drop w.end line in
    let is_frame = is_frame place last gap (part line w.start w.end) after in
    let is_outside = is_outside narrow context line last gap in
    record {
      word = w;
      value = value;
      place = place;
      begins_pair = begins_pair place gap;
      is_frame = is_frame;
      is_caller = is_caller context.first last gap (says_caller place gap after) is_frame value;
      is_outside = is_outside;
      is_foreign = is_foreign is_outside narrow gap after;
    }

-- the address words among the words of a line
abbrev pub taken_among : Bool → LogContext → List ℕ → Option AddressWord → List Word
    → List AddressWord
taken_among narrow context line last [] = []
taken_among narrow context line last (w ∷ words) =
    option_map_or
    (λ value. let t = taken_at narrow context line last w value in
    t ∷ taken_among narrow context line (Some t) words)
    (address_at narrow line w) (taken_among narrow context line last words)

-- the address words of a line
abbrev pub taken_in : Bool → LogContext → List ℕ → List AddressWord
taken_in narrow context line = taken_among narrow context line None (words_behind line 0)

-- the line has the word `RIP`, `EIP` or `NIP`
abbrev pub tells_place : List ℕ → Bool
tells_place line =
    has_words (codes "RIP") false line || has_words (codes "EIP") false line
    || has_words (codes "NIP") false line

-- The line ends a trace: the blanks, tabs and CR at its end aside it is empty, or ends in `:`, `[`
-- or `==`, or begins with `]`.
abbrev pub ends_trace : List ℕ → Bool
ends_trace line =
    let text = without_end kind.Closing line in
    length text == 0 || ends_with nat_eq text (codes ":") || ends_with nat_eq text (codes "[")
    || ends_with nat_eq text (codes "==") || starts_with nat_eq text (codes "]")

-- How the next first frame is taken after a line with a frame, or with such a word; or after one
-- that ends the trace before it, or not.
abbrev pub next_first : First → Bool → Bool → Bool → First
next_first context true tells ends = first.Frame
next_first context false true ends = first.Kept
next_first first.Frame false false ends = if ends then first.Exact else first.Frame
next_first context false false ends = context
