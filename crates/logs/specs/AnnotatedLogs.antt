-- A log with the text of the answer after each of its addresses, line by line.
use Rattle.std.specs.Prelude.{◌≡◌, ℕ, ◌+◌, ◌-◌, ◌==◌, ◌||◌, ◌&&◌, Bool, false, if◌then◌else◌}
use Rattle.std.specs.Prelude.{List, [], ◌∷◌, ◌++◌, drop, Option}
use Rattle.std.specs.Prelude.{nat_lt, slice_index_or}
use Rattle.std.specs.Char.{digit_value, is_digit}
use Rattle.std.specs.List.{list_any}
use Rattle.std.specs.Option.{option_map_or}
use Rattle.logs.specs.Answering.{Answering}
use Rattle.logs.specs.Lines.{is_long, lines}
use Rattle.logs.specs.LogNames.{no_names, with_address, with_line}
use Rattle.logs.specs.OwnNames.{as_read, insertion, text_for}
use Rattle.logs.specs.TakenWords.{begins_user, ends_trace, is_user_line, next_first}
use Rattle.logs.specs.TakenWords.{taken_among, taken_in, tells_place}
use Rattle.logs.specs.Words.{is_closer, is_word_byte, part, run_of}
use Rattle.logs.specs.declared.contexts.LogContext.{LogContext}
use Rattle.logs.specs.declared.contexts.First.TheVariants as first
use Rattle.logs.specs.declared.log_names.LogNames.{LogNames}
use Rattle.logs.specs.declared.address_words.AddressWord.{AddressWord}
use Rattle.logs.specs.declared.line.LineProgress.{LineProgress}
use Rattle.logs.specs.declared.words.Word.{Word}

-- nothing was seen
abbrev pub first_context : LogContext
first_context = record { first = first.Exact; is_user = false; names = no_names }

-- the place after the closers of a word
abbrev pub place_after : List ℕ → AddressWord → ℕ
place_after line t = t.word.end + run_of is_closer (drop t.word.end line)

-- the line from a place on, with the texts after its address words that it does not say itself
abbrev pub annotated_from : Answering → List ℕ → ℕ → List AddressWord → List ℕ
annotated_from answer line at [] = drop at line
annotated_from answer line at (t ∷ more) =
    let place = place_after line t in
    let rest = drop place line in
    option_map_or (λ text. part line at place ++ text ++ annotated_from answer line place more)
    (insertion answer t.value rest (text_for answer (as_read answer rest t)))
    (annotated_from answer line at more)

-- what is counted, with these address words more
abbrev pub counted : Answering → List ℕ → LogNames → List AddressWord → LogNames
counted answer line names [] = names
counted answer line names (t ∷ more) =
    let rest = drop (place_after line t) line in
    let read = as_read answer rest t in
    counted answer line (with_address answer read rest (text_for answer read) names) more

-- A line with the texts of its answers. A long one stays as it is.
unfoldable pub annotated_line : Answering → LogContext → List ℕ → List ℕ
annotated_line answer context line =
    if is_long line then line else annotated_from answer line 0
    (taken_in answer.is_narrow context line)

-- what is carried on after a line: nothing of a long one
unfoldable pub context_behind : Answering → LogContext → List ℕ → LogContext
context_behind answer context line =
    let taken = taken_in answer.is_narrow context line in
    if is_long line then context
    else record {
      first =
          next_first context.first (list_any (λ t. t.is_frame) taken) (tells_place line)
          (ends_trace line);
      is_user = is_user_line context line || begins_user line;
      names = with_line answer line (counted answer line context.names taken);
    }

-- lines with their texts; and what is carried on after them
abbrev pub annotated_lines : Answering → LogContext → List (List ℕ) → List ℕ
annotated_lines answer context [] = []
annotated_lines answer context (line ∷ more) =
    annotated_line answer context line
    ++ annotated_lines answer (context_behind answer context line) more

abbrev pub context_over : Answering → LogContext → List (List ℕ) → LogContext
context_over answer context [] = context
context_over answer context (line ∷ more) =
    context_over answer (context_behind answer context line) more

-- a whole log; and its names
abbrev pub annotated : Answering → List ℕ → List ℕ
annotated answer log = annotated_lines answer first_context (lines log)

abbrev pub names_of : Answering → List ℕ → LogNames
names_of answer log = (context_over answer first_context (lines log)).names

-- ---- a line that is put word by word

-- the fewest bytes of an address word, and a byte that one may have
abbrev pub fewest : Bool → ℕ
fewest narrow = if narrow then 8 else 11

abbrev pub is_address_byte : ℕ → Bool
is_address_byte b = is_digit b 16 || digit_value b == 33

-- the first place at which a word goes on
abbrev pub is_begun : List ℕ → ℕ → ℕ → Bool
is_begun line from start = nat_lt from start && is_word_byte (slice_index_or line (start - 1) 0)

-- the two lists of words of a line have equal addresses
abbrev pub SameAddresses : Bool → List ℕ → List Word → List Word → Type 0
SameAddresses narrow line words words' =
    (context : LogContext) (last : Option AddressWord)
    → taken_among narrow context line last words ≡ taken_among narrow context line last words'

-- the address words that are still to come; what is still to be put; whether there is a frame; and
-- what is counted
abbrev pub left_of : Answering → LogContext → List ℕ → LineProgress → List Word → List AddressWord
left_of answer context line p words = taken_among answer.is_narrow context line p.last words

abbrev pub owed : Answering → LogContext → List ℕ → LineProgress → List Word → List ℕ
owed answer context line p words =
    annotated_from answer line p.put (left_of answer context line p words)

abbrev pub framed : Answering → LogContext → List ℕ → LineProgress → List Word → Bool
framed answer context line p words =
    p.has_frame || list_any (λ t. t.is_frame) (left_of answer context line p words)

abbrev pub tallied : Answering → LogContext → List ℕ → LineProgress → List Word → LogNames
tallied answer context line p words =
    counted answer line p.names (left_of answer context line p words)
