-- What the lines of a text say, if each of them has to be understood.
use Rattle.std.specs.Prelude.{ℕ, ◌+◌, ◌^◌, ◌<◌, ◌≤◌, ◌==◌, nat_lt, Bool, true, if◌then◌else◌}
use Rattle.std.specs.Prelude.{List, [], ◌∷◌, ◌++◌, length, Option, Some, None, Result, Ok, Err, ◌≡◌}
use Rattle.std.specs.Option.{option_map_or}
use Rattle.texts.specs.Lines.{lines_of, longest_line}
use Rattle.texts.specs.declared.said.NextEntry.{NextEntry}
use Rattle.texts.specs.declared.said.LineMeaning.{LineMeaning}
use Rattle.texts.specs.declared.said.LineMeaning.TheVariants.{Nothing, One, Bad}
use Rattle.texts.specs.declared.faults.LineFault.{LineFault}
use Rattle.texts.specs.declared.faults.LineFault.TheVariants as line
use Rattle.texts.specs.declared.faults.ReadFault.{ReadFault}
use Rattle.texts.specs.declared.faults.ReadFault.TheVariants as read

-- more bytes than a line may have
abbrev pub is_too_long : List ℕ → Bool
is_too_long line = nat_lt longest_line (length line)

-- nothing, or a comment: a line whose first byte is #
abbrev pub is_passed_over : List ℕ → Bool
is_passed_over [] = true
is_passed_over (b ∷ line) = b == 35

-- what a line says, if `form` gives the entry that a line is, if it is one
abbrev pub said_by : {T : Type 0} → (List ℕ → Option T) → List ℕ → LineMeaning T
said_by form line =
    if is_too_long line then Bad
    else if is_passed_over line then Nothing
    else option_map_or (λ entry. One entry) (form line) Bad

-- these entries, and then those that are said
abbrev pub entries_after : {T : Type 0} → List T → Result (List T) ℕ → Result (List T) ℕ
entries_after front (Ok rest) = Ok (front ++ rest)
entries_after front (Err n) = Err n

-- the entries of lines, the first of them number n, or the number of the first bad line
abbrev pub entries_from : {T : Type 0} → (List ℕ → Option T) → ℕ → List (List ℕ) → Result (List T) ℕ
entries_from form n [] = Ok []
entries_from form n (line ∷ lines) =
    elim (said_by form line) [
      | Nothing ↦ entries_from form (n + 1) lines
      | One entry ↦ entries_after (entry ∷ []) (entries_from form (n + 1) lines)
      | Bad ↦ Err n
    ]

-- what a fault says of the text, if it is one of its lines
abbrev pub Faults : {C : Type 0} → LineFault → Result C ℕ → Type 0
Faults line.OutOfMemory said = Unit {0}
Faults line.Read said = Unit {0}
Faults (line.BadLine n) said = said ≡ Err n

-- the numbers of the lines that are not passed over, the first line being number n
abbrev pub said_lines : ℕ → List (List ℕ) → List ℕ
said_lines n [] = []
said_lines n (line ∷ lines) =
    if is_passed_over line then said_lines (n + 1) lines else n ∷ said_lines (n + 1) lines

-- What a call returned is what the text says, unless memory ran out or the reader failed.
abbrev pub Gives : {V C : Type 0} → (V → C) → Result V LineFault → Result C ℕ → Type 0
Gives view (Ok v) said = said ≡ Ok (view v)
Gives view (Err fault) said = Faults fault said

-- what is said of a text that was not read
abbrev pub fault_of_reading : ReadFault → LineFault
fault_of_reading read.OutOfMemory = line.OutOfMemory
fault_of_reading read.Read = line.Read

-- What a fault says after a call that is given the bytes, so that no reader can fail.
abbrev pub FaultsInGrammar : {C : Type 0} → LineFault → Result C ℕ → Type 0
FaultsInGrammar line.OutOfMemory said = Unit {0}
FaultsInGrammar line.Read said = ⊥
FaultsInGrammar (line.BadLine n) said = said ≡ Err n

abbrev pub GivesInGrammar : {V C : Type 0} → (V → C) → Result V LineFault → Result C ℕ → Type 0
GivesInGrammar view (Ok v) said = said ≡ Ok (view v)
GivesInGrammar view (Err fault) said = FaultsInGrammar fault said

-- each of these lines has a number
abbrev pub AreNumbered : ℕ → List ℕ → Type 0
AreNumbered number text = number + length text < 2 ^ 64

-- the first entry that lines are, the first line being number n, and what the lines after it are
abbrev pub GivesNext : {T : Type 0} → (List ℕ → Option T) → ℕ → List ℕ
    → Result (Option (NextEntry T)) LineFault → Type 0
GivesNext form n text (Ok None) = entries_from form n (lines_of text) ≡ Ok []
GivesNext form n text (Ok (Some next)) =
    entries_from form n (lines_of text)
    ≡ entries_after (next.entry ∷ []) (entries_from form (next.line + 1) (lines_of next.rest.now))
GivesNext form n text (Err fault) = FaultsInGrammar fault (entries_from form n (lines_of text))

-- the line of an entry is the first that is not passed over; without an entry each line is
abbrev pub HasLine : {T : Type 0} → ℕ → List ℕ → Option (NextEntry T) → Type 0
HasLine n text None = said_lines n (lines_of text) ≡ []
HasLine n text (Some next) =
    said_lines n (lines_of text) ≡ next.line ∷ said_lines (next.line + 1) (lines_of next.rest.now)

-- after an entry there are fewer bytes, and no number is too great for them
abbrev pub LeavesFewer : {T : Type 0} → ℕ → List ℕ → Option (NextEntry T) → Type 0
LeavesFewer n text None = Unit {0}
LeavesFewer n text (Some next) =
    (length next.rest.now < length text)
    × (next.line + 1 + length next.rest.now ≤ n + length text)
