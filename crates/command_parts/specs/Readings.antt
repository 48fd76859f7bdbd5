-- What is returned if files are read one after the other, and which of the readers failed.
use Rattle.std.specs.Prelude.{◌≡◌, ◌⊎◌, ℕ, zero, suc, List, [], ◌∷◌, Option, Some, None, Result, Ok}
use Rattle.std.specs.Prelude.{Err}
use Rattle.std.specs.Prelude.{IfSome, true, false}
use Rattle.std.specs.Option.{option_map, option_map_or}
use Rattle.texts.specs.declared.counted.Counted.{Counted}
use Rattle.texts.specs.Counted.{Rose, device_of, failures_of}
use Rattle.texts.specs.declared.output.Output.{Output}
use Rattle.texts.specs.Output.{has_failed}
use Rattle.order_laws.specs.declared.refusals.Refusal.TheVariants as refusal
use Rattle.command_parts.specs.declared.fault.Fault.{Fault}
use Rattle.command_parts.specs.declared.fault.Fault.TheVariants.{Refused, BadLine, Read, Write}

-- what a reader gives that may be there, if that is known
abbrev pub known_text : {A : Type 0} → (A → Option (List ℕ)) → Option (Counted A)
    → Option (Option (List ℕ))
known_text remaining None = Some None
known_text remaining (Some reader) = option_map (λ text. Some text) (remaining (device_of reader))

-- how many calls failed of a reader that may be there
abbrev pub failures_in : {R : Type 0} → Option (Counted R) → ℕ
failures_in reader = option_map_or failures_of reader 0

-- The counts of failed calls of each reader before and after, in the order in which they are read.
abbrev pub Failures : Type 0
Failures = List (ℕ × ℕ)

-- the counts of the fourth reader, if it alone is read
abbrev pub last_failures : ℕ → ℕ → Failures
last_failures before after = (0, 0) ∷ (0, 0) ∷ (0, 0) ∷ (before, after) ∷ []

abbrev pub NoReaderFailed : Failures → Type 0
NoReaderFailed [] = Unit {0}
NoReaderFailed (n ∷ rest) = (n.1 ≡ n.0) × NoReaderFailed rest

-- the reader at this place failed, and no other
abbrev pub OnlyFailed : ℕ → Failures → Type 0
OnlyFailed place [] = ⊥
OnlyFailed zero (n ∷ rest) = Rose n.0 n.1 × NoReaderFailed rest
OnlyFailed (suc place) (n ∷ rest) = (n.1 ≡ n.0) × OnlyFailed place rest

-- one reader was read whole, or not, as the file at this place
abbrev pub IsReadAs : {A : Type 0} → ℕ → ℕ → ℕ → Result A Fault → Type 0
IsReadAs place before after (Ok _) = after ≡ before
IsReadAs place before after (Err (Refused refusal.OutOfMemory)) = after ≡ before
IsReadAs place before after (Err (Read p)) = (p ≡ place) × Rose before after
IsReadAs place before after (Err _) = ⊥

-- no file has a bad line, and this holds of what the files say
abbrev pub HoldsOf : {I B : Type 0} → (I → Type 0) → Result I B → Type 0
HoldsOf P (Ok i) = P i
HoldsOf P (Err bad) = ⊥

-- the file at this place is one whose lines all have to be understood
abbrev pub IsLinesPlace : ℕ → Type 0
IsLinesPlace place = (place ≡ 2) ⊎ (place ≡ 3)

-- What an engine returns that read its inputs, if these are known, by what it says of them. A
-- call of a reader or of the writer failed if the answer says so, and else none; and every fault
-- but a failed write leaves the writer as it was.
abbrev pub AnswersInputs : {I V W : Type 0} → (I → Result V Fault → Type 0)
    → Option (Result I (ℕ × ℕ)) → Failures
    → Output W → Output W → Result V Fault → Type 0
AnswersInputs Says known counts w w' (Ok v) =
    NoReaderFailed counts × (has_failed w' ≡ false) × IfSome known (HoldsOf (λ i. Says i (Ok v)))
AnswersInputs Says known counts w w' (Err (Refused refusal.OutOfMemory)) =
    NoReaderFailed counts × (w' ≡ w)
AnswersInputs Says known counts w w' (Err (Refused refusal.BadCapacity)) =
    NoReaderFailed counts × (w' ≡ w)
    × IfSome known (HoldsOf (λ i. Says i (Err (Refused refusal.BadCapacity))))
AnswersInputs Says known counts w w' (Err (Refused refusal.TooManyRegions)) =
    NoReaderFailed counts × (w' ≡ w)
    × IfSome known (HoldsOf (λ i. Says i (Err (Refused refusal.TooManyRegions))))
AnswersInputs Says known counts w w' (Err (BadLine place n)) =
    NoReaderFailed counts × (w' ≡ w) × IsLinesPlace place × IfSome known (λ i. i ≡ Err (place, n))
AnswersInputs Says known counts w w' (Err (Read place)) = (w' ≡ w) × OnlyFailed place counts
AnswersInputs Says known counts w w' (Err Write) =
    NoReaderFailed counts × (has_failed w' ≡ true)
    × IfSome known (HoldsOf (λ i. Says i (Err Write)))
AnswersInputs Says known counts w w' (Err _) = ⊥
