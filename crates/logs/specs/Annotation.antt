-- What was read of a log, and what was written for it.
use Rattle.std.specs.Prelude.{◌≡◌, ℕ, ◌-◌, ◌^◌, ◌≤◌, ◌⊎◌, true, false, List, [], ◌++◌}
use Rattle.std.specs.Prelude.{if◌then◌else◌, length, take, Option, Result, Ok, Err}
use Rattle.std.specs.Io.KnownBytes.{Appends, Consumes, IsAtEnd}
use Rattle.std.specs.declared.io.Error.{Error}
use Rattle.texts.specs.declared.counted.Counted.{Counted}
use Rattle.texts.specs.Counted.{NoneFailed, Rose, device_of, failures_of}
use Rattle.texts.specs.declared.output.Output.{Output}
use Rattle.texts.specs.Output.{Delivered, WrotePart, contents_of, error_in, has_failed, is_flushed}
use Rattle.texts.specs.Output.{IsBrokenPipe, IsNoBrokenPipe}
use Rattle.logs.specs.Answering.{Answering}
use Rattle.logs.specs.AnnotatedLogs.{annotated, annotated_lines, context_over, names_of}
use Rattle.logs.specs.Lines.{AreWhole, has_end, is_long, lines}
use Rattle.logs.specs.declared.annotation.Findings.{Findings}
use Rattle.logs.specs.declared.annotation.LogFault.{LogFault}
use Rattle.logs.specs.declared.annotation.LogFault.TheVariants as fault
use Rattle.logs.specs.declared.annotator.Annotator.{Annotator}
use Rattle.logs.specs.declared.contexts.LogContext.{LogContext}
use Rattle.logs.specs.declared.log_names.LogNames.{LogNames}

-- of a line without an end: what is put already, all of one that is too long; and what is kept
abbrev pub put_of : List ℕ → List ℕ
put_of line = if is_long line then line else []

abbrev pub kept_of : List ℕ → List ℕ
kept_of line = if is_long line then [] else line

-- what is carried on after the lines that were put
abbrev pub context_in : Annotator → LogContext
context_in a = a.context

-- This line, which has no end yet, follows the lines that were put.
pub record IsOpen (a : Annotator) (line : List ℕ) : Type 0 where
  pub no_end : has_end line ≡ false
  pub long : a.is_long ≡ is_long line
  pub kept : a.begun.items ≡ kept_of line

-- With these bytes, after an open line, the lines that have their end now are put, each annotated,
-- and what is put of the line that is open after them.
pub record Passed (answer : Answering) (a a' : Annotator) (line bytes text : List ℕ) : Type 0 where
  pub passed : List ℕ
  pub line' : List ℕ
  pub parts : line ++ bytes ≡ passed ++ line'
  pub whole : AreWhole passed
  pub is_open : IsOpen a' line'
  pub context : context_in a' ≡ context_over answer (context_in a) (lines passed)
  pub put : put_of line ++ text
      ≡ annotated_lines answer (context_in a) (lines passed) ++ put_of line'

abbrev pub Passes : Answering → Annotator → Annotator → List ℕ → List ℕ → Type 0
Passes answer a a' bytes text =
    (line : List ℕ) → IsOpen a line → Passed answer a a' line bytes text

-- If no more bytes come, the open line is put as the last one, and these are the names.
pub record Ended (answer : Answering) (a : Annotator) (line : List ℕ) (names : LogNames)
    (text : List ℕ) : Type 0 where
  pub names_are : names ≡ (context_over answer (context_in a) (lines line)).names
  pub put : put_of line ++ text ≡ annotated_lines answer (context_in a) (lines line)

abbrev pub EndsLog : Answering → Annotator → LogNames → List ℕ → Type 0
EndsLog answer a names text = (line : List ℕ) → IsOpen a line → Ended answer a line names text

-- the text and the names of an annotated log; and what was found of it besides
pub record IsAnnotation (answer : Answering) (log text : List ℕ) (names : LogNames) : Type 0 where
  pub is_annotated : text ≡ annotated answer log
  pub are_names : names ≡ names_of answer log

abbrev pub IsAnnotationOf : Answering → List ℕ → Findings → List ℕ → Type 0
IsAnnotationOf answer log found text =
    IsAnnotation answer log text found.names × (found.head.items ≡ take 2 log)

-- A text was added to bytes, and this holds of it.
abbrev pub Adds : List ℕ → List ℕ → (List ℕ → Type 0) → Type 0
Adds out out' P = (text : List ℕ) × (out' ≡ out ++ text) × P text

-- the fault of a write that failed with this error: nobody reads any more exactly if it says so
abbrev pub IsWriteFault : Option Error → LogFault → Type 0
IsWriteFault error fault.Write = IsNoBrokenPipe error
IsWriteFault error fault.Closed = IsBrokenPipe error
IsWriteFault error _ = ⊥

module _ {W X : Type 0} (contents : W → Option (List ℕ)) (P : X → List ℕ → Type 0)
    (w w' : Output W) where
  -- A text was written, and nothing is kept back; or nothing was done; or a call failed, and a
  -- beginning of a text was written. This holds of what is returned and of the text.
  abbrev pub Puts : Result X LogFault → Type 0
  Puts (Ok x) = (text : List ℕ) × Delivered contents w w' text × P x text
  Puts (Err fault.OutOfMemory) = w' ≡ w
  Puts (Err f) =
      ((text : List ℕ) × (x : X) × WrotePart contents w w' text × P x text)
      × IsWriteFault (error_in w') f

-- the annotated log begins with what was written, whatever comes after what was read
abbrev pub BeginsLog : Answering → List ℕ → List ℕ → Type 0
BeginsLog answer written read =
    (more : List ℕ) → (rest : List ℕ) × (annotated answer (read ++ more) ≡ written ++ rest)

-- What was written are the whole lines that were read, annotated, and the line after them as far
-- as it was read, if it is too long to be annotated.
pub record IsUpToDate (answer : Answering) (written read : List ℕ) : Type 0 where
  pub passed : List ℕ
  pub line : List ℕ
  pub parts : read ≡ passed ++ line
  pub whole : AreWhole passed
  pub no_end : has_end line ≡ false
  pub is_written : written ≡ annotated answer passed ++ put_of line
  pub begins : BeginsLog answer written read

-- the writer was not called, or a flush was its last call
abbrev pub KeepsNothingBack : {W : Type 0} → Output W → Output W → Type 0
KeepsNothingBack w w' = (w' ≡ w) ⊎ (is_flushed w' ≡ true)

module _ {R W : Type 0} (remaining : R → Option (List ℕ)) (contents : W → Option (List ℕ))
    (answer : Answering) (r r' : Counted R) (w w' : Output W) where
  -- The reader gave some bytes, and some were written, and this holds of them.
  abbrev pub MovesSome : (List ℕ → List ℕ → Type 0) → Type 0
  MovesSome P =
      (read : List ℕ) × (written : List ℕ)
      × Consumes (remaining (device_of r)) (remaining (device_of r')) read
      × Appends (contents_of contents w) (contents_of contents w') written × P written read

  -- A call of the writer failed, and what was written until then is a beginning of the annotated
  -- log, which may be at its end.
  abbrev pub IsCutOff : Type 0
  IsCutOff =
      NoneFailed r r' × (has_failed w' ≡ true)
      × MovesSome (λ written read. BeginsLog answer written read
      ⊎ (IsAtEnd (remaining (device_of r'))
      × (rest : List ℕ) × (annotated answer read ≡ written ++ rest)))

  -- No call of the writer failed, it keeps nothing back, and this was read and written.
  abbrev pub IsSound : (List ℕ → List ℕ → Type 0) → Type 0
  IsSound P = (has_failed w' ≡ has_failed w) × KeepsNothingBack w w' × MovesSome P

  -- what is returned
  abbrev pub Annotates : Result Findings LogFault → Type 0
  Annotates (Ok found) =
      NoneFailed r r' × (has_failed w' ≡ false) × (is_flushed w' ≡ true)
      × MovesSome (λ written log.
      IsAtEnd (remaining (device_of r')) × (written ≡ annotated answer log)
      × (found.names ≡ names_of answer log) × (found.head.items ≡ take 2 log))
  Annotates (Err fault.OutOfMemory) = NoneFailed r r' × IsSound (BeginsLog answer)
  Annotates (Err fault.TooLong) =
      NoneFailed r r' × IsSound (λ written read.
      IsUpToDate answer written read × (2 ^ 64 - 1 ≤ length read))
  Annotates (Err fault.Read) =
      Rose (failures_of r) (failures_of r') × IsSound (IsUpToDate answer)
  Annotates (Err f) = IsCutOff × IsWriteFault (error_in w') f
