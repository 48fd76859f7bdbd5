-- Commands that are taken from lines, and what an engine answered that was given the bytes of a
-- trace: of both engines of traces.
use Rattle.command_traces.proofs.Words.{◌≡◌, ℕ, List, [], Some, None, Result, Ok, Err, ap, refl}
use Rattle.command_traces.proofs.Words.{subst, Refusal, Command, NoneFailed, device_of, Output}
use Rattle.command_traces.proofs.Words.{Delivered, WrotePart, of_read, Header, NumberedCommand}
use Rattle.command_traces.proofs.Words.{IsTaken, IsUnderstood, LinesLeft, Contents, trace_of}
use Rattle.command_traces.proofs.Words.{with_header, Fault, BadLine, Write, IsNext, AnswersReadBy}
use Rattle.command_traces.proofs.Words.{AnswersSaidBy, HeaderMayNotOpen, IsNotOpened, IsTextOf}
use Rattle.command_traces.proofs.Words.{IsTraceWith}
use Rattle.std.proofs.Common.{Option}
use Rattle.std.specs.Prelude.{IfSome}
use Rattle.order_laws.specs.declared.refusals.Refusal.TheVariants as refusal
use Rattle.texts.specs.declared.counted.Counted.{Counted}
use Rattle.command_parts.specs.declared.fault.Fault.TheVariants.{Refused}

-- what was taken from lines, if its test is known
pub taken : (old new : LinesLeft) (next : Option NumberedCommand) (c : NumberedCommand)
    → next ≡ Some c → IsNext old new next → IsTaken old c new
taken old new None c there is = absurd (cc)
taken old new (Some x) c there is = let same : x ≡ c = cc in
    subst (λ y. IsTaken old y new) same is.0

pub none_taken : (old new : LinesLeft) (next : Option NumberedCommand) → next ≡ None
    → IsNext old new next → (old.said ≡ Ok []) × (old.lines ≡ [])
none_taken old new None there is = is
none_taken old new (Some x) there is = absurd (cc)

-- no table was opened for the header of lines that are all in the grammar
pub not_opened : {W : Type 0} (IsRun IsBegun : Contents → List ℕ → Type 0)
    (IsRefused : Output W → Output W → Type 0) (contents : W → Option (List ℕ)) (h : Header)
    (said : Result (List (Command ℕ)) ℕ) (w : Output W)
    → IsRefused w w → (why : Refusal) → IsNotOpened h why → IsUnderstood said → AnswersSaidBy IsRun
    IsBegun IsRefused contents (with_header h said) w w (Err (Refused why))
not_opened IsRun IsBegun IsRefused contents h said w stays refusal.OutOfMemory closed known = stays
not_opened IsRun IsBegun IsRefused contents h said w stays refusal.BadCapacity closed known =
    (refl, (record { header = h; commands = known.0 }, ap (with_header h) known.1, closed))
not_opened IsRun IsBegun IsRefused contents h said w stays _ closed known = absurd closed

-- what an engine answered that was given the bytes, if these are those that a reader had
module _ {R W : Type 0} (IsRun IsBegun : List ℕ → Contents → List ℕ → Type 0)
    (IsRefused IsRefusedRead : Output W → Output W → Type 0)
    (remaining : R → Option (List ℕ)) (contents : W → Option (List ℕ)) (r r' : Counted R)
    (w w' : Output W)
    (bytes : List ℕ) (whole : IfSome (remaining (device_of r)) (λ l. bytes ≡ l))
    (none : NoneFailed r r') (refused : IsRefused w w' → IsRefusedRead w w') where
  held : (P : List ℕ → Type 0) → P bytes → IfSome (remaining (device_of r)) P
  held P holds = of_read (remaining (device_of r)) bytes P whole holds

  pub answers_read : (result : Result (Unit {0}) Fault)
      → AnswersSaidBy (IsRun bytes) (IsBegun bytes) IsRefused contents (trace_of bytes) w w' result
      → AnswersReadBy (IsTextOf IsRun) (IsTextOf IsBegun) IsRefusedRead remaining contents r r' w
      w' result
  answers_read (Ok v) a =
      let (c, reads, opens, (text, runs, wrote)) = a in (
        none,
        wrote.1,
        held (λ read. (t : List ℕ) × IsTextOf IsRun read t × Delivered contents w w' t)
            (text, record { said = c; reads = reads; opens = opens; runs = runs }, wrote),
      )
  answers_read (Err (Refused refusal.OutOfMemory)) a = (none, refused a)
  answers_read (Err (Refused refusal.BadCapacity)) a =
      let (stays, known) = a in
      let (c, reads, closed) = known in (
        none,
        stays,
        held (IsTraceWith HeaderMayNotOpen) (record { said = c; reads = reads; header = closed }),
      )
  answers_read (Err (BadLine place n)) a =
      let (stays, first, reads) = a in
      (none, stays, first, held (λ read. trace_of read ≡ Err n) reads)
  answers_read (Err Write) a =
      let (c, reads, opens, (text, runs, wrote)) = a in (
        none,
        wrote.0,
        held (λ read. (t : List ℕ) × IsTextOf IsBegun read t × WrotePart contents w w' t)
            (text, record { said = c; reads = reads; opens = opens; runs = runs }, wrote),
      )
  answers_read (Err _) a = absurd a
