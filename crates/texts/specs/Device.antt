-- What a clause reads of a writer whose calls return success or failure.
use Rattle.std.specs.Prelude.{ℕ, nat_eq, Bool, true, false, Option, Some, Result, Ok, Err}
use Rattle.std.specs.declared.io.Error.{Error}
use Rattle.texts.specs.declared.device.Device.{Device}

-- the writer alone
abbrev pub writer_in : {W : Type 0} → Device W → W
writer_in d = d.writer

-- whether a call of it failed
abbrev pub is_broken : {W : Type 0} → Device W → Bool
is_broken d = d.failed

-- the error that the failed call gave, if it gave one
abbrev pub error_kept : {W : Type 0} → Device W → Option Error
error_kept d = d.error

-- whether no bytes were taken since it was flushed
abbrev pub is_settled : {W : Type 0} → Device W → Bool
is_settled d = d.flushed

-- whether the answer to bytes is a failure: none were taken, or an error came
abbrev pub is_failed_write : {E : Type 0} → Result ℕ E → Bool
is_failed_write (Ok taken) = nat_eq taken 0
is_failed_write (Err e) = true

-- whether the answer to a flush is a failure
abbrev pub is_failed_flush : {E : Type 0} → Result (Unit {0}) E → Bool
is_failed_flush (Ok u) = false
is_failed_flush (Err e) = true

-- the error that is kept after a call: its own, if it gave one
abbrev pub error_after : {A : Type 0} → Option Error → Result A Error → Option Error
error_after kept (Ok v) = kept
error_after kept (Err e) = Some e
