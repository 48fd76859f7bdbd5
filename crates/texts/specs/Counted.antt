-- What a clause reads of a counted reader, and how its count moves.
use Rattle.std.specs.Prelude.{◌≡◌, ℕ, ◌+◌, ◌-◌, ◌^◌, min}
use Rattle.std.specs.Prelude.{Option, Result, Ok, Err}
use Rattle.std.specs.declared.io.Error.{Error}
use Rattle.texts.specs.declared.counted.Counted.{Counted}

-- the reader inside
abbrev pub device_of : {D : Type 0} → Counted D → D
device_of c = c.device

-- how many of its calls failed
abbrev pub failures_of : {D : Type 0} → Counted D → ℕ
failures_of c = c.failures

-- the error that a call of it gave last, if one gave any
abbrev pub error_of : {D : Type 0} → Counted D → Option Error
error_of c = c.error

-- one failure more, up to the greatest u64
abbrev pub one_failure_more : ℕ → ℕ
one_failure_more n = min (n + 1) (2 ^ 64 - 1)

-- the count after a call that fails by an error alone
abbrev pub after_call : {A E : Type 0} → ℕ → Result A E → ℕ
after_call n (Ok _) = n
after_call n (Err _) = one_failure_more n

-- no call failed between the two
abbrev pub NoneFailed : {D : Type 0} → Counted D → Counted D → Type 0
NoneFailed old new = failures_of new ≡ failures_of old

-- one failed call was counted between the two, unless no more can be counted
abbrev pub Rose : ℕ → ℕ → Type 0
Rose before after = after ≡ one_failure_more before
