-- What is said to an output, what its device takes of it, and what is kept back.
use Rattle.std.specs.Prelude.{◌≡◌, ◌≢◌, ℕ, List, [], ◌++◌, Bool, true, false, length, nat_eq}
use Rattle.std.specs.Prelude.{Option, None, IfSome, IsSomeAnd, if◌then◌else◌}
use Rattle.std.specs.Io.KnownBytes.{Appends, append_known}
use Rattle.std.specs.IoError.{error_kind}
use Rattle.std.specs.declared.io.Error.{Error}
use Rattle.std.specs.declared.io.ErrorKind.TheVariants.{BrokenPipe}
use Rattle.texts.specs.Device.{error_kept, is_broken, is_settled, writer_in}
use Rattle.texts.specs.declared.output.Output.{Output}

-- the writer inside
abbrev pub writer_of : {W : Type 0} → Output W → W
writer_of o = writer_in o.device

-- whether a call of it failed
abbrev pub has_failed : {W : Type 0} → Output W → Bool
has_failed o = is_broken o.device

-- the error that the failed call gave, if it gave one
abbrev pub error_in : {W : Type 0} → Output W → Option Error
error_in o = error_kept o.device

-- what was said and not given to the device
abbrev pub kept_back : {W : Type 0} → Output W → List ℕ
kept_back o = o.kept.items

-- the bytes that the device holds, if they are known, and then what is kept back
abbrev pub contents_of : {W : Type 0} → (W → Option (List ℕ)) → Output W → Option (List ℕ)
contents_of contents o = append_known (contents (writer_of o)) (kept_back o)

-- whether nothing is kept back, and the device took no bytes since it was flushed
abbrev pub is_flushed : {W : Type 0} → Output W → Bool
is_flushed o = if nat_eq (length (kept_back o)) 0 then is_settled o.device else false

-- an output over this writer, before any call of it
abbrev pub IsOpenedOver : {W : Type 0} → W → Output W → Type 0
IsOpenedOver device o =
    (writer_of o ≡ device) × (has_failed o ≡ false) × (error_in o ≡ None)
    × (is_flushed o ≡ true)

-- the error of a failed call says that nobody reads any more what is written
abbrev pub IsBrokenPipe : Option Error → Type 0
IsBrokenPipe error = IsSomeAnd error (λ e. error_kind e ≡ BrokenPipe)

-- a call failed for another reason
abbrev pub IsNoBrokenPipe : Option Error → Type 0
IsNoBrokenPipe error = IfSome error (λ e. error_kind e ≢ BrokenPipe)

-- Of a whole text this rest is still to be said: since the output was opened, its device has taken
-- all that was said before but what is kept back, or a beginning of it if a call of it failed. One
-- that had failed when it was opened was not called, and no error is kept but the one of a failed
-- call.
pub record Awaits {W : Type 0} (contents : W → Option (List ℕ)) (opened : Output W)
    (whole rest : List ℕ) (o : Output W) : Type 0 where
  pub taken : List ℕ
  pub lost : List ℕ
  pub parts : whole ≡ (taken ++ lost) ++ rest
  pub holds : Appends (contents_of contents opened) (contents_of contents o) taken
  pub none_lost : has_failed o ≡ false → lost ≡ []
  pub no_error : has_failed o ≡ false → error_in o ≡ error_in opened
  pub uncalled : has_failed opened ≡ true → o ≡ opened

-- This text was said: of each whole text that it was the next part of, what comes after it is
-- next. What failed stays so.
pub record Says {W : Type 0} (contents : W → Option (List ℕ)) (old new : Output W)
    (text : List ℕ) : Type 0 where
  pub next : (opened : Output W) (whole rest : List ℕ)
      → Awaits contents opened whole (text ++ rest) old → Awaits contents opened whole rest new
  pub stays : has_failed old ≡ true → has_failed new ≡ true

-- This text was said, and then the output was flushed: nothing is kept back if no call failed.
abbrev pub Delivers : {W : Type 0} → (W → Option (List ℕ)) → Output W → Output W → List ℕ → Type 0
Delivers contents old new text =
    Says contents old new text × (has_failed new ≡ false → is_flushed new ≡ true)

-- No call failed, the device has taken this text and nothing else, and nothing is kept back.
abbrev pub Delivered : {W : Type 0} → (W → Option (List ℕ)) → Output W → Output W → List ℕ → Type 0
Delivered contents old new text =
    (has_failed old ≡ false) × (has_failed new ≡ false)
    × Appends (contents_of contents old) (contents_of contents new) text
    × (is_flushed new ≡ true)

-- This is the writer of an output that was opened over another one, after it took all that was
-- said.
abbrev pub TookAll : {W : Type 0} → (W → Option (List ℕ)) → Output W → W → Type 0
TookAll {W} contents o w =
    (device : W) (opened : Output W) (text : List ℕ) → IsOpenedOver device opened
    → Says contents opened o text → Appends (contents device) (contents w) text

-- A call failed, and what the output holds, kept back or not, grew by a beginning of this text and
-- by nothing else. What is kept back then is never given to the device.
abbrev pub WrotePart : {W : Type 0} → (W → Option (List ℕ)) → Output W → Output W → List ℕ → Type 0
WrotePart contents old new text =
    (has_failed new ≡ true) × (part : List ℕ) × (rest : List ℕ) × (text ≡ part ++ rest)
    × Appends (contents_of contents old) (contents_of contents new) part
