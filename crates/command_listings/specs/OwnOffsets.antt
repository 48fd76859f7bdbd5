-- A log that is annotated by the offset of its kernel, which it says itself.
use Rattle.std.specs.Prelude.{◌≡◌, ◌⊎◌, ◌++◌, ◌+◌, ◌-◌, ◌%◌, ◌^◌, ◌==◌, ℕ, List, [], ◌∷◌}
use Rattle.std.specs.Prelude.{if◌then◌else◌}
use Rattle.std.specs.Prelude.{Option, Some, None, Result, Ok, Err, IfSome}
use Rattle.texts.specs.Counted.{failures_of}
use Rattle.texts.specs.Lines.{lines_of}
use Rattle.texts.specs.declared.counted.Counted.{Counted}
use Rattle.texts.specs.Output.{Says}
use Rattle.texts.specs.declared.output.Output.{Output}
use Rattle.order_laws.specs.declared.refusals.Refusal.TheVariants as refusal
use Rattle.listing.specs.KernelLines.{kernel_base, without_modules}
use Rattle.listing.specs.Opening.{Given}
use Rattle.listing.specs.declared.address_rules.LogRule.{LogRule}
use Rattle.logs.specs.Annotation.{IsAnnotationOf, Puts}
use Rattle.logs.specs.KernelOffsets.{kernel_offset_in, kernel_place}
use Rattle.logs.specs.declared.annotation.Findings.{Findings}
use Rattle.logs.specs.declared.annotation.LogFault.{LogFault}
use Rattle.logs.specs.declared.kernel_offsets.KernelOffset.{KernelOffset}
use Rattle.command_parts.specs.OpenedCatalogs.{AreReadAs, OpensCatalog}
use Rattle.command_parts.specs.Readings.{Failures, NoReaderFailed}
use Rattle.command_parts.specs.declared.fault.Fault.{Fault}
use Rattle.command_parts.specs.declared.fault.Fault.TheVariants.{Refused}
use Rattle.command_listings.specs.Annotations.{IsEndTold, IsTold, stopped}
use Rattle.command_listings.specs.LogAnswers.{answered_by}
use Rattle.command_listings.specs.declared.annotations.Annotate.{Annotate}
use Rattle.command_listings.specs.declared.own_offsets.NoOffset.{NoOffset}
use Rattle.command_listings.specs.declared.own_offsets.NoOffset.TheVariants.{NoBase, Unsaid}
use Rattle.command_listings.specs.declared.own_offsets.TheConstants.{NO_BASE_LISTED}
use Rattle.command_listings.specs.declared.own_offsets.TheConstants.{NO_OFFSET_SAID, PROGRAM}
use Rattle.command_listings.specs.declared.sources.Sources.{Sources}

-- ---- the offset

-- how many bytes lower the listing has its kernel, which begins there, than it lay; modulo 2 ^ 64
abbrev pub moved_from : ℕ → KernelOffset → ℕ
moved_from base k = (kernel_place k + 2 ^ 64 - base) % 2 ^ 64

-- this by a listing that may lack the place of its kernel
abbrev pub offset_by : Option ℕ → KernelOffset → Result ℕ NoOffset
offset_by None k = Err NoBase
offset_by (Some base) k = Ok (moved_from base k)

-- this of a log that may lack the place of its kernel
abbrev pub offset_of : Option KernelOffset → Option ℕ → Result ℕ NoOffset
offset_of None base = Err Unsaid
offset_of (Some k) base = offset_by base k

-- this of their texts
abbrev pub own_offset : List ℕ → List ℕ → Result ℕ NoOffset
own_offset log kallsyms = offset_of (kernel_offset_in log) (kernel_base (lines_of kallsyms))

-- what is wrong with a file
abbrev pub failure_line : List ℕ → List ℕ → List ℕ
failure_line file message = PROGRAM.now ++ file ++ message

-- the line that says why there is none, of these files
abbrev pub no_offset_line : Sources → Annotate → NoOffset → List ℕ
no_offset_line q a Unsaid = failure_line a.log.now NO_OFFSET_SAID.now
no_offset_line q a NoBase = failure_line q.files.kallsyms.now NO_BASE_LISTED.now

-- ---- what is asked

-- The listings that are asked if the kernel was moved so. Modules are moved on their own, so the
-- modules of a listing of another boot are left out.
abbrev pub asked_by : ℕ → Given → Given
asked_by offset g =
    if offset == 0 then g
    else record {
      modules = None;
      kallsyms = without_modules (lines_of g.kallsyms);
      regions = None;
    }

-- the rule with this offset
abbrev pub by_offset : ℕ → LogRule → LogRule
by_offset offset rule = record rule { offset = offset }

-- ---- what is returned

module _ {W E : Type 0} (contents : W → Option (List ℕ)) (errors : E → Option (List ℕ))
    (q : Sources) (a : Annotate) (w w' : Output W) (e e' : Output E) where
  -- nothing was written, also no note
  abbrev pub IsUnwritten : Type 0
  IsUnwritten = (w' ≡ w) × (e' ≡ e)

  -- this fault is returned before anything was written
  abbrev pub FailsBy : Fault → Result ℕ Fault → Type 0
  FailsBy fault result = (result ≡ Err fault) × IsUnwritten

  -- The notes on the listings were written, and the log with this text was written again, or a
  -- beginning of it, by the answers of their catalog.
  abbrev pub WritesBy : LogRule → Given → List ℕ → Result ℕ Fault → Type 0
  WritesBy rule g log result =
      IsTold errors q.kernel q.files rule.offset (Some g) e
      (λ c narrow listed noted. (end : Result Findings LogFault)
      × Puts contents (IsAnnotationOf (answered_by c rule narrow) log) w w' end
      × IsEndTold errors a.log.now listed noted e' (stopped end) result)

  -- this, unless there is no catalog of the listings
  abbrev pub OpensAndWrites : LogRule → Given → List ℕ → Result ℕ Fault → Type 0
  OpensAndWrites rule g log result =
      ((fault : Fault) × OpensCatalog q.kernel g (Err fault) × FailsBy fault result)
      ⊎ WritesBy rule g log result

  -- why there is no offset was said, and nothing written; that is status 1
  abbrev pub TellsNoOffset : NoOffset → Result ℕ Fault → Type 0
  TellsNoOffset why result =
      (result ≡ Ok 1) × (w' ≡ w) × Says errors e e' (no_offset_line q a why)

  -- this by the offset, if there is one
  abbrev pub WritesByOffset : Given → List ℕ → Result ℕ NoOffset → Result ℕ Fault → Type 0
  WritesByOffset g log (Err why) result = TellsNoOffset why result
  WritesByOffset g log (Ok offset) result =
      FailsBy (Refused refusal.OutOfMemory) result
      ⊎ OpensAndWrites (by_offset offset a.rule) (asked_by offset g) log result

  -- The listings and the log were read, which may be known, and no call of a reader failed; and
  -- the log was written again by the offset that it says.
  pub record WritesRead (known : Option Given) (text : Option (List ℕ)) (counts : Failures)
      (result : Result ℕ Fault) : Type 0 where
    pub given : Given
    pub log : List ℕ
    pub is_given : IfSome known (λ g. given ≡ g)
    pub is_log : IfSome text (λ t. log ≡ t)
    pub read : NoReaderFailed counts
    pub writes : WritesByOffset given log (own_offset log given.kallsyms) result

  -- this, unless they could not be read
  abbrev pub WritesByOwnOffset : Option Given → Option (List ℕ) → Failures → Result ℕ Fault → Type 0
  WritesByOwnOffset known text counts result =
      ((fault : Fault) × AreReadAs {A = ℕ} counts (Err fault) × FailsBy fault result)
      ⊎ WritesRead known text counts result

-- the counts of failed calls of all readers
abbrev pub all_failures : {L : Type 0} → Failures → Counted L → Counted L → Failures
all_failures counts l l' = counts ++ (failures_of l, failures_of l') ∷ []
