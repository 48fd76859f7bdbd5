-- What is said of a command line that gives no job, and the program's status.
use Rattle.std.specs.Prelude.{◌≡◌, ◌≢◌, ◌⊎◌, ℕ, List, [], ◌++◌, Option, None, codes, is_some}
use Rattle.std.specs.Prelude.{true, false}
use Rattle.std.specs.Prelude.{if◌then◌else◌}
use Rattle.texts.specs.Numbers.{numeral}
use Rattle.clap.specs.Words.{Text, kind_of}
use Rattle.clap.specs.declared.error.Error.{Error}
use Rattle.clap.specs.declared.error.kind.ErrorKind.TheVariants as kind
use Rattle.texts.specs.declared.output.Output.{Output}
use Rattle.texts.specs.Output.{Delivers, Says, has_failed}
use Rattle.order_laws.specs.declared.refusals.Refusal.TheVariants as refusal
use Rattle.latchsym.specs.Reports.{fault_text}
use Rattle.command_line.specs.declared.requests.JobFault.{JobFault}
use Rattle.command_line.specs.declared.requests.JobFault.TheVariants.{OutOfMemory, CommandLine}
use Rattle.command_line.specs.declared.requests.JobFault.TheVariants.{BadAddress, NoAddress}
use Rattle.command_line.specs.declared.requests.JobFault.TheVariants.{BadEnd, BadOffset}
use Rattle.command_line.specs.declared.requests.JobFault.TheVariants.{BadReaders, BadTime, NoJob}
use Rattle.command_line.specs.declared.requests.JobFault.TheVariants.{NoText}
use Rattle.command_line.specs.declared.requests.JobFault.TheVariants.{Conflict, FollowedByOwnOffset}
use Rattle.command_parts.specs.declared.fault.Fault.TheVariants.{Refused, Write}
use Rattle.latchsym.specs.declared.misuse.TheConstants as text

-- what is wrong with the command line, and with which word
abbrev pub misuse_text : List ℕ → Text → List ℕ
misuse_text message word = text.PROGRAM.now ++ message ++ word ++ codes "\n"

-- what is wrong with an offset: it may be a hexadecimal number that lacks its prefix
abbrev pub offset_message : Text → List ℕ
offset_message word =
    if is_some (numeral 16 16 word) then text.OFFSET_WITHOUT_PREFIX.now
    else text.BAD_OFFSET.now

-- what is wrong was said, with the status of a misuse
abbrev pub IsMisused : {D : Type 0} → (D → Option (List ℕ)) → Output D → Output D
    → List ℕ → Text → ℕ → Type 0
IsMisused contents old new message word status =
    (status ≡ 2) × Says contents old new (misuse_text message word)

-- the parser found a fault, and did not stop for help that was asked for
abbrev pub IsParseFault : Error → Type 0
IsParseFault e = (kind_of e ≢ kind.DisplayHelp) × (kind_of e ≢ kind.DisplayVersion)

-- This help was written, and nothing is kept back; or a call of the writer failed, and that was
-- said.
abbrev pub IsHelped : {W E : Type 0} → (W → Option (List ℕ)) → (E → Option (List ℕ)) → Output W
    → Output W → Output E → Output E → List ℕ → ℕ → Type 0
IsHelped contents errors w w' e e' text status =
    Delivers contents w w' text
    × (((status ≡ 0) × (has_failed w' ≡ false) × (e' ≡ e))
    ⊎ ((status ≡ 1) × (has_failed w' ≡ true) × Says errors e e' (fault_text [] None Write)))

-- What the parser has to say was said: a fault, or help; or there was no memory for it. Which text
-- it is the parser's contract does not say.
abbrev pub IsExplained : {W E : Type 0} → (W → Option (List ℕ)) → (E → Option (List ℕ)) → Output W
    → Output W → Output E → Output E → Error → ℕ → Type 0
IsExplained contents errors w w' e e' error status =
    (IsParseFault error × (status ≡ 2) × (w' ≡ w) × (text : List ℕ) × Says errors e e' text)
    ⊎ ((IsParseFault error → ⊥)
    × (text : List ℕ) × IsHelped contents errors w w' e e' text status)
    ⊎ ((status ≡ 1) × (w' ≡ w)
    × Says errors e e' (fault_text [] None (Refused refusal.OutOfMemory)))

-- nothing was written, and this is wrong with the command line
abbrev pub IsMisusedAlone : {W E : Type 0} → (E → Option (List ℕ)) → Output W → Output W → Output E
    → Output E → List ℕ → Text → ℕ → Type 0
IsMisusedAlone errors w w' e e' message word status =
    (w' ≡ w) × IsMisused errors e e' message word status

-- What is said of a command line that gives no job, and the status.
abbrev pub IsNoJob : {W E : Type 0} → (W → Option (List ℕ)) → (E → Option (List ℕ)) → Output W
    → Output W → Output E → Output E → JobFault → ℕ → Type 0
IsNoJob contents errors w w' e e' OutOfMemory status =
    (status ≡ 1) × (w' ≡ w) × Says errors e e' (fault_text [] None (Refused refusal.OutOfMemory))
IsNoJob contents errors w w' e e' (CommandLine error) status =
    IsExplained contents errors w w' e e' error status
IsNoJob contents errors w w' e e' (BadAddress word) status =
    IsMisusedAlone errors w w' e e' text.BAD_ADDRESS.now word.now status
IsNoJob contents errors w w' e e' NoAddress status =
    IsMisusedAlone errors w w' e e' text.NO_ADDRESS.now [] status
IsNoJob contents errors w w' e e' (Conflict message) status =
    IsMisusedAlone errors w w' e e' message.now [] status
IsNoJob contents errors w w' e e' (BadTime word) status =
    IsMisusedAlone errors w w' e e' text.BAD_TIME.now word.now status
IsNoJob contents errors w w' e e' (BadOffset word) status =
    IsMisusedAlone errors w w' e e' (offset_message word.now) word.now status
IsNoJob contents errors w w' e e' FollowedByOwnOffset status =
    IsMisusedAlone errors w w' e e' text.FOLLOWED_OFFSET.now [] status
IsNoJob contents errors w w' e e' (BadEnd word) status =
    IsMisusedAlone errors w w' e e' text.BAD_BOUND.now word.now status
IsNoJob contents errors w w' e e' (BadReaders word) status =
    IsMisusedAlone errors w w' e e' text.BAD_READERS.now word.now status
IsNoJob contents errors w w' e e' NoJob status =
    IsMisusedAlone errors w w' e e' text.NO_COMMAND.now [] status
IsNoJob contents errors w w' e e' NoText status =
    IsMisusedAlone errors w w' e e' text.NO_TEXT.now [] status
