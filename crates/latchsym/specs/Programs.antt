-- What the whole program does: from the words of its command line and the files that they name to
-- both of its outputs and its status.
use Rattle.std.specs.Prelude.{◌⊎◌, ℕ, List, map, Option, None, Result, Ok, Err}
use Rattle.std.specs.Borrow.{Bor}
use Rattle.std.specs.declared.io.Error.{Error}
use Rattle.clap.specs.Words.{Text}
use Rattle.texts.specs.declared.output.Output.{Output}
use Rattle.texts.specs.Output.{error_in}
use Rattle.latchsym.specs.Files.{FileTexts, IsOpenedFor}
use Rattle.command_line.specs.Jobs.{AnswersWords}
use Rattle.latchsym.specs.Misuses.{IsNoJob}
use Rattle.command_line.specs.Operands.{with_operands}
use Rattle.latchsym.specs.Outcomes.{IsOutcome}
use Rattle.latchsym.specs.Reasons.{error_behind}
use Rattle.latchsym.specs.Reports.{IsConcluded}
use Rattle.latchsym.specs.declared.jobs.OpenedJob.{OpenedJob}
use Rattle.command_line.specs.declared.requests.Job.{Job}
use Rattle.command_line.specs.declared.requests.JobFault.{JobFault}
use Rattle.command_line.specs.declared.requests.JobFault.TheVariants.{OutOfMemory}
use Rattle.command_parts.specs.declared.fault.Fault.{Fault}
use Rattle.command_parts.specs.declared.fault.Finished.{Finished}

-- the error that made a job fail, if it did
abbrev pub error_of_outcome : {R : Type 0} → OpenedJob R → Option Error → Result Finished Fault
    → Option Error
error_of_outcome job written (Ok finished) = None
error_of_outcome job written (Err fault) = error_behind job written fault

module _ {F W E : Type 0} (remaining : F → Option (List ℕ)) (file_text : FileTexts)
    (contents : W → Option (List ℕ)) (errors : E → Option (List ℕ)) (w w' : Output W)
    (e e' : Output E) where
  -- The engine of a job came to this outcome over the readers of its files, which was reported,
  -- with the status that it means.
  pub record IsDoneOver (job : Job) (opened done : OpenedJob F) (status : ℕ) : Type 0 where
    pub told : Output E
    pub outcome : Result Finished Fault
    pub is_done : IsOutcome remaining file_text contents errors w w' e told opened done outcome
    pub is_told : IsConcluded errors job (error_of_outcome done (error_in w') outcome) told e'
        outcome status

module _ {F W E : Type 0} (remaining : F → Option (List ℕ)) (file_text : FileTexts)
    (standard : Option (List ℕ)) (contents : W → Option (List ℕ))
    (errors : E → Option (List ℕ)) (w w' : Output W) (e e' : Output E) where
  -- The job was opened over the readers of its own files, and done over them.
  abbrev pub IsJobDone : Job → ℕ → Type 0
  IsJobDone job status =
      (opened : OpenedJob F) × (done : OpenedJob F)
      × IsOpenedFor remaining file_text standard job opened
      × IsDoneOver remaining file_text contents errors w w' e e' job opened done status

  -- What comes of a job: it is done, or memory ran out before it was begun.
  abbrev pub ComesOf : Job → ℕ → Type 0
  ComesOf job status =
      IsJobDone job status ⊎ IsNoJob contents errors w w' e e' OutOfMemory status

  -- What comes of the answer to words: of their job, or of why they ask for none.
  abbrev pub ComesOfAnswer : Result Job JobFault → ℕ → Type 0
  ComesOfAnswer (Ok job) status = ComesOf job status
  ComesOfAnswer (Err fault) status = IsNoJob contents errors w w' e e' fault status

  -- The words of a command line were answered, and that came of it.
  abbrev pub AnswersArguments : List Text → ℕ → Type 0
  AnswersArguments words status =
      (answer : Result Job JobFault) × AnswersWords (with_operands words) answer
      × ComesOfAnswer answer status

  -- The program's words, if it has them, were answered; else the reason was given.
  abbrev pub AnswersCommand : {S : Type 0} → (S → Text) → Result (Bor (List S)) JobFault → ℕ
      → Type 0
  AnswersCommand text (Ok words) status = AnswersArguments (map text words.now) status
  AnswersCommand text (Err fault) status = IsNoJob contents errors w w' e e' fault status
