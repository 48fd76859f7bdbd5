-- What a command returns that wrote all of its text, or a beginning of it.
use Rattle.command_parts.proofs.Words.{◌≡◌, ℕ, List, Result, Ok, Err, false}
use Rattle.std.proofs.Common.{true, OnErr, Option, IfErr, OnOk}
use Rattle.command_parts.specs.declared.fault.Fault.{Fault}
use Rattle.command_parts.specs.declared.fault.Fault.TheVariants.{Write}
use Rattle.texts.proofs.OutputLemmas.{all_delivered, part_written}
use Rattle.texts.specs.Output.{Delivered, Delivers, WrotePart, has_failed}
use Rattle.texts.specs.declared.output.Output.{Output}

module _ {W : Type 0} (contents : W → Option (List ℕ)) (w w' : Output W) (text : List ℕ)
    (delivers : Delivers contents w w' text) (Answers : Result (Unit {0}) Fault → Type 0)
    (whole : (u : Unit {0}) → Delivered contents w w' text → Answers (Ok u))
    (part : WrotePart contents w w' text → Answers (Err Write)) where
  pub said_written : (r : Result (Unit {0}) Fault) → OnOk r (has_failed w' ≡ false)
      → OnErr r (has_failed w' ≡ true) → IfErr r (λ f. f ≡ Write) → Answers r
  said_written (Ok u) sound failed is = whole u (all_delivered delivers sound)
  said_written (Err f) sound failed is =
      rw is (part (part_written delivers.0 failed))
