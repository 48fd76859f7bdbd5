use Rattle.texts.proofs.Words.{◌≡◌, ◌+◌, ap, ◌∙◌, arith, refl, digit_value}
use Rattle.texts.specs.declared.numbers.TheConstants.{DIGITS}
use Rattle.texts.proofs.DigitLemmas.{digit_at}
use Rattle.texts.proofs.numbers.digit_of.Goals as goal

pub returns-clause-value : goal.returns-clause-value
returns-clause-value c =
    let place : 0 + c.from.result ≡ c.args.byte = omega arith in
    c.from-2.ensures ∙ digit_at DIGITS 0 c.from.result refl (omega arith) ∙ ap digit_value place
