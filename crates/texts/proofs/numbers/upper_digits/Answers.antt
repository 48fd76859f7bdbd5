use Rattle.texts.proofs.Words.{sym, ◌∙◌}
use Rattle.texts.proofs.UpperDigitLemmas.{digits_of_f, value_of_f}
use Rattle.texts.proofs.numbers.upper_digits.Goals as goal

pub returns-then-starts_with-clause-value : goal.returns-then-starts_with-clause-value
returns-then-starts_with-clause-value c =
    value_of_f c.args.text.now (sym c.starts_with.ensures.value ∙ c.if-starts_with.true) c.requires

pub returns-then-starts_with-clause-digits : goal.returns-then-starts_with-clause-digits
returns-then-starts_with-clause-digits c =
    digits_of_f c.args.text.now (sym c.starts_with.ensures.value ∙ c.if-starts_with.true) c.requires
