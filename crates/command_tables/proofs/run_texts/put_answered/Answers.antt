use Rattle.command_tables.proofs.Words.{◌+◌, ap, decimal, same_text, then}
use Rattle.listing.specs.Answers.{text_of}
use Rattle.command_tables.specs.RunTexts.{answered_text}
use Rattle.command_tables.proofs.run_texts.put_answered.Goals as goal

pub returns : goal.returns
unfolding answered_text
returns g c =
    let reader = same_text (ap (λ n. decimal (n + 1)) c.from.ensures) c.put_decimal.ensures in
    let found = then (then (then reader c.put.ensures) c.put_hexadecimal.ensures) c.put-2.ensures in
    then (then (then found (same_text (ap text_of c.answer_of-known.ensures) c.put_answer.ensures))
    c.put_count.ensures) c.put-3.ensures
