use Rattle.latchsym_ffi.proofs.Words.{◌∙◌, sym, Done, has_number}
use Rattle.latchsym_ffi.proofs.FindLemmas.{found_at, none_more}
use Rattle.latchsym_ffi.proofs.answers.first_with.Goals as goal

pub returns-then-has_number : goal.returns-then-has_number
returns-then-has_number c =
    sym (found_at (has_number c.args.number) c.args.answers.now c.loop-answer.answer-index Done
    c.loop-answer-test.true c.loop-answer.invariant
    (sym c.has_number.ensures ∙ c.if-has_number.true))

pub loop-answer-preserved : goal.loop-answer-preserved
loop-answer-preserved c =
    none_more (has_number c.args.number) c.args.answers.now c.loop-answer.answer-index Done
    c.loop-answer-test.true c.loop-answer.invariant
    (sym c.has_number.ensures ∙ c.if-has_number.false)
