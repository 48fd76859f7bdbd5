use Rattle.texts.proofs.Words.{rules, ◌<◌, ◌-◌, drop_of_length-le, false, ap, ◌∙◌, arith}
use Rattle.texts.proofs.Words.{digits_onto}
use Rattle.texts.proofs.HexadecimalLemmas.{all_of, smaller_next, told_more, told_last, small_at_one}
use Rattle.texts.proofs.exact.write_digits.Goals as goal

pub loop-start-init : goal.loop-start-init
loop-start-init c = record {
  told = ap (digits_onto 64 16 false c.args.n)
      (drop_of_length-le c.args.buffer.now {i = 18} (search rules)) ∙ all_of c.args.n;
  small = search rules;
  low = omega arith;
  high = omega arith;
}

pub loop-start-preserved : goal.loop-start-preserved
loop-start-preserved c =
    let start = c.loop-start.start in
    record {
      told = told_more start c.loop-start.left c.digit.result c.args.n c.loop-start.buffer
          (omega arith) (search rules) c.digit.ensures c.if-left-ge16.true
          c.loop-start.invariant.told;
      small = smaller_next start c.loop-start.left (omega arith) c.loop-start.invariant.small;
      low = omega arith;
      high = omega arith;
    }

pub returns-clause-written : goal.returns-clause-written
returns-clause-written c =
    let start = c.loop-start.start in
    let small : c.loop-start.left < 16 = elim c.loop-start-test.branch [
      | goal.then-loop-start-test+else-left-ge16 w ↦ w.if-left-ge16.false
      | goal.else-loop-start-test w ↦ small_at_one (start - 2) c.loop-start.left
          (omega (arith, w.loop-start-test.false)) c.loop-start.invariant.small
    ] in
    told_last start c.loop-start.left c.digit-2.result c.args.n c.loop-start.buffer
    (omega (arith, c.loop-start.invariant.low)) (search rules) c.digit-2.ensures small
    c.loop-start.invariant.told
