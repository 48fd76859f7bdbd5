use Rattle.shared_lookup.proofs.Words.{◌∙◌, sym, ap, arith, take, Bor, count_by_more_no}
use Rattle.shared_lookup.proofs.Words.{count_by_more_yes, is_wrong_answer, no_reference, with_log}
use Rattle.shared_lookup.proofs.Words.{LedgerState, Answer}
use Rattle.shared_lookup.proofs.replays.wrong_in_order.Goals.{then-here, else-here}
use Rattle.shared_lookup.proofs.replays.wrong_in_order.Goals as goal

pub loop-answer-preserved : goal.loop-answer-preserved
loop-answer-preserved c =
    let log = c.args.log.now in
    let answers = c.args.answers.now in
    let i = c.loop-answer.answer-index in
    let e = c.in_ok-here.ensures in
    let f = λ (a : Bor Answer). is_wrong_answer log a.now in
    let more = c.loop-answer.invariant.count in
    record {
      within = e.done.0;
      rests = e.done.2.0;
      table = e.done.2.1 ∙ ap (λ (t : LedgerState). with_log (take c.in_ok-here.now log) t)
          c.loop-answer.invariant.table;
      further = λ k l h. let rises = c.requires.ordered i k no_reference (omega (arith, l)) h in
          omega (arith, rises, e.done.1);
      count =
          elim c.if-here.branch [
            | then-here w ↦ let n = count_by_more_yes f answers i no_reference
                c.loop-answer-test.true (sym e.wrong ∙ w.if-here.true) in
                omega (arith, n, w.wrong-is, more)
            | else-here w ↦ let n = count_by_more_no f answers i no_reference
                c.loop-answer-test.true (sym e.wrong ∙ w.if-here.false) in
                omega (arith, n, w.wrong-is, more)
          ];
    }
