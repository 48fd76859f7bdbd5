use Rattle.command_tables.proofs.Words.{arith, rules, subst, sym, common_steps, items_of}
use Rattle.command_tables.proofs.Words.{IsRefusedFor}
use Rattle.command_tables.proofs.table.answers_of.Goals as goal

pub returns-in_err-answer-clause-refusal : goal.returns-in_err-answer-clause-refusal
returns-in_err-answer-clause-refusal c =
    let e =
    c.in_err-answer.ensures.refusal (items_of c.args.catalog.now) c.loop-addr.invariant.holds in
    let f = subst (IsRefusedFor c.args.catalog.now) (sym e) tt in
    search (rules, f)

pub loop-addr-preserved : goal.loop-addr-preserved
loop-addr-preserved c =
    let same =
    c.in_ok-answer.ensures.found (items_of c.args.catalog.now) c.loop-addr.invariant.holds in
    record {
      holds =
          c.in_ok-answer.ensures.holds (items_of c.args.catalog.now) c.loop-addr.invariant.holds;
      answers = grind
          (arith, common_steps, same, c.in_ok-push.ensures.items, c.loop-addr.invariant.answers);
    }
