use Rattle.command_line.proofs.Words.{take_all}
use Rattle.command_line.proofs.ParseLemmas.{one_more}
use Rattle.command_line.proofs.parser.subcommand.Goals as goal

pub loop-row-preserved : goal.loop-row-preserved
loop-row-preserved c = record {
  is = one_more c.args.name.now c.arguments_of-row-items.result.now c.loop-row.row-index _
      c.loop-row-test.true c.loop-row.invariant.is c.argument_of.ensures c.in_ok-command.ensures;
}

pub returns : goal.returns
returns c =
    let all =
    rw (take_all c.loop-row.row-index c.arguments_of-row-items.result.now c.loop-row-test.false)
    at c.loop-row.invariant.is in
    rw c.arguments_of-row-items.ensures at all
