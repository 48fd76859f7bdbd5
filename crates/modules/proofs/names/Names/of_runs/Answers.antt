use Rattle.modules.proofs.Words.{List, arith, common_steps, subst}
use Rattle.modules.proofs.Lemmas.{take_all, take_more}
use Rattle.modules.proofs.Definitions.{AreNamed, SharedRun}
use Rattle.modules.proofs.LineMarkLemmas.{named_more}
use Rattle.modules.specs.SharedRuns.{lines_of_shared}
use Rattle.modules.proofs.names.Names.of_runs.Goals as goal

pub loop-run-preserved : goal.loop-run-preserved
loop-run-preserved c = grind (arith, common_steps, take_more, named_more)

pub returns : goal.returns
returns c =
    subst (λ (rs : List SharedRun). AreNamed c.loop-run.names (lines_of_shared rs))
    (take_all c.loop-run.run-index c.args.runs.now c.loop-run-test.false) c.loop-run.invariant
