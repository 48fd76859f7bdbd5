use Rattle.modules.proofs.Words.{arith, common_steps}
use Rattle.facts.proofs.Tests.{is_some-position_from}
use Rattle.modules.proofs.names.Names.has.Goals as goal

pub returns : goal.returns
returns c = grind (arith, common_steps, is_some-position_from, c.self.invariant c.args.name.now)
