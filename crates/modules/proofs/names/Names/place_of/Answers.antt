use Rattle.modules.proofs.Words.{arith, common_steps}
use Rattle.modules.proofs.Lemmas.{length-map}
use Rattle.modules.proofs.LineMarkLemmas.{found_within}
use Rattle.modules.proofs.names.Names.place_of.Goals as goal

pub returns-clause-within : goal.returns-clause-within
returns-clause-within c =
    grind (arith, common_steps, length-map, found_within, c.self.invariant c.args.name.now)
