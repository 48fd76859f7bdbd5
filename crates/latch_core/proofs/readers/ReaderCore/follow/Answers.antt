use Rattle.latch_core.proofs.Words.{ltb-false, common_steps, arith}
use Rattle.std.proofs.Common.{eq-eqb}
use Rattle.latch_core.proofs.LoadingLemmas.{walk_visits}
use Rattle.latch_core.proofs.readers.ReaderCore.follow.Goals as goal

pub returns-else-link-self-clause-leads : goal.returns-else-link-self-clause-leads
returns-else-link-self-clause-leads g c =
    grind (arith, common_steps, eq-eqb, ltb-false, walk_visits)
