use Rattle.modules.proofs.Words.{arith, common_steps}
use Rattle.modules.proofs.Lemmas.{take_all, take_more}
use Rattle.modules.proofs.SharedRunLemmas.{one_dropped, one_kept}
use Rattle.modules.proofs.shared_listings.push_unnamed.Goals as goal

pub loop-run-preserved : goal.loop-run-preserved
loop-run-preserved c = grind (arith, common_steps, take_more, one_kept, one_dropped)

pub returns : goal.returns
returns c = grind (arith, common_steps, take_all)
