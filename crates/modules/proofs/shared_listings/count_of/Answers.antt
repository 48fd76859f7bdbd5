use Rattle.modules.proofs.Words.{arith, common_steps}
use Rattle.modules.proofs.Lemmas.{take_all, take_more}
use Rattle.modules.proofs.SharedRunLemmas.{one_counted}
use Rattle.modules.proofs.shared_listings.count_of.Goals as goal

pub loop-run-preserved : goal.loop-run-preserved
loop-run-preserved c = grind (arith, common_steps, take_more, one_counted)

pub returns : goal.returns
returns c = grind (arith, common_steps, take_all)
