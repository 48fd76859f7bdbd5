use Rattle.modules.proofs.Words.{append_assoc, arith, common_steps, nil_from_length}
use Rattle.modules.proofs.Lemmas.{append-nil}
use Rattle.modules.proofs.SharedRunLemmas.{parted_more}
use Rattle.modules.proofs.shared_listings.parted_runs.Goals as goal

pub loop-run-preserved : goal.loop-run-preserved
loop-run-preserved c = grind (arith, common_steps, append_assoc, parted_more)

pub returns : goal.returns
returns c = grind (arith, common_steps, nil_from_length, append-nil, parted_more)
