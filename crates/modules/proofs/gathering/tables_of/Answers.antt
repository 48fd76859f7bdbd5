use Rattle.modules.proofs.Words.{append_assoc, arith, common_steps, nil_from_length}
use Rattle.modules.proofs.Lemmas.{append-nil, map-append}
use Rattle.modules.proofs.gathering.tables_of.Goals as goal

pub loop-list-preserved : goal.loop-list-preserved
loop-list-preserved c = grind (arith, common_steps, append_assoc, map-append)

pub returns : goal.returns
returns c = grind (arith, common_steps, nil_from_length, append-nil)
