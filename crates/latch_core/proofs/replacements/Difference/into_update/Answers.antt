use Rattle.latch_core.proofs.Words.{length-drop, arith, drop_all, take_all, common_steps}
use Rattle.std.proofs.lemmas.List.{append-nil}
use Rattle.latch_core.proofs.ReplacementLemmas.{all_found}
use Rattle.latch_core.proofs.replacements.Difference.into_update.Goals as goal

pub returns : goal.returns
returns c = grind (arith, common_steps, take_all, length-drop, append-nil, drop_all, all_found)
