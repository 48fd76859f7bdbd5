use Rattle.latch_core.proofs.Words.{list_any-IsPermutation, common_steps, arith}
use Rattle.latch_core.proofs.ClashLemmas.{overlap_moved}
use Rattle.latch_core.proofs.clashes.some_overlap.Goals as goal

pub has_overlapping_neighbours-requires-clause-valid : goal.has_overlapping_neighbours-requires-clause-valid
has_overlapping_neighbours-requires-clause-valid g c =
    grind (arith, common_steps, list_any-IsPermutation)

pub returns-in-Ok : goal.returns-in-Ok
returns-in-Ok g c = grind (arith, common_steps, overlap_moved)
