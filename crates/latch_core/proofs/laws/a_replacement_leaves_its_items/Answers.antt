use Rattle.latch_core.proofs.ReplacementLemmas.{replaced_table}
use Rattle.latch_core.proofs.laws.a_replacement_leaves_its_items.Goals as goal

pub returns-clause-table : goal.returns-clause-table
returns-clause-table g c = λ n limit seq table items.
    replaced_table g.O.TreeOrder.order g.met.O.TreeOrder.lawful n limit table items seq
