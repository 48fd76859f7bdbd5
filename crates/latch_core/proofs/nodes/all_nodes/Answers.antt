use Rattle.latch_core.proofs.Words.{◌++◌, [], sym, subst, AreAllNodes}
use Rattle.std.proofs.Common.{append-nil}
use Rattle.latch_core.proofs.ChangeLemmas.{no_nodes}
use Rattle.latch_core.proofs.nodes.all_nodes.Goals as goal

pub returns-clause-all : goal.returns-clause-all
returns-clause-all c =
    let none = subst (λ xs. AreAllNodes 0 (xs ++ [])) (sym c.new-nodes.ensures.items) no_nodes in
    subst (AreAllNodes c.args.capacity) (append-nil c.add_nodes.new.free.items)
    (c.in_ok-add_nodes.ensures.all [] none)
