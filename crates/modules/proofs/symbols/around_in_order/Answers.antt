use Rattle.modules.proofs.Words.{sym}
use Rattle.modules.proofs.OrderedLemmas.{none_below}
use Rattle.modules.proofs.symbols.around_in_order.Goals as goal

pub returns-then-split-eq0-clause-below : goal.returns-then-split-eq0-clause-below
returns-then-split-eq0-clause-below c = λ symbols is.
    sym (none_below symbols c.args.ordered.now is c.args.addr c.split_at-split.result
    c.split_at-split.ensures c.if-split-eq0.true)
