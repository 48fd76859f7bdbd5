use Rattle.modules.proofs.Words.{◌≡◌, ◌++◌, take}
use Rattle.modules.specs.Gathering.{kept_by}
use Rattle.modules.proofs.gathering.push_kept.Given as goal

abbrev pub invariant-loop-symbol : goal.invariant-loop-symbol
invariant-loop-symbol l =
    l.list.items ≡ l.fn.list.items ++ kept_by l.owner (take l.symbol-index l.symbols)
