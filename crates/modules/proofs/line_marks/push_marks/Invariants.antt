use Rattle.modules.proofs.Words.{◌≡◌, ◌++◌, take, symbol_marks}
use Rattle.modules.proofs.line_marks.push_marks.Given as goal

abbrev pub invariant-loop-symbol : goal.invariant-loop-symbol
invariant-loop-symbol l = l.marks.items
    ≡ l.fn.marks.items ++ symbol_marks l.kernel l.owner (take l.symbol-index l.symbols)
