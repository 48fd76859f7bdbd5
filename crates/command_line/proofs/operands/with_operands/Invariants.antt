use Rattle.command_line.proofs.Words.{◌≡◌, map, take}
use Rattle.command_line.proofs.operands.with_operands.Given as goal

abbrev pub invariant-loop-word : goal.invariant-loop-word
invariant-loop-word g l =
    map (λ w. w.now) l.texts.items ≡ map g.S.AsStr.text (take l.word-index l.words)
