use Rattle.command_listings.proofs.Words.{take, Says, told_lines}
use Rattle.command_listings.proofs.address_texts.put_all_told.Given as goal

-- the lines of the symbols so far were written
abbrev pub invariant-loop-symbol : goal.invariant-loop-symbol
invariant-loop-symbol g l = Says g.W.Write.contents l.fn.writer l.writer
    (told_lines l.it.form l.it.word.now l.it.asked (take l.symbol-index l.symbols))
