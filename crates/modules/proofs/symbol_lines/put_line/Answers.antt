use Rattle.modules.proofs.Words.{◌∙◌, sym, append_assoc, arith}
use Rattle.facts.proofs.Options.{option_copied-same}
use Rattle.modules.proofs.RunLemmas.{lines_of-more, lines_of_all-last}
use Rattle.modules.proofs.symbol_lines.put_line.Goals as goal

pub returns-then-eq-clause-pushed : goal.returns-then-eq-clause-pushed
returns-then-eq-clause-pushed c =
    let runs = c.args.runs.now.items in
    let last = c.args.last.now in
    let more = lines_of-more last.module c.args.owner last.symbols.items c.push.new.self.items
    c.args.symbol
    (option_copied-same last.module c.args.owner (sym c.eq.ensures ∙ c.if-eq.true))
    c.in_ok-push.ensures.items in
    grind (arith, lines_of-more, option_copied-same, lines_of_all-last, append_assoc)
