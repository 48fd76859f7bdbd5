use Rattle.texts.proofs.Words.{◌∷◌, ap, ◌∙◌, ◌+◌, take, sym, take_rest, lines_of}
use Rattle.texts.proofs.LineCutLemmas.{line_here, line_nowhere}
use Rattle.texts.proofs.lines.cut_line.Goals as goal

pub returns-in-Some-clause-line : goal.returns-in-Some-clause-line
returns-in-Some-clause-line c =
    let (first, found) = c.in-Some.ensures in
    line_here c.args.bytes.now c.in-Some.end first.high found first.before
    ∙ ap (λ rest. take c.in-Some.end c.args.bytes.now ∷ lines_of rest)
    (sym (take_rest c.args.bytes.now (c.in-Some.end + 1)))

pub returns-in-None-clause-line : goal.returns-in-None-clause-line
returns-in-None-clause-line c = line_nowhere c.args.bytes.now c.requires c.in-None.ensures
