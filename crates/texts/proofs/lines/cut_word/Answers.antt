use Rattle.texts.proofs.Words.{◌∷◌, ap, ◌∙◌, ◌+◌, take, sym, take_rest, is_byte, words_of}
use Rattle.texts.proofs.LineCutLemmas.{split_here, split_nowhere}
use Rattle.texts.proofs.lines.cut_word.Goals as goal

pub returns-in-Some-clause-cut : goal.returns-in-Some-clause-cut
returns-in-Some-clause-cut c =
    let (first, found) = c.in-Some.ensures in
    split_here (is_byte 32) c.args.line.now c.in-Some.end first.high found first.before
    ∙ ap (λ rest. take c.in-Some.end c.args.line.now ∷ words_of rest)
    (sym (take_rest c.args.line.now (c.in-Some.end + 1)))

pub returns-in-None-clause-cut : goal.returns-in-None-clause-cut
returns-in-None-clause-cut c = split_nowhere (is_byte 32) c.args.line.now c.in-None.ensures
