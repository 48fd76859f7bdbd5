use Rattle.logs.proofs.Definitions.{◌∙◌, ap, is_word_byte, run_of, take_rest}
use Rattle.logs.proofs.WordLemmas.{word_passed}
use Rattle.logs.proofs.words.behind_word.Goals as goal

pub returns-clause-words : goal.returns-clause-words
returns-clause-words c = word_passed c.args.line.now c.args.start c.first_of.result
    (c.first_of.ensures.is ∙ ap (run_of is_word_byte) (take_rest c.args.line.now c.args.start))
    c.requires.within c.requires.word
