use Rattle.texts.proofs.Words.{ap, arith, length, length-append, map, words_of, length-map}
use Rattle.texts.proofs.LineCutLemmas.{some_word}
use Rattle.texts.proofs.lines.words_in.Goals as goal

pub returns-clause-none : goal.returns-clause-none
returns-clause-none g c =
    let shown = map (λ w. w.now) c.loop.words.items in
    omega (
      arith,
      ap length c.loop.invariant.cut,
      length-append shown (words_of c.loop.rest.now),
      length-map c.loop.words.items (λ w. w.now),
      c.loop.invariant.all,
      c.loop-test.false,
      some_word c.loop.rest.now,
    )
