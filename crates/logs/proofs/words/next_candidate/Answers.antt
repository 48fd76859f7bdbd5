use Rattle.logs.proofs.Definitions.{◌∙◌, ap, arith, get_or, sym, taken_among}
use Rattle.logs.proofs.WordLemmas.{begun_behind, few_left, goes_on, is_word, leap, not_begun}
use Rattle.logs.proofs.WordLemmas.{some_fewest}
use Rattle.logs.proofs.words.next_candidate.Goals as goal

pub loop-start-preserved-in-Some : goal.loop-start-preserved-in-Some
loop-start-preserved-in-Some c =
    let line = c.args.line.now in
    let place = c.in-Some.place in
    let low = c.in-Some.ensures.from in
    let high = c.in-Some.ensures.below in
    record {
      low = c.loop-start.invariant.low;
      from = omega (arith, c.loop-start.invariant.from, low);
      within = omega (arith, c.loop-start.invariant.within, high, c.loop-start-test.true);
      left = λ context last.
          rw (begun_behind line c.loop-start.from place
          (omega (arith, c.loop-start.invariant.from, low)))
          (c.loop-start.invariant.left context last
          ∙ leap c.args.narrow context line last c.loop-start.start place _ low
          (omega (arith, c.loop-start.invariant.within, high, c.loop-start-test.true))
          (omega (arith, high, c.fewest-fewest.ensures)) c.in-Some.ensures.other);
    }

pub loop-start-preserved : goal.loop-start-preserved
loop-start-preserved c =
    let line = c.args.line.now in
    let start = c.loop-start.start in
    let end = c.behind_word-end.result in
    let some = some_fewest c.args.narrow in
    record {
      low = omega (
        arith,
        c.loop-start.invariant.low,
        c.loop-start.invariant.from,
        c.behind_word-end.ensures.from,
      );
      from = omega arith;
      within = c.behind_word-end.ensures.within;
      left = λ context last.
          rw (not_begun line end)
          ((rw (sym c.is_begun.ensures ∙ c.if-not-is_begun.false) at c.loop-start.invariant.left
          context last)
          ∙ ap (taken_among c.args.narrow context line last) (goes_on line start end _ (omega (
            arith,
            c.loop-start.invariant.within,
            c.loop-start-test.true,
            some,
            c.fewest-fewest.ensures,
          ))
          (is_word (get_or line start 0)
          (c.in-None.ensures.none (omega (arith, some, c.fewest-fewest.ensures))))
          c.behind_word-end.ensures.words));
    }

pub loop-start-init : goal.loop-start-init
loop-start-init c = record {
  low = omega arith;
  from = omega arith;
  within = omega arith;
  left = λ context last. rw (not_begun c.args.line.now c.args.at);
}

pub returns-clause-words : goal.returns-clause-words
returns-clause-words c = λ context last.
    c.loop-start.invariant.left context last ∙ few_left c.args.narrow context c.args.line.now last
    c.loop-start.start _ (omega (arith, c.loop-start-test.false, c.fewest-fewest.ensures))
