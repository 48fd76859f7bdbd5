use Rattle.command_listings.proofs.Words.{◌∙◌, [], List, ℕ, ap, arith, has_line, sym, take_all}
use Rattle.command_listings.proofs.Words.{unwrap_or, Kept, found_by}
use Rattle.command_listings.proofs.SoughtLemmas.{none_passes, one_passes}
use Rattle.command_listings.proofs.address_texts.has_any_line.Goals as goal

pub returns-then-has_line : goal.returns-then-has_line
returns-then-has_line c =
    let found : List ℕ → List Kept = λ name. unwrap_or (found_by c.args.sought.now name) [] in
    one_passes (has_line c.args.form found) c.args.words.now c.loop-word.word-index _
    c.loop-word-test.true c.has_line.result c.loop-word.invariant (c.has_line.ensures
    ∙ ap (has_line c.args.form found) c.as_bytes.ensures.value) c.if-has_line.true

pub loop-word-preserved : goal.loop-word-preserved
loop-word-preserved c =
    let found : List ℕ → List Kept = λ name. unwrap_or (found_by c.args.sought.now name) [] in
    none_passes (has_line c.args.form found) c.args.words.now c.loop-word.word-index _
    c.loop-word-test.true c.has_line.result c.loop-word.invariant (c.has_line.ensures
    ∙ ap (has_line c.args.form found) c.as_bytes.ensures.value) c.if-has_line.false

pub returns : goal.returns
returns c = sym (rw (take_all c.loop-word.word-index c.args.words.now
    (omega (arith, c.loop-word-test.false))) at c.loop-word.invariant)
