use Rattle.command_listings.proofs.Words.{[], List, ℕ, unwrap_or, Kept, found_by, arith, take_all}
use Rattle.command_listings.proofs.SoughtLemmas.{word_said}
use Rattle.command_listings.proofs.address_texts.put_words.Goals as goal

pub loop-word-preserved : goal.loop-word-preserved
loop-word-preserved g c =
    let found : List ℕ → List Kept = λ name. unwrap_or (found_by c.args.sought.now name) [] in
    word_said c.args.form found c.args.words.now c.loop-word.word-index _ c.loop-word-test.true
    c.loop-word.invariant
    (rw c.as_bytes.ensures.value at c.put_word.ensures)

pub returns : goal.returns
returns g c = rw (take_all c.loop-word.word-index c.args.words.now
    (omega (arith, c.loop-word-test.false))) at c.loop-word.invariant
