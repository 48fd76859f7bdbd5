use Rattle.logs.proofs.Definitions.{◌≡◌, ◌∙◌, ◌++◌, ◌∷◌, ap, sym, refl, Some, owed, annotated_from}
use Rattle.logs.proofs.Definitions.{words_behind, taken_among, take_rest}
use Rattle.std.proofs.Common.{drop, option_map}
use Rattle.logs.specs.OwnNames.{as_read, insertion, text_for}
use Rattle.logs.specs.Words.{part}
use Rattle.logs.proofs.InsertionLemmas.{owed_with, put_before}
use Rattle.logs.proofs.line.put_word.Goals as goal

pub returns-in_ok-put_insertion-in-Some-insertion-clause-text : goal.returns-in_ok-put_insertion-in-Some-insertion-clause-text
returns-in_ok-put_insertion-in-Some-insertion-clause-text g c =
    let answer = g.A.Answers.answering c.args.answers.now in
    let line = c.args.line.now in
    let p = c.args.progress.now in
    let t = c.taken_at-taken.result in
    let place = c.behind_closers-place.result in
    let text = c.in-Some-insertion.text.items in
    let more =
    taken_among answer.is_narrow c.args.context line (Some t) (words_behind line place) in
    let rest = drop place line in
    let is : insertion answer t.value rest (text_for answer (as_read answer rest t)) ≡ Some text =
    sym (rw (take_rest line place) at c.in_ok-reading.ensures.inserted)
    ∙ sym c.insertion.ensures ∙ ap (option_map (λ v. v.items)) c.in-Some-insertion.is in
    let has = sym c.address_at.ensures ∙ c.in-Some.is in
    let old : owed answer c.args.context line p (c.args.word ∷ words_behind line c.args.word.end)
    ≡ part line p.put place ++ text ++ annotated_from answer line place more =
    rw (c.taken_at-taken.ensures, c.is_narrow-narrow.ensures) (owed_with answer c.args.context line
    p c.args.word c.in-Some.value place text c.behind_closers-place.ensures.is
    c.behind_closers-place.ensures.gap (rw c.is_narrow-narrow.ensures at has)
    (rw (c.taken_at-taken.ensures, c.is_narrow-narrow.ensures) at is)) in
    let new : owed answer c.args.context line c.put_insertion.new.progress (words_behind line
    c.put_insertion.new.progress.at) ≡ annotated_from answer line place more =
    rw c.in_ok-put_insertion-in-Some-insertion.ensures.put refl in
    ap (λ l. c.put_insertion.new.out.items ++ l) new
    ∙ put_before c.args.out.now.items c.put_insertion.new.out.items (part line p.put place) text
    (annotated_from answer line place more)
    (c.in_ok-put_insertion-in-Some-insertion.ensures.text
    ∙ ap (λ l. c.args.out.now.items ++ part line p.put place ++ l) c.deref.ensures.value)
    ∙ ap (λ l. c.args.out.now.items ++ l) (sym old)
