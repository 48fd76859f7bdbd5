use Rattle.shared_lookup.proofs.Words.{length, take, sym, subst, arith, ◌∙◌, zip, take_all}
use Rattle.shared_lookup.proofs.Words.{take-zip_more, CountsUpTo, IsWrongChange}
use Rattle.std.proofs.Common.{◌≤◌}
use Rattle.std.proofs.lemmas.Slice.Zip.{length-zip}
use Rattle.shared_lookup.proofs.CountLemmas.{up_to_yes, up_to_no}
use Rattle.shared_lookup.proofs.outcomes.wrong_in_list.Goals.{then-is_wrong, else-is_wrong}
use Rattle.shared_lookup.proofs.outcomes.wrong_in_list.Goals as goal

pub loop-place-preserved : goal.loop-place-preserved
loop-place-preserved c =
    let P = IsWrongChange c.args.c.now c.args.log.now in
    let xs = c.args.changes.now in
    let ys = c.args.outcomes.now in
    let i = c.loop-place.place in
    let less = c.loop-place-test.true in
    let step = take-zip_more xs ys i _ _ less (omega (arith, less, c.requires)) in
    subst (λ zs. CountsUpTo P zs c.if-is_wrong.wrong) (sym step)
    (elim c.if-is_wrong.branch [
      | then-is_wrong w ↦ up_to_yes P (take i (zip xs ys)) _ c.loop-place.wrong c.if-is_wrong.wrong
          c.loop-place.invariant (c.is_wrong.ensures.0 w.if-is_wrong.true)
          (w.wrong-is ∙ w.saturating_add-wrong.ensures)
      | else-is_wrong w ↦ up_to_no P (take i (zip xs ys)) _ c.loop-place.wrong c.if-is_wrong.wrong
          c.loop-place.invariant (λ h.
          absurd (let e = c.is_wrong.ensures.1 h in cc (w.if-is_wrong.false))) w.wrong-is
    ])

pub returns : goal.returns
returns c =
    let P = IsWrongChange c.args.c.now c.args.log.now in
    let xs = c.args.changes.now in
    let ys = c.args.outcomes.now in
    let i = c.loop-place.place in
    let all : length (zip xs ys) ≤ i =
    (let n = length-zip xs ys in omega (arith, n, c.requires, c.loop-place-test.false)) in
    subst (λ zs. CountsUpTo P zs c.loop-place.wrong) (take_all i (zip xs ys) all)
    c.loop-place.invariant
