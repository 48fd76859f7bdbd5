use Rattle.listing.proofs.Words.{◌≡◌, ◌∙◌, ◌+◌, ◌-◌, ap, arith, sym, take, without_blank_end}
use Rattle.listing.proofs.BlankEndLemmas.{blank_more, mark_more}
use Rattle.listing.proofs.addresses.without_blank_end.Goals as goal
use Rattle.listing.proofs.addresses.without_blank_end.Goals.{then-loop-end-test+else-is_blank_end}
use Rattle.listing.proofs.addresses.without_blank_end.Goals.{else-loop-end-test}

pub loop-end-preserved : goal.loop-end-preserved
loop-end-preserved c =
    let (within, same) = c.loop-end.invariant in
    let next : c.loop-end.end - 1 + 1 ≡ c.loop-end.end = omega (arith, c.loop-end-test.true) in (
      omega (arith, within),
      sym (blank_more c.args.text.now (c.loop-end.end - 1)
          (omega (arith, within, c.loop-end-test.true))
          (sym c.is_blank_end.ensures ∙ c.if-is_blank_end.true))
          ∙ ap (λ n. without_blank_end (take n c.args.text.now)) next ∙ same,
    )

pub returns : goal.returns
returns c =
    let (within, same) = c.loop-end.invariant in
    elim c.loop-end-test.branch [
      | then-loop-end-test+else-is_blank_end w ↦
          let next : c.loop-end.end - 1 + 1 ≡ c.loop-end.end =
          omega (arith, w.loop-end-test.true) in
          sym (ap (λ n. take n c.args.text.now) next)
          ∙ sym (mark_more c.args.text.now (c.loop-end.end - 1)
          (omega (arith, within, w.loop-end-test.true))
          (sym w.is_blank_end.ensures ∙ w.if-is_blank_end.false))
          ∙ ap (λ n. without_blank_end (take n c.args.text.now)) next ∙ same
      | else-loop-end-test w ↦
          let none : c.loop-end.end ≡ 0 = omega (arith, w.loop-end-test.false) in
          ap (λ n. take n c.args.text.now) none
          ∙ sym (ap (λ n. without_blank_end (take n c.args.text.now)) none) ∙ same
    ]
