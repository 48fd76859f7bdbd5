use Rattle.shared_lookup.proofs.Words.{◌≡◌, ◌∙◌, ◌+◌, get_or, min, sym, subst, arith, count_by}
use Rattle.shared_lookup.proofs.Words.{range_with_len, range-push, CountsUpTo, IsWrongEntry}
use Rattle.shared_lookup.proofs.Words.{entries, has_generation}
use Rattle.shared_lookup.proofs.CountLemmas.{up_to_yes, up_to_no}
use Rattle.shared_lookup.proofs.outcomes.wrong_behind.Goals.{then-time-ne1, else-time-ne1}
use Rattle.shared_lookup.proofs.outcomes.wrong_behind.Goals as goal

pub loop-time-preserved : goal.loop-time-preserved
loop-time-preserved c =
    let all = entries c.args.outcomes.now in
    let P = IsWrongEntry all in
    let from = c.args.from in
    let i = c.loop-time.time-index in
    let time : get_or c.tally_all.new.times i 0
    ≡ min 255 (count_by (has_generation (from + i + 1)) all) =
    c.tally_all.ensures.tallied i c.loop-time-test.true in
    let r = c.if-time-ne1.wrong in
    subst (λ (zs : _). CountsUpTo P zs r) (sym (range-push from i))
    (elim c.if-time-ne1.branch [
      | then-time-ne1 w ↦ up_to_yes P (range_with_len from i) (from + i) c.loop-time.wrong r
          c.loop-time.invariant (λ e. w.if-time-ne1.true (omega (arith, time, e)))
          (w.wrong-is ∙ w.saturating_add-wrong.ensures)
      | else-time-ne1 w ↦ up_to_no P (range_with_len from i) (from + i) c.loop-time.wrong r
          c.loop-time.invariant (λ h. h (let one = w.if-time-ne1.false in omega (arith, time, one)))
          w.wrong-is
    ])
