use Rattle.shared_lookup.proofs.Words.{◌≡◌, ◌∙◌, length, take, drop, sym, subst, arith}
use Rattle.shared_lookup.proofs.Words.{length-append, length-drop, range_with_len, length-take-le}
use Rattle.shared_lookup.proofs.Words.{range-append_from_zero, CountsUpTo, IsWrongEntry, entries}
use Rattle.shared_lookup.proofs.CountLemmas.{up_to_append}
use Rattle.shared_lookup.proofs.outcomes.wrong_entries.Goals as goal

pub loop-from-preserved : goal.loop-from-preserved
loop-from-preserved c =
    let P = IsWrongEntry (entries c.args.outcomes.now) in
    let from = c.loop-from.from in
    let times = c.loop-from.times in
    let n = c.min-length.result in
    let least = c.min-length.ensures in
    let before = c.loop-from.invariant in
    let here = c.wrong_behind-here.ensures in
    let taken : length (take n times) ≡ n = length-take-le n times (omega (arith, least)) in
    let left = length-drop n times in
    let all = length-append c.wrong_behind-here.new.times (drop n times) in
    record {
      within = omega (arith, least, c.loop-from-test.true);
      length = all ∙ omega (arith, here.length, taken, left, before.length, least);
      counted =
          subst (λ xs. CountsUpTo P xs c.saturating_add-wrong.result)
          (sym (range-append_from_zero from n))
          (up_to_append P (range_with_len 0 from) (range_with_len from n) c.loop-from.wrong
          c.wrong_behind-here.result c.saturating_add-wrong.result before.counted
          (subst (λ k. CountsUpTo P (range_with_len from k) c.wrong_behind-here.result) taken
          here.counted) c.saturating_add-wrong.ensures);
    }
