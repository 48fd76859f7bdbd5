use Rattle.histories.proofs.Words.{◌≡◌, ◌++◌, length, lines, is_among, kept_lines}
use Rattle.histories.proofs.changes.put_kept.Given as goal

abbrev pub invariant-loop-rest : goal.invariant-loop-rest
invariant-loop-rest l =
    let named = is_among l.names in
    l.out.items ++ kept_lines named (lines l.rest)
    ≡ l.fn.out.items ++ kept_lines named (lines l.listing)

abbrev pub decreases-loop-rest : goal.decreases-loop-rest
decreases-loop-rest l = length l.rest
