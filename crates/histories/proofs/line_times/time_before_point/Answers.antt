use Rattle.histories.proofs.Words.{◌≡◌, ◌-◌, ◌≤◌, false, arith, sym, get_or, digit_value}
use Rattle.histories.proofs.Words.{is_decimal}
use Rattle.histories.proofs.PointLemmas.{skip}
use Rattle.std.proofs.lemmas.Bool.{le-ltb}
use Rattle.histories.proofs.line_times.time_before_point.Goals as goal

pub returns-then-point-eq0 : goal.returns-then-point-eq0
returns-then-point-eq0 c =
    let (first, here) = c.requires in
    let zero = c.if-point-eq0.true in
    sym (skip c.args.before c.args.bytes.now c.args.point first.high here first.before
    (λ some. absurd (omega (arith, zero, some))))

pub returns-then-digit_of-ge10 : goal.returns-then-digit_of-ge10
returns-then-digit_of-ge10 c =
    let (first, here) = c.requires in
    let value : 10 ≤ digit_value (get_or c.args.bytes.now (c.args.point - 1) 0) =
    omega (arith, c.digit_of.ensures.value, c.if-digit_of-ge10.true) in
    let other : is_decimal (get_or c.args.bytes.now (c.args.point - 1) 0) ≡ false =
    le-ltb (digit_value (get_or c.args.bytes.now (c.args.point - 1) 0)) 10 value in
    sym (skip c.args.before c.args.bytes.now c.args.point first.high here first.before
    (λ some. other))
