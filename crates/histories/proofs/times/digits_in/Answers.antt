use Rattle.histories.proofs.Words.{◌<◌, arith, digit_value, get_or}
use Rattle.histories.proofs.TimeLemmas.{one_more, one_fits, run_more}
use Rattle.histories.proofs.times.digits_in.Goals as goal

pub loop-i-preserved : goal.loop-i-preserved
loop-i-preserved c =
    let i = c.loop-i.i in
    let bytes = c.args.bytes.now in
    let inv = c.loop-i.invariant in
    let digit : c.digit_of-digit.result < 10 = omega (arith, c.if-digit-ge10.false) in
    let small : digit_value (get_or bytes i 0) < 10 =
    omega (arith, digit, c.digit_of-digit.ensures.value) in
    record {
      within = omega (arith, c.loop-i-test.true);
      few = inv.few;
      value = one_more bytes i _ _ c.loop-i-test.true inv.value c.digit_of-digit.ensures.value;
      fits = one_fits i _ _ inv.fits digit;
      run = omega (arith, inv.run, run_more bytes i c.loop-i-test.true small);
    }
