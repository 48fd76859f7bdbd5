use Rattle.texts.proofs.Words.{Some, ap, sym, ◌∙◌, arith, rules, is_digit, common_steps, digit_fits}
use Rattle.texts.proofs.Words.{digits_value_after-end, list_all-end, next_digit}
use Rattle.texts.proofs.NumberLemmas.{is_value}
use Rattle.texts.proofs.numbers.hexadecimal.Goals as goal

pub overflow_mul-value : goal.overflow_mul-value
overflow_mul-value c =
    let i = c.loop-byte.invariant in
    omega (
      arith,
      digit_fits c.loop-byte.value c.loop-byte.byte-index _ 0 i.fits (omega arith)
          c.loop-byte-test.true i.few,
    )

pub overflow_add-value : goal.overflow_add-value
overflow_add-value c =
    let i = c.loop-byte.invariant in
    omega (
      arith,
      digit_fits c.loop-byte.value c.loop-byte.byte-index _ c.digit_of-digit.result i.fits
          (omega arith) c.loop-byte-test.true i.few,
    )

pub loop-byte-preserved : goal.loop-byte-preserved
loop-byte-preserved c =
    record {
      value = grind (arith, common_steps, c.loop-byte.invariant.value, c.digit_of-digit.ensures);
      fits = next_digit c.loop-byte.value c.loop-byte.byte-index c.digit_of-digit.result
          c.loop-byte.invariant.fits c.if-digit-ge16.false;
      few = c.loop-byte.invariant.few;
      tested = grind (arith, common_steps, c.loop-byte.invariant.tested, c.digit_of-digit.ensures);
    }

pub returns : goal.returns
returns c =
    let i = c.loop-byte.invariant in
    let e = digits_value_after-end 16 c.loop-byte.value c.loop-byte.byte-index c.args.text.now
    c.loop-byte-test.false i.value in
    let all = list_all-end (λ b. is_digit b 16) c.loop-byte.byte-index c.args.text.now
    c.loop-byte-test.false i.tested in
    ap Some e ∙ sym (is_value 16 16 c.args.text.now (search rules) (omega (arith, i.few)) all
    (omega (arith, e)))
