use Rattle.texts.proofs.Words.{◌+◌, ◌∙◌, arith, drop, is_digit, list_all, common_steps, digit_room}
use Rattle.texts.proofs.Words.{more_bits, room_for_digit}
use Rattle.texts.proofs.numbers.eight_digits.Goals as goal

pub overflow_mul-value : goal.overflow_mul-value
overflow_mul-value c =
    let i = c.loop-byte.invariant in
    omega (
      arith,
      room_for_digit c.loop-byte.value c.loop-byte.byte-index i.fits
          (omega (arith, i.eight, c.loop-byte-test.true)),
    )

pub overflow_add-value : goal.overflow_add-value
overflow_add-value c =
    let i = c.loop-byte.invariant in
    omega (
      arith,
      c.digit_of-digit.ensures.small,
      room_for_digit c.loop-byte.value c.loop-byte.byte-index i.fits
          (omega (arith, i.eight, c.loop-byte-test.true)),
    )

pub loop-byte-preserved : goal.loop-byte-preserved
loop-byte-preserved c =
    let i = c.loop-byte.invariant in
    let rest = list_all (λ b. is_digit b 16) (drop (c.loop-byte.byte-index + 1) c.args.text.now) in
    record {
      value = grind (arith, common_steps, i.value, c.digit_of-digit.ensures.value);
      fits = digit_room c.loop-byte.value c.loop-byte.byte-index c.digit_of-digit.result i.fits
          c.digit_of-digit.ensures.small;
      eight = i.eight;
      tested = more_bits c.loop-byte.bits c.digit_of-digit.result rest
          ∙ grind (arith, common_steps, i.tested, c.digit_of-digit.ensures.value);
    }
