use Rattle.texts.proofs.Words.{◌≡◌, ◌+◌, ◌*◌, ◌≤◌, ◌^◌, ◌&&◌, nat_lt, drop, length, list_all}
use Rattle.texts.proofs.Words.{is_digit, digits_value, digits_value_after}
use Rattle.texts.proofs.numbers.eight_digits.Given as goal

-- the value so far, the digits that are left, and whether all are digits
abbrev pub invariant-loop-byte : goal.invariant-loop-byte
invariant-loop-byte l = record {
  value : digits_value_after 16 l.value (drop l.byte-index l.text) ≡ digits_value 16 l.text;
  fits : l.value + 17 ≤ 17 * 16 ^ l.byte-index;
  eight : length l.text ≡ 8;
  tested : (nat_lt l.bits 16 && list_all (λ c. is_digit c 16) (drop l.byte-index l.text))
      ≡ list_all (λ c. is_digit c 16) l.text;
}
