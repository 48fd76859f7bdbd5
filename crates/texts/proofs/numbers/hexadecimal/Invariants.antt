use Rattle.texts.proofs.Words.{◌≡◌, ◌<◌, ◌≤◌, ◌^◌, drop, length, list_all, is_digit, digits_value}
use Rattle.texts.proofs.Words.{digits_value_after}
use Rattle.texts.proofs.numbers.hexadecimal.Given as goal

-- the value so far, of so many digits, and the digits that are left
abbrev pub invariant-loop-byte : goal.invariant-loop-byte
invariant-loop-byte l = record {
  value : digits_value_after 16 l.value (drop l.byte-index l.text) ≡ digits_value 16 l.text;
  fits : l.value < 16 ^ l.byte-index;
  few : length l.text ≤ 16;
  tested : list_all (λ c. is_digit c 16) (drop l.byte-index l.text)
      ≡ list_all (λ c. is_digit c 16) l.text;
}
