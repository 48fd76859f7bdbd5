use Rattle.texts.proofs.Words.{◌≡◌, ◌<◌, ◌^◌, drop, list_all, is_digit, digits_value}
use Rattle.texts.proofs.Words.{digits_value_after}
use Rattle.texts.proofs.numbers.decimal.Given as goal

-- the value so far, and the digits that are left
abbrev pub invariant-loop-byte : goal.invariant-loop-byte
invariant-loop-byte l = record {
  value : digits_value_after 10 l.value (drop l.byte-index l.text) ≡ digits_value 10 l.text;
  fits : l.value < 2 ^ 64;
  tested : list_all (λ c. is_digit c 10) (drop l.byte-index l.text)
      ≡ list_all (λ c. is_digit c 10) l.text;
}
