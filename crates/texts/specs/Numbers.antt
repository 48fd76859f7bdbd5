-- The numbers that words are.
use Rattle.std.specs.Prelude.{ℕ, ◌^◌, List, length, drop, codes, Option, Some, None, nat_eq, nat_lt}
use Rattle.std.specs.Prelude.{nat_le, ◌&&◌, if◌then◌else◌}
use Rattle.std.specs.List.{starts_with, list_all}
use Rattle.std.specs.Char.{is_digit}
use Rattle.std.specs.Str.Parse.{digits_value}

-- 1 to `most` digits, of a value below 2 ^ 64
abbrev pub numeral : ℕ → ℕ → List ℕ → Option ℕ
numeral radix most digits =
    if nat_lt 0 (length digits) && nat_le (length digits) most
    && list_all (λ c. is_digit c radix) digits
    && nat_lt (digits_value radix digits) (2 ^ 64)
    then Some (digits_value radix digits)
    else None

-- 1 to 20 decimal digits, or `0x` and 1 to 16 hexadecimal digits of either case
abbrev pub number_of : List ℕ → Option ℕ
number_of word =
    if starts_with nat_eq word (codes "0x") then numeral 16 16 (drop 2 word)
    else numeral 10 20 word

-- the number, if it lies between two others
abbrev pub between : ℕ → ℕ → Option ℕ → Option ℕ
between low high (Some n) = if nat_le low n && nat_le n high then Some n else None
between low high None = None

-- a number that fits 32 bits
abbrev pub short_number_of : List ℕ → Option ℕ
short_number_of word = between 0 4294967295 (number_of word)

-- a number from 1 on that fits 32 bits
abbrev pub count_of : List ℕ → Option ℕ
count_of word = between 1 4294967295 (number_of word)
