-- A TIME: seconds, a `.`, and its decimals.
use Rattle.std.specs.Prelude.{ℕ, ◌+◌, ◌-◌, ◌*◌, ◌^◌, ◌==◌, Bool, false, if◌then◌else◌}
use Rattle.std.specs.Prelude.{nat_eq, List, [], ◌∷◌, length, take, drop, codes, Option, Some, None}
use Rattle.std.specs.Char.{is_digit}
use Rattle.std.specs.List.{prefix_len, starts_with}
use Rattle.std.specs.Option.{option_and_then, option_map}
use Rattle.std.specs.Str.Parse.{digits_value}
use Rattle.histories.specs.declared.times.Timestamp.{Timestamp}

abbrev pub is_decimal : ℕ → Bool
is_decimal b = is_digit b 10

abbrev pub begins_digit : List ℕ → Bool
begins_digit [] = false
begins_digit (b ∷ bytes) = is_decimal b

-- the digits with which the bytes begin, and how many they are, if there are any: at most as many
-- as `most` count
abbrev pub leading_digits : ℕ → List ℕ → Option (ℕ × ℕ)
leading_digits most bytes =
    let front = take most bytes in
    let count = prefix_len is_decimal front in
    if count == 0 then None else Some (digits_value 10 (take count front), count)

-- the timestamp of these seconds and decimals, each a number and how many digits it has
abbrev pub timestamp_of : ℕ × ℕ → ℕ × ℕ → Timestamp
timestamp_of seconds decimals =
    record {
      nanoseconds = seconds.0 * 1000000000 + decimals.0 * 10 ^ (9 - decimals.1);
      decimals = decimals.1;
      length = seconds.1 + 1 + decimals.1;
    }

-- the TIME with which the bytes begin: 1 to 10 digits, a `.`, and 1 to 9 digits
abbrev pub timestamp_in : List ℕ → Option Timestamp
timestamp_in bytes =
    option_and_then (λ seconds.
    if starts_with nat_eq (drop seconds.1 bytes) (codes ".")
    then option_map (timestamp_of seconds) (leading_digits 9 (drop (seconds.1 + 1) bytes))
    else None) (leading_digits 10 bytes)

-- the nanoseconds of a text that is a TIME
abbrev pub time_of : List ℕ → Option ℕ
time_of text =
    option_and_then (λ t. if t.length == length text then Some t.nanoseconds else None)
    (timestamp_in text)
