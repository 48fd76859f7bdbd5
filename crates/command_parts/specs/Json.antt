-- Values of JSON (RFC 8259).
use Rattle.std.specs.Prelude.{ℕ, zero, suc, ◌+◌, ◌/◌, ◌%◌, nat_eq, nat_lt, if◌then◌else◌}
use Rattle.std.specs.Prelude.{List, [], ◌∷◌, ◌++◌, length, take, drop, flat_map, codes, decimal}
use Rattle.std.specs.Str.Lossy.{utf8_valid_len, replacement_bytes}
use Rattle.command_parts.specs.declared.json.TheConstants as text

-- the bytes with U+FFFD in place of each of the first n that is no part of a character
abbrev pub text_within : ℕ → List ℕ → List ℕ
text_within zero bytes = bytes
text_within (suc most) bytes =
    let n = utf8_valid_len bytes in
    if nat_eq n (length bytes) then bytes
    else take n bytes ++ replacement_bytes ++ text_within most (drop (n + 1) bytes)

-- the bytes with U+FFFD in place of each that is no part of a character
unfoldable pub text_of : List ℕ → List ℕ
text_of bytes = text_within (length bytes) bytes

-- a digit of a number below 16, in lower case
abbrev pub hexadecimal_digit : ℕ → ℕ
hexadecimal_digit n = if nat_lt n 10 then 48 + n else 87 + n

-- a byte as it would be in a string: a quote and a backslash after a backslash, a control character
-- by its number
abbrev pub escaped : ℕ → List ℕ
escaped byte =
    if nat_eq byte 34 then text.QUOTE.now
    else if nat_eq byte 92 then text.BACKSLASH.now
    else if nat_lt byte 32 then
    text.BY_NUMBER.now ++ hexadecimal_digit (byte / 16) ∷ hexadecimal_digit (byte % 16) ∷ []
    else byte ∷ []

-- the text that bytes are, between quotes
unfoldable pub json_string : List ℕ → List ℕ
json_string bytes = codes "\"" ++ flat_map escaped (text_of bytes) ++ codes "\""

-- a number, which from 2 ^ 53 on is a text, since readers may round it
unfoldable pub json_number : ℕ → List ℕ
json_number n =
    if nat_lt n 9007199254740992 then decimal n else codes "\"" ++ decimal n ++ codes "\""
