-- What a log says itself of an address, after it: a name, perhaps with its offset and its size.
use Rattle.std.specs.Prelude.{ℕ, ◌==◌, ◌&&◌, not, Bool, true, false, if◌then◌else◌, nat_eq, nat_lt}
use Rattle.std.specs.Prelude.{List, [], ◌∷◌, codes, drop, take, Option, None, Some, option_and_then}
use Rattle.std.specs.List.{starts_with}
use Rattle.std.specs.Option.{option_map}
use Rattle.logs.specs.Places.{first_of, is_of}
use Rattle.logs.specs.Words.{digits_between}
use Rattle.logs.specs.declared.places.ByteClass.TheVariants as kind
use Rattle.logs.specs.declared.said_names.SaidDistance.{SaidDistance}

-- a name, and how far above it
pub record NameAndDistance : Type 0 where
  pub name : List ℕ
  pub distance : SaidDistance

-- what the log says ends here: at a blank, a control byte or a parenthesis, or with the bytes
abbrev pub ends_text : List ℕ → Bool
ends_text [] = true
ends_text (b ∷ bytes) = not (is_of kind.Said b)

-- a text is hexadecimal digits up to its end
abbrev pub are_digits : List ℕ → Bool
are_digits text =
    let n = first_of kind.Hexadecimal text in nat_lt 0 n && ends_text (drop n text)

-- the bytes after an offset are `/0xSIZE`, or none; there is no answer if they are something else
abbrev pub has_size_at : List ℕ → Option Bool
has_size_at text =
    if ends_text text then Some false
    else if starts_with nat_eq text (codes "/0x") && are_digits (drop 3 text) then Some true
    else None

-- the distance of an offset that these bytes follow; and one that begins with the offset's digits
abbrev pub distance_from : ℕ → List ℕ → Option SaidDistance
distance_from offset text =
    option_map (λ sized. record { offset = Some offset; has_size = sized }) (has_size_at text)

abbrev pub distance_in : List ℕ → Option SaidDistance
distance_in digits =
    let n = first_of kind.Hexadecimal digits in
    option_and_then (λ offset. distance_from offset (drop n digits))
    (digits_between 1 16 (take n digits))

-- the bytes after a name are `+0xOFF`, perhaps with `/0xSIZE`, or none
abbrev pub distance_at : List ℕ → Option SaidDistance
distance_at text =
    if ends_text text then Some (record { offset = None; has_size = false })
    else if starts_with nat_eq text (codes "+0x") then distance_in (drop 3 text)
    else None

-- NAME, `NAME+0xOFF` or `NAME+0xOFF/0xSIZE` begins a text and ends there
abbrev pub name_at : List ℕ → Option NameAndDistance
name_at text =
    let n = first_of kind.Name text in
    if n == 0 then None
    else option_map (λ d. record { name = take n text; distance = d }) (distance_at (drop n text))

-- a text without a `? ` or `(` that it begins with
abbrev pub without_doubt : List ℕ → List ℕ
without_doubt text =
    if starts_with nat_eq text (codes "? ") then drop 2 text
    else if starts_with nat_eq text (codes "(") then drop 1 text
    else text

-- the name that the log says at a place after an address: after a blank
abbrev pub name_said : List ℕ → Option NameAndDistance
name_said [] = None
name_said (b ∷ text) = if b == 32 then name_at (without_doubt text) else None
