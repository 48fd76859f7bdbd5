-- What the NAMEs of a command line ask for.
use Rattle.std.specs.Prelude.{ℕ, ◌-◌, ◌==◌, nat_eq, if◌then◌else◌, codes, List, [], ◌∷◌, length}
use Rattle.std.specs.Prelude.{take}
use Rattle.std.specs.Prelude.{Option, Some, None, option_and_then}
use Rattle.std.specs.List.{ends_with, starts_with}
use Rattle.std.specs.Option.{option_map}
use Rattle.texts.specs.Numbers.{number_of}
use Rattle.listing.specs.SymbolListing.{cut_at}
use Rattle.command_listings.specs.declared.asked_names.Distance.{Distance}

-- the symbols of one name, the offset into them, and their size, if it is given: in the named
-- module, `-` for the kernel itself, or in any if no module is named
pub record AskedSymbols : Type 0 where
  pub owner : Option (List ℕ)
  pub symbol : List ℕ
  pub above : Distance

-- the parts before and after the last such byte of a text, if the rest is split so, and its first
-- byte is such a one or not
abbrev pub cut_before : ℕ → ℕ → List ℕ → Option (List ℕ × List ℕ) → Option (List ℕ × List ℕ)
cut_before b x xs (Some p) = Some (x ∷ p.0, p.1)
cut_before b x xs None = if x == b then Some ([], xs) else None

-- what is before the last such byte, and what is after it
abbrev pub cut_at_last : ℕ → List ℕ → Option (List ℕ × List ℕ)
cut_at_last b [] = None
cut_at_last b (x ∷ xs) = cut_before b x xs (cut_at_last b xs)

-- `0x` and 1 to 16 hexadecimal digits
abbrev pub offset_in : List ℕ → Option ℕ
offset_in word = if starts_with nat_eq word (codes "0x") then number_of word else None

-- at the symbol itself, of any length
abbrev pub no_distance : Distance
no_distance = record { offset = 0; size = None }

-- so far above a symbol, of any length or of this one
abbrev pub at_offset : ℕ → Distance
at_offset n = record { offset = n; size = None }

abbrev pub at_offset_of : ℕ → ℕ → Distance
at_offset_of n size = record { offset = n; size = Some size }

-- `0xOFFSET`, or `0xOFFSET/0xSIZE` by the parts before and after the `/` (47)
abbrev pub distance_by : List ℕ → Option (List ℕ × List ℕ) → Option Distance
distance_by word None = option_map at_offset (offset_in word)
distance_by word (Some p) =
    option_and_then (λ n. option_map (at_offset_of n) (offset_in p.1)) (offset_in p.0)

abbrev pub distance_in : List ℕ → Option Distance
distance_in word = distance_by word (cut_at 47 word)

-- the two parts of `SYMBOL+0xOFFSET`, with `/0xSIZE` or without, whose last `+` (43) is the one
-- between them
abbrev pub symbol_and_distance : List ℕ → Option (List ℕ × Distance)
symbol_and_distance text =
    option_and_then (λ p. option_map (λ d. (p.0, d)) (distance_in p.1)) (cut_at_last 43 text)

-- such a text, or else all of it is the name of a symbol
abbrev pub asked_with : Option (List ℕ) → List ℕ → Option (List ℕ × Distance) → AskedSymbols
asked_with owner text None = record { owner = owner; symbol = text; above = no_distance }
asked_with owner text (Some p) = record { owner = owner; symbol = p.0; above = p.1 }

abbrev pub asked_in : Option (List ℕ) → List ℕ → AskedSymbols
asked_in owner text = asked_with owner text (symbol_and_distance text)

-- what is before the first `:` (58) is the name of a module
abbrev pub asked_by : List ℕ → Option (List ℕ × List ℕ) → AskedSymbols
asked_by word None = asked_in None word
asked_by word (Some p) = asked_in (Some p.0) p.1

-- the text without this last byte, if it ends in it
abbrev pub without_last : ℕ → List ℕ → Option (List ℕ)
without_last b text =
    if ends_with nat_eq text (b ∷ []) then Some (take (length text - 1) text) else None

-- the two parts of `NAME [MODULE]`, by those before and after the last `[`
abbrev pub parted_by : Option (List ℕ × List ℕ) → Option (List ℕ × List ℕ)
parted_by None = None
parted_by (Some p) =
    option_and_then (λ name. option_map (λ owner. (name, owner)) (without_last 93 p.1))
    (without_last 32 p.0)

abbrev pub name_and_module : List ℕ → Option (List ℕ × List ℕ)
name_and_module word = parted_by (cut_at_last 91 word)

-- `NAME [MODULE]`, or else `MODULE:NAME` or NAME alone
abbrev pub asked_from : List ℕ → Option (List ℕ × List ℕ) → AskedSymbols
asked_from word None = asked_by word (cut_at 58 word)
asked_from word (Some p) = asked_in (Some p.1) p.0

abbrev pub asked_of : List ℕ → AskedSymbols
asked_of word = asked_from word (name_and_module word)
