-- What a file of addresses says: an address on each line, or the number of the first line that is
-- not in the grammar.
use Rattle.std.specs.Prelude.{ℕ, ◌||◌, ◌==◌, Bool, if◌then◌else◌, List, [], ◌∷◌, Option, None}
use Rattle.std.specs.Prelude.{Result}
use Rattle.std.specs.Prelude.{length}
use Rattle.std.specs.List.{list_all}
use Rattle.std.specs.Option.{option_or}
use Rattle.texts.specs.Lines.{lines_of}
use Rattle.texts.specs.Numbers.{number_of, numeral}
use Rattle.texts.specs.Said.{entries_from}

-- a blank, a tab or a carriage return
abbrev pub is_blank_end : ℕ → Bool
is_blank_end b = b == 32 || b == 9 || b == 13

-- a text without those that it ends in
abbrev pub without_blank_end : List ℕ → List ℕ
without_blank_end [] = []
without_blank_end (b ∷ text) =
    if list_all is_blank_end (b ∷ text) then [] else b ∷ without_blank_end text

-- the number that just 16 hexadecimal digits write
abbrev pub sixteen_digits : List ℕ → Option ℕ
sixteen_digits digits = if length digits == 16 then numeral 16 16 digits else None

-- the address that a text is: 16 hexadecimal digits, or else a number
abbrev pub address_of_text : List ℕ → Option ℕ
address_of_text text = option_or (sixteen_digits text) (number_of text)

-- the address of a line, whatever blanks it ends in
abbrev pub address_in_line : List ℕ → Option ℕ
address_in_line line = address_of_text (without_blank_end line)

abbrev pub addresses_of : List ℕ → Result (List ℕ) ℕ
addresses_of bytes = entries_from address_in_line 1 (lines_of bytes)
