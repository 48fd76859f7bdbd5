-- The line `batch E I ..` of a trace: E first words to erase, and I items to insert.
use Rattle.std.specs.Prelude.{ℕ, ◌+◌, ◌*◌, ◌==◌, List, [], ◌∷◌, length, take, drop, Option, Some}
use Rattle.std.specs.Prelude.{None, if◌then◌else◌}
use Rattle.std.specs.Option.{option_and_then, option_map}
use Rattle.order_laws.specs.declared.items.Item.{Item}
use Rattle.texts.specs.Numbers.{number_of}

-- the numbers that words are, if each of them is one
abbrev pub numbers_of : List (List ℕ) → Option (List ℕ)
numbers_of [] = Some []
numbers_of (word ∷ words) =
    option_and_then (λ n. option_map (λ ns. n ∷ ns) (numbers_of words)) (number_of word)

-- the items that each three numbers are
abbrev pub items_of_numbers : List ℕ → List Item
items_of_numbers (a ∷ b ∷ tag ∷ numbers) =
    record { a = a; b = b; tag = tag } ∷ items_of_numbers numbers
items_of_numbers _ = []

-- first words and items, of these counts, if there are just as many numbers
abbrev pub batch_with : List ℕ → Option (List ℕ × List Item)
batch_with (erased ∷ inserted ∷ numbers) =
    if length numbers == erased + 3 * inserted
    then Some (take erased numbers, items_of_numbers (drop erased numbers))
    else None
batch_with _ = None

-- what the words after `batch` are: numbers, and the first two say how many the others are
abbrev pub batch_of : List (List ℕ) → Option (List ℕ × List Item)
batch_of words = option_and_then batch_with (numbers_of words)
