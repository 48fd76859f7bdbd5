-- The links of symbols by the numbers of their names, from the last one of a number to the first.
use Rattle.std.specs.Prelude.{◌≡◌, ℕ, suc, zero, ◌<◌, Bool, false, if◌then◌else◌, List, length}
use Rattle.std.specs.Prelude.{IfSome, nat_eq, slice_get, slice_index_or}
use Rattle.std.specs.Option.{option_map_or}
use Rattle.modules.specs.Entries.{SymbolEntry}
use Rattle.command_listings.specs.NameFilters.{number_of}

-- a symbol's name has this number
abbrev pub has_number : ℕ → SymbolEntry → Bool
has_number number s = nat_eq (number_of s.name) number

-- of the symbols before a place, the place after the last one whose name has this number, or 0
abbrev pub behind_last : List SymbolEntry → ℕ → ℕ → ℕ
behind_last symbols number zero = zero
behind_last symbols number (suc place) =
    if option_map_or (has_number number) (slice_get symbols place) false then suc place
    else behind_last symbols number place

-- such places: for each number, and for each symbol
pub record Links : Type 0 where
  pub last : List ℕ
  pub before : List ℕ

-- For each number they are of all symbols, and for each symbol of the ones before it, for its own.
pub record AreLinked (symbols : List SymbolEntry) (links : Links) : Type 0 where
  pub numbers : length links.last ≡ 1048576
  pub places : length links.before ≡ length symbols
  pub last : (number : ℕ) → number < 1048576
      → slice_index_or links.last number 0 ≡ behind_last symbols number (length symbols)
  pub before : (place : ℕ) → IfSome (slice_get symbols place) (λ s.
      slice_index_or links.before place 0 ≡ behind_last symbols (number_of s.name) place)
