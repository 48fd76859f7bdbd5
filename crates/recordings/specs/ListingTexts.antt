-- What a history may have of a listing.
use Rattle.std.specs.Prelude.{ℕ, Bool, List, [], ◌∷◌, ◌++◌, flat_map, if◌then◌else◌}
use Rattle.std.specs.List.{list_any}
use Rattle.histories.specs.Grammar.{is_reserved}
use Rattle.histories.specs.ListingLines.{without_end}
use Rattle.listing.specs.Looks.{is_hidden_symbol}
use Rattle.listing.specs.SymbolListing.{symbol_of}

-- a line with its end, unless it would be read as a header
abbrev pub recorded_line : List ℕ → List ℕ
recorded_line line =
    if is_reserved (without_end line) then [] else without_end line ++ 10 ∷ []

-- the lines of a listing that a history may have
abbrev pub recorded_text : List (List ℕ) → List ℕ
recorded_text listing = flat_map recorded_line listing

-- a line is a symbol whose address is hidden
abbrev pub has_hidden : List (List ℕ) → Bool
has_hidden listing = list_any (λ line. is_hidden_symbol (symbol_of line)) listing
