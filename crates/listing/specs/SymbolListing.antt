-- The lines of a listing of symbols, in the form of /proc/kallsyms.
use Rattle.std.specs.Prelude.{ℕ, ◌-◌, Bool, true, false, not, ◌&&◌, ◌||◌, ◌==◌, nat_eq, nat_lt}
use Rattle.std.specs.Prelude.{codes, filter, if◌then◌else◌, List, [], ◌∷◌, length, slice_index}
use Rattle.std.specs.Prelude.{slice_range, Option, Some, None, Result, Ok, Err}
use Rattle.std.specs.List.{list_any, starts_with}
use Rattle.std.specs.Option.{option_map, option_and_then}
use Rattle.modules.specs.Listed.{ListedSymbol}
use Rattle.texts.specs.Lines.{longest_line}
use Rattle.listing.specs.ModuleListing.{is_gap}
use Rattle.texts.specs.Numbers.{numeral}
use Rattle.listing.specs.Skipping.{counts_by, taken_by}
use Rattle.listing.specs.declared.causes.TheConstants.{HIDDEN, LONG, MALFORMED}
use Rattle.listing.specs.declared.symbol_listing.SkippedSymbol.{SkippedSymbol}
use Rattle.listing.specs.declared.symbol_listing.SkippedSymbol.TheVariants.{Hidden, Long, Malformed}

-- what is before the first such byte, and what is after it
abbrev pub cut_at : ℕ → List ℕ → Option (List ℕ × List ℕ)
cut_at b [] = None
cut_at b (x ∷ xs) = if x == b then Some ([], xs) else option_map (λ p. (x ∷ p.0, p.1)) (cut_at b xs)

-- the name in `[NAME]`: at least one byte, and no tab
abbrev pub bracketed : List ℕ → Option (List ℕ)
bracketed text =
    let last = length text - 1 in
    let name = slice_range text 1 last in
    if nat_lt 2 (length text) && slice_index text 0 == 91 && slice_index text last == 93
    && not (list_any (λ b. b == 9) name)
    then Some name
    else None

-- a symbol at an address, of `LETTER NAME`
abbrev pub symbol_with : Option (List ℕ) → List ℕ → ℕ → Option ListedSymbol
symbol_with owner (letter ∷ blank ∷ first ∷ name) addr =
    if not (is_gap letter) && blank == 32
    then Some (record { addr = addr; letter = letter; name = first ∷ name; owner = owner })
    else None
symbol_with owner _ addr = None

-- the address that a text begins with, and what follows the blank that ends it
abbrev pub address_in : List ℕ → Option (ℕ × List ℕ)
address_in text =
    option_and_then (λ p. option_map (λ addr. (addr, p.1)) (numeral 16 16 p.0)) (cut_at 32 text)

-- `ADDRESS LETTER NAME`
abbrev pub symbol_of_text : Option (List ℕ) → List ℕ → Option ListedSymbol
symbol_of_text owner text = option_and_then (λ p. symbol_with owner p.1 p.0) (address_in text)

-- `ADDRESS LETTER NAME` before a tab, and `[MODULE]` after it
abbrev pub symbol_in_module : List ℕ × List ℕ → Option ListedSymbol
symbol_in_module p = option_and_then (λ owner. symbol_of_text (Some owner) p.0) (bracketed p.1)

abbrev pub symbol_before : Option (List ℕ × List ℕ) → List ℕ → Option ListedSymbol
symbol_before None line = symbol_of_text None line
symbol_before (Some parts) line = symbol_in_module parts

-- a symbol whose address is shown
abbrev pub checked_symbol : Option ListedSymbol → Result ListedSymbol SkippedSymbol
checked_symbol None = Err Malformed
checked_symbol (Some s) = if s.addr == 0 then Err Hidden else Ok s

-- the symbol that a line is, or the first cause for which it is skipped
abbrev pub symbol_of : List ℕ → Result ListedSymbol SkippedSymbol
symbol_of line =
    if nat_lt longest_line (length line) then Err Long
    else checked_symbol (symbol_before (cut_at 9 line) line)

-- the module of a line, or none if it is of the kernel itself, if the line is well formed, with
-- its address shown or hidden
abbrev pub owner_in_line : List ℕ → Option (Option (List ℕ))
owner_in_line line =
    if nat_lt longest_line (length line) then None
    else option_map (λ s. s.owner) (symbol_before (cut_at 9 line) line)

-- the causes, in the order in which their counts are written
abbrev pub symbol_causes : List SkippedSymbol
symbol_causes = Hidden ∷ Long ∷ Malformed ∷ []

-- the place of a cause in that order
abbrev pub symbol_place : SkippedSymbol → ℕ
symbol_place Hidden = 0
symbol_place Long = 1
symbol_place Malformed = 2

-- what a cause is called
abbrev pub symbol_cause_name : SkippedSymbol → List ℕ
symbol_cause_name Hidden = HIDDEN.now
symbol_cause_name Long = LONG.now
symbol_cause_name Malformed = MALFORMED.now

-- the name is one of a mapping symbol, which marks code or data within a function: it begins with
-- `$`, `.L` or `L0` (is_mapping_symbol of Linux 6.1)
abbrev pub is_mapping : List ℕ → Bool
is_mapping name =
    starts_with nat_eq name (codes "$") || starts_with nat_eq name (codes ".L")
    || starts_with nat_eq name (codes "L0")

-- the symbols, with mapping symbols among them or without
abbrev pub symbols_with : Bool → List ListedSymbol → List ListedSymbol
symbols_with true symbols = symbols
symbols_with false symbols = filter (λ s. not (is_mapping s.name)) symbols

-- the symbols that the lines are, in their order
abbrev pub symbols_in : List (List ℕ) → List ListedSymbol
symbols_in lines = taken_by symbol_of lines

-- how many lines are skipped, by cause
abbrev pub symbol_counts : List (List ℕ) → List ℕ
symbol_counts lines = counts_by symbol_place symbol_causes symbol_of lines
