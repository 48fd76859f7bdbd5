-- What the text of a listing of symbols shows, the kernel's base by it, and the kernel's own lines.
use Rattle.std.specs.Prelude.{ℕ, Bool, false, not, filter, flat_map, is_some, List, [], ◌∷◌, ◌++◌}
use Rattle.std.specs.Prelude.{Option, Result, Ok, Err}
use Rattle.std.specs.List.{list_any}
use Rattle.std.specs.Option.{option_or}
use Rattle.modules.specs.Lines.{first_address}
use Rattle.modules.specs.Listed.{ListedSymbol}
use Rattle.listing.specs.Looks.{is_shown_symbol}
use Rattle.listing.specs.declared.kernel_lines.TheConstants.{STEXT, TEXT}
use Rattle.listing.specs.SymbolListing.{symbol_of, symbols_in}
use Rattle.listing.specs.declared.symbol_listing.SkippedSymbol.{SkippedSymbol}

-- a line is a symbol whose address is not hidden
abbrev pub shows_symbol : List (List ℕ) → Bool
shows_symbol lines = list_any (λ l. is_shown_symbol (symbol_of l)) lines

-- the kernel's base: the address of its first symbol that is called `_text`, or else `_stext`
abbrev pub kernel_base : List (List ℕ) → Option ℕ
kernel_base lines =
    option_or (first_address TEXT.now (symbols_in lines))
    (first_address STEXT.now (symbols_in lines))

-- a symbol of a module
abbrev pub is_of_module : Result ListedSymbol SkippedSymbol → Bool
is_of_module (Ok s) = is_some s.owner
is_of_module (Err cause) = false

-- the lines that are no symbols of modules, each with its end
abbrev pub without_modules : List (List ℕ) → List ℕ
without_modules lines =
    flat_map (λ l. l ++ 10 ∷ []) (filter (λ l. not (is_of_module (symbol_of l))) lines)
