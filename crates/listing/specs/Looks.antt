-- What a listing without a line of use looks like.
use Rattle.std.specs.Prelude.{◌≡◌, ℕ, Bool, true, false, not, ◌||◌, ◌&&◌, nat_eq, nat_lt, is_none}
use Rattle.std.specs.Prelude.{find, length, take, List, [], ◌∷◌, Result, Ok, Err}
use Rattle.std.specs.Char.{is_digit}
use Rattle.std.specs.List.{ends_with, list_all, list_any, starts_with}
use Rattle.std.specs.Option.{option_map_or}
use Rattle.std.specs.Str.{bytes_eq}
use Rattle.texts.specs.Lines.{lines_of}
use Rattle.modules.specs.Listed.{BoundNames, ListedModule, ListedSymbol}
use Rattle.listing.specs.ModuleListing.{module_of_line}
use Rattle.listing.specs.SymbolListing.{symbol_of}
use Rattle.listing.specs.declared.looks.KernelSymbols.{KernelSymbols}
use Rattle.listing.specs.declared.module_listing.SkippedModule.{SkippedModule}
use Rattle.listing.specs.declared.module_listing.SkippedModule.TheVariants as module_cause
use Rattle.listing.specs.declared.symbol_listing.SkippedSymbol.{SkippedSymbol}
use Rattle.listing.specs.declared.symbol_listing.SkippedSymbol.TheVariants as symbol_cause

-- the first two bytes are as in a file that gzip made
abbrev pub is_gzip : List ℕ → Bool
is_gzip text = starts_with nat_eq text (31 ∷ 139 ∷ [])

-- the first two bytes are as in a text in UTF-16
abbrev pub is_utf_16 : List ℕ → Bool
is_utf_16 text =
    starts_with nat_eq text (255 ∷ 254 ∷ []) || starts_with nat_eq text (254 ∷ 255 ∷ [])

-- the first line ends in a carriage return
abbrev pub first_ends_in_cr : List (List ℕ) → Bool
first_ends_in_cr [] = false
first_ends_in_cr (line ∷ lines) = ends_with nat_eq line (13 ∷ [])

-- the line is well formed in a listing of modules, and its base is 0
abbrev pub is_hidden_module : Result ListedModule SkippedModule → Bool
is_hidden_module (Err module_cause.Hidden) = true
is_hidden_module _ = false

-- the line is well formed in a listing of modules, and its base is shown
abbrev pub is_shown_module : Result ListedModule SkippedModule → Bool
is_shown_module (Ok m) = true
is_shown_module (Err module_cause.Empty) = true
is_shown_module (Err module_cause.Wraps) = true
is_shown_module _ = false

-- a well-formed line of a listing of symbols is hidden
abbrev pub is_hidden_symbol : Result ListedSymbol SkippedSymbol → Bool
is_hidden_symbol (Err symbol_cause.Hidden) = true
is_hidden_symbol _ = false

abbrev pub is_shown_symbol : Result ListedSymbol SkippedSymbol → Bool
is_shown_symbol (Ok s) = true
is_shown_symbol (Err _) = false

-- there are well-formed lines, and all of them are hidden
abbrev pub are_modules_hidden : List (List ℕ) → Bool
are_modules_hidden lines =
    list_any (λ l. is_hidden_module (module_of_line l)) lines
    && not (list_any (λ l. is_shown_module (module_of_line l)) lines)

abbrev pub are_symbols_hidden : List (List ℕ) → Bool
are_symbols_hidden lines =
    list_any (λ l. is_hidden_symbol (symbol_of l)) lines
    && not (list_any (λ l. is_shown_symbol (symbol_of l)) lines)

-- the line is well formed in a listing of modules, or in one of symbols
abbrev pub is_module_line : List ℕ → Bool
is_module_line line =
    is_hidden_module (module_of_line line) || is_shown_module (module_of_line line)

abbrev pub is_symbol_line : List ℕ → Bool
is_symbol_line line = is_hidden_symbol (symbol_of line) || is_shown_symbol (symbol_of line)

-- the line begins with more than 8 hexadecimal digits
abbrev pub begins_wide : List ℕ → Bool
begins_wide line = nat_lt 8 (length line) && list_all (λ b. is_digit b 16) (take 9 line)

-- The listing is a 32-bit kernel's: a line is well formed, and no such line has an address that is
-- written with more than 8 digits.
abbrev pub is_narrow : List (List ℕ) → Bool
is_narrow lines =
    list_any is_symbol_line lines
    && not (list_any (λ l. is_symbol_line l && begins_wide l) lines)

-- the first line that is well formed in either listing is one of the listing of modules
abbrev pub looks_like_modules : List (List ℕ) → Bool
looks_like_modules lines =
    option_map_or is_module_line (find (λ l. is_module_line l || is_symbol_line l) lines) false

-- or one of the listing of symbols
abbrev pub looks_like_symbols : List (List ℕ) → Bool
looks_like_symbols lines =
    option_map_or is_symbol_line (find (λ l. is_module_line l || is_symbol_line l) lines) false

-- there are bytes, and no line passes
abbrev pub lacks_lines : (List ℕ → Bool) → List ℕ → Bool
lacks_lines passes text = nat_lt 0 (length text) && not (list_any passes (lines_of text))

-- a symbol of the kernel itself, and one of this name
abbrev pub is_of_kernel : ListedSymbol → Bool
is_of_kernel s = is_none s.owner

abbrev pub is_kernel_symbol : List ℕ → ListedSymbol → Bool
is_kernel_symbol name s = is_none s.owner && bytes_eq s.name name

-- whether symbols of the kernel itself are among these, and those that bound it
pub record AreKernelSymbols (names : BoundNames) (symbols : List ListedSymbol) (k : KernelSymbols)
    : Type 0 where
  pub any : k.any ≡ list_any is_of_kernel symbols
  pub start : k.start ≡ list_any (is_kernel_symbol names.start) symbols
  pub end : k.end ≡ list_any (is_kernel_symbol names.end) symbols
