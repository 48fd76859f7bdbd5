-- The symbols of a listing that a catalog keeps, with their ends.
use Rattle.std.specs.Prelude.{◌≡◌, ℕ, ◌+◌, Bool, false, ◌&&◌, not, nat_eq, if◌then◌else◌}
use Rattle.std.specs.Prelude.{List, Option, Some, None, filter, option_and_then}
use Rattle.std.specs.BTreeMap.{BTreeMap, get_by}
use Rattle.std.specs.Borrow.{Bor}
use Rattle.std.specs.Cmp.Lexicographic.{slice_cmp}
use Rattle.std.specs.Global.{Vec}
use Rattle.std.specs.List.{filter_map, list_any}
use Rattle.std.specs.Option.{option_map, option_map_or}
use Rattle.std.specs.Ordering.{nat_cmp}
use Rattle.std.specs.Result.{result_ok}
use Rattle.std.specs.Str.{bytes_eq}
use Rattle.listing.specs.SymbolListing.{is_mapping, symbol_of}
use Rattle.order_laws.specs.declared.items.Item.{Item}
use Rattle.modules.specs.Catalogs.{module_of}
use Rattle.modules.specs.Entries.{CatalogEntries}
use Rattle.modules.specs.Found.{Found, symbol_at}
use Rattle.modules.specs.Items.{item_of_address}
use Rattle.modules.specs.Listed.{ListedSymbol}
use Rattle.command_listings.specs.AskedNames.{asked_of}

-- a symbol at an address, its end, and the name of its module, if it has one
pub record Kept : Type 0 where
  pub addr : ℕ
  pub end : ℕ
  pub name : List ℕ
  pub owner : Option (List ℕ)

-- the module of this number has this name; number 0, the kernel itself, has none
abbrev pub is_owner : CatalogEntries → ℕ → Option (List ℕ) → Bool
is_owner c number None = nat_eq number 0
is_owner c number (Some name) =
    not (nat_eq number 0) && option_map_or (λ m. bytes_eq m.name name) (module_of c number) false

-- the end of the symbol that an address belongs to
abbrev pub end_of : Found → ℕ
end_of f = f.symbol.addr + f.size

-- the symbol as it is kept in the region that holds its address, if that is one of its module
abbrev pub kept_in : CatalogEntries → ListedSymbol → Item → Option Kept
kept_in c s item =
    if is_owner c item.tag s.owner
    then option_map
    (λ f. record { addr = s.addr; end = end_of f; name = s.name; owner = s.owner })
    (symbol_at c item s.addr)
    else None

abbrev pub kept_at_its_address : CatalogEntries → ListedSymbol → Option Kept
kept_at_its_address c s = option_and_then (kept_in c s) (item_of_address c s.addr)

-- mapping symbols are not kept
abbrev pub kept_symbol : CatalogEntries → ListedSymbol → Option Kept
kept_symbol c s = if is_mapping s.name then None else kept_at_its_address c s

-- the kept symbol that a line is
abbrev pub kept_line : CatalogEntries → List ℕ → Option Kept
kept_line c line = option_and_then (kept_symbol c) (result_ok (symbol_of line))

-- the kept ones of these symbols, in their order
abbrev pub kept_symbols : CatalogEntries → List ListedSymbol → List Kept
kept_symbols c symbols = filter_map (kept_symbol c) symbols

-- the symbols of a name
abbrev pub named : List Kept → List ℕ → List Kept
named kept name = filter (λ k. bytes_eq name k.name) kept

-- a word asks for the symbols of this name
abbrev pub is_sought : List (List ℕ) → List ℕ → Bool
is_sought words name = list_any (λ w. bytes_eq name (asked_of w).symbol) words

-- the symbols that a word asks for
abbrev pub sought : List (List ℕ) → List Kept → List ℕ → Option (List Kept)
sought words kept name = if is_sought words name then Some (named kept name) else None

-- what a map has for a name
abbrev pub found_by : BTreeMap (Bor (List ℕ)) (Vec Kept) → List ℕ → Option (List Kept)
found_by m name = option_map (λ v. v.items) (get_by (λ k. slice_cmp nat_cmp name k.now) m)

-- a map has the kept symbols of each name that a word asks for
abbrev pub IsSought : List (List ℕ) → List Kept → BTreeMap (Bor (List ℕ)) (Vec Kept) → Type 0
IsSought words kept m = (name : List ℕ) → found_by m name ≡ sought words kept name
