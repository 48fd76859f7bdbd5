-- One answer for all addresses that a found symbol reaches to.
use Rattle.modules.proofs.Words.{◌≡◌, ℕ, ◌+◌, ◌-◌, ◌<◌, ◌≤◌, ◌⊎◌, List, Option, Some, sym, subst}
use Rattle.modules.proofs.Words.{arith, All, MatchOption, option_and_then}
use Rattle.modules.proofs.Lemmas.{find-agree, list_all-agree, look_is}
use Rattle.modules.proofs.Definitions.{Item, half_open, IsLook, symbol_below, IsSoundCatalog}
use Rattle.modules.proofs.Definitions.{module_of, CatalogEntries, ModuleEntry, SymbolEntry, Found}
use Rattle.modules.proofs.Definitions.{IsFound, found_in, symbol_at, symbols_from, items_of}
use Rattle.modules.proofs.Definitions.{item_of_address}
use Rattle.modules.proofs.ApartItemLemmas.{some_found}
use Rattle.modules.proofs.FindLemmas.{found_by_place}
use Rattle.modules.proofs.NearestLemmas.{found}

-- two addresses with no symbol between them and one below have one nearest symbol
same_nearest : (symbols : List SymbolEntry) (low x y : ℕ) → low ≤ x → low ≤ y
    → All (λ t. (t.addr ≤ low) ⊎ (x < t.addr)) symbols
    → All (λ t. (t.addr ≤ low) ⊎ (y < t.addr)) symbols
    → symbol_below symbols x ≡ symbol_below symbols y
same_nearest symbols low x y to_x to_y beside_x beside_y = grind (arith, find-agree, list_all-agree)

module _ (symbols : List SymbolEntry) (end addr x : ℕ) (f : Found) (from : f.symbol.addr ≤ x)
    (below : x < f.symbol.addr + f.size) where
  is_found : found_in symbols end addr ≡ Some f → IsFound symbols end addr f
  is_found is = subst (λ o. MatchOption o (All (λ (s : SymbolEntry). addr < s.addr) symbols)
      (IsFound symbols end addr)) is (found_by_place symbols end addr)

  -- the same symbol is found for each address that it reaches to
  pub found_again : found_in symbols end addr ≡ Some f
      → found_in symbols end x ≡ Some (found f.symbol (x - f.symbol.addr) f.size)
  found_again is = grind (arith, is_found, same_nearest)

module _ (c : CatalogEntries) (item : Item) (addr x : ℕ) where
  module _ (f : Found) (from : f.symbol.addr ≤ x) (below : x < f.symbol.addr + f.size) where
    in_module : (o : Option ModuleEntry)
        → option_and_then (λ (m : ModuleEntry).
        found_in (symbols_from m.symbols item.a item.b) item.b addr) o ≡ Some f
        → option_and_then (λ (m : ModuleEntry). found_in (symbols_from m.symbols item.a item.b)
        item.b x) o ≡ Some (found f.symbol (x - f.symbol.addr) f.size)
    in_module o is = grind (arith, found_again)

    pub symbol_again : symbol_at c item addr ≡ Some f
        → symbol_at c item x ≡ Some (found f.symbol (x - f.symbol.addr) f.size)
    symbol_again is = in_module (module_of c item.tag) is

  -- another address of the item lies in it alone
  pub item_again : IsSoundCatalog c → item_of_address c addr ≡ Some item → item.a ≤ x → x < item.b
      → item_of_address c x ≡ Some item
  item_again sound is from below =
      let there =
      subst (IsLook half_open addr (items_of c)) is (look_is half_open addr (items_of c)) in
      sym (some_found c sound x item (item_of_address c x) there.0 from below
      (look_is half_open x (items_of c)))
