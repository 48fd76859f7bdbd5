-- What a search of a view's rows finds. Assumes nothing.
use Rattle.latchsym_ffi.proofs.Words.{◌≡◌, ℕ, ◌-◌, ◌<◌, ◌≤◌, List, [], length, get_or, map, Option}
use Rattle.latchsym_ffi.proofs.Words.{Some, None, refl, sym, ap, subst, ◌∙◌, arith, All, Contains}
use Rattle.latchsym_ffi.proofs.Words.{IfSome, slice_get, option_map, get_or-map, get_or_default}
use Rattle.latchsym_ffi.proofs.Words.{length-map, All-contains, get_or_from_slice_get}
use Rattle.latchsym_ffi.proofs.Words.{slice_get-map, slice_get_some, address_above, symbol_below}
use Rattle.latchsym_ffi.proofs.Words.{CatalogEntries, SymbolEntry, IsSplit, IsSplitBy, regions_of}
use Rattle.latchsym_ffi.proofs.Words.{item_of_address, items_of, all_regions, region_of}
use Rattle.latchsym_ffi.proofs.Words.{IsItemSplit, IndexEntry, above_at, last_below, none_below}
use Rattle.latchsym_ffi.proofs.Words.{last_ends_below, last_found, nothing_below, Item, AreRowsOf}
use Rattle.latchsym_ffi.proofs.Words.{IsRegionRow, IsViewOf, entry_of_row, item_of_row}
use Rattle.latchsym_ffi.proofs.Words.{symbol_of_row, without_letter, known_without_letter}
use Rattle.latchsym_ffi.proofs.Words.{unwrap_or, Known, known_code, IsNamed, CatalogSymbol}
use Rattle.latchsym_ffi.proofs.Words.{ViewRegion, ViewSymbol, SeenRow}

-- a split of the measures of a list is one of the list
pub split_of_measured : {X : Type 0} (f : X → ℕ) (xs : List X) (addr place : ℕ)
    → IsSplitBy (λ a. a) (map f xs) addr place → IsSplitBy f xs addr place
split_of_measured f xs addr place parts =
    let same = length-map xs f in
    record {
      bound = let b = parts.bound in omega (arith, same, b);
      below = λ k d lt. subst (λ n. n ≤ addr) (get_or-map f xs k d 0 (let b = parts.bound in
          omega (arith, same, b, lt))) (parts.below k 0 lt);
      above = λ k d le lt. subst (λ n. addr < n) (get_or-map f xs k d 0 lt)
          (parts.above k 0 le (omega (arith, same, lt)));
    }

-- and one of what the list shows
pub split_of_shown : {X Y : Type 0} (f : X → Y) (measure : Y → ℕ) (xs : List X) (addr place : ℕ)
    → IsSplitBy (λ x. measure (f x)) xs addr place → IsSplitBy measure (map f xs) addr place
split_of_shown f measure xs addr place parts =
    let same = length-map xs f in
    record {
      bound = let b = parts.bound in omega (arith, same, b);
      below = λ k d lt.
          let within : k < length xs = let b = parts.bound in omega (arith, b, lt) in
          let (x, at) = slice_get_some xs k within in
          subst (λ y. measure y ≤ addr) (sym (get_or-map f xs k x d within)) (parts.below k x lt);
      above = λ k d le lt.
          let within : k < length xs = omega (arith, same, lt) in
          let (x, at) = slice_get_some xs k within in
          subst (λ y. addr < measure y) (sym (get_or-map f xs k x d within))
          (parts.above k x le within);
    }

-- ---- symbols without their letters

-- the symbol whose letter was left out
pub with_letter : (o : Option SymbolEntry) (s : SymbolEntry) → option_map without_letter o ≡ Some s
    → (t : SymbolEntry) × (o ≡ Some t) × (without_letter t ≡ s)
with_letter None s is = absurd (grind (arith, is))
with_letter (Some t) s is = (t, refl, ap (λ o. unwrap_or o s) is)

pub none_without : (o : Option SymbolEntry) → option_map without_letter o ≡ None → o ≡ None
none_without None is = refl
none_without (Some t) is = absurd (grind (arith, is))

-- what is told names no letter
pub told_without : (c : CatalogEntries) (k : Known) (s : CatalogSymbol)
    → IsNamed c (known_without_letter k) s → IsNamed c k s
told_without c None s is = is
told_without c (Some (i, None)) s is = is
told_without c (Some (i, Some f)) s is =
    record {
      number = is.number;
      offset = is.offset;
      size = is.size;
      name = is.name;
      owner = is.owner;
    }

pub same_code : (k : Known) → known_code (known_without_letter k) ≡ known_code k
same_code None = refl
same_code (Some (i, None)) = refl
same_code (Some (i, Some f)) = refl

-- ---- the rows of a module's symbols

module _ (symbols : List SymbolEntry) (rows : List ViewSymbol) (addresses : List ℕ)
    (are : AreRowsOf symbols rows addresses) (addr split : ℕ)
    (parts : IsSplitBy (λ a. a) addresses addr split) where
  abbrev index : List IndexEntry
  index = map entry_of_row rows

  of_rows : IsSplitBy (λ r. r.addr) rows addr split
  of_rows = split_of_measured (λ (r : ViewSymbol). r.addr) rows addr split
      (subst (λ ns. IsSplitBy (λ a. a) ns addr split) are.starts parts)

  of_index : IsSplit index addr split
  of_index = split_of_shown entry_of_row (λ (e : IndexEntry). e.addr) rows addr split of_rows

  pub no_row_below : split ≡ 0 → symbol_below symbols addr ≡ None
  no_row_below e =
      none_below symbols index are.indexed addr (subst (λ n. IsSplit index addr n) e of_index)

  pub row_below : 0 < split → option_map symbol_of_row (slice_get rows (split - 1))
      ≡ option_map without_letter (symbol_below symbols addr)
  row_below some =
      let within : split - 1 < length rows = let b = of_rows.bound in omega (arith, b, some) in
      let (r, at) = slice_get_some rows (split - 1) within in
      let none : SymbolEntry = record { addr = 0; letter = 0; name = [] } in
      let is : get_or rows (split - 1) r ≡ r = get_or_from_slice_get rows (split - 1) r r at in
      let entry : entry_of_row r ≡ get_or index (split - 1) (entry_of_row r) =
      sym (get_or-map entry_of_row rows (split - 1) r (entry_of_row r) within
      ∙ ap entry_of_row is) in
      let named : option_map without_letter (slice_get symbols r.place) ≡ Some (symbol_of_row r) =
      subst (λ (x : ViewSymbol). option_map without_letter (slice_get symbols x.place)
      ≡ Some (symbol_of_row x)) is (are.named (split - 1) r within) in
      let (s, there, bare) = with_letter (slice_get symbols r.place) (symbol_of_row r) named in
      ap (option_map symbol_of_row) at
      ∙ ap (λ (x : SymbolEntry). Some x) (sym bare)
      ∙ ap (λ (x : SymbolEntry). Some (without_letter x))
      (sym (get_or_from_slice_get symbols r.place s none there))
      ∙ sym (ap (option_map without_letter) (last_below symbols index are.indexed addr split
      of_index some (entry_of_row r) entry none))

  same_address : (o : Option ViewSymbol)
      → option_map (λ r. r.addr) o ≡ option_map (λ e. e.addr) (option_map entry_of_row o)
  same_address None = refl
  same_address (Some r) = refl

  pub row_above : slice_get addresses split ≡ address_above symbols addr
  row_above =
      ap (λ ns. slice_get ns split) are.starts
      ∙ slice_get-map (λ (r : ViewSymbol). r.addr) rows split
      ∙ same_address (slice_get rows split)
      ∙ ap (option_map (λ (e : IndexEntry). e.addr)) (sym (slice_get-map entry_of_row rows split))
      ∙ above_at symbols index are.indexed addr split of_index

-- ---- the rows of regions

module _ (c : CatalogEntries) (regions : List ViewRegion) (is : IsViewOf c regions) (addr split : ℕ)
    (parts : IsSplitBy (λ r. r.a) regions addr split) where
  abbrev items : List Item
  items = map item_of_row regions

  of_items : IsItemSplit items addr split
  of_items = split_of_shown item_of_row (λ (i : Item). i.a) regions addr split parts

  pub no_region_below : split ≡ 0 → None ≡ item_of_address c addr
  no_region_below e = nothing_below c is.sound items is.indexed addr split of_items e

  -- the last region that begins at or below the address
  module _ (none : ViewRegion) (some : 0 < split) where
    abbrev r : ViewRegion
    r = get_or regions (split - 1) none

    last_item : get_or items (split - 1) (item_of_row r) ≡ item_of_row r
    last_item =
        let b = parts.bound in
        let within : split - 1 < length regions = omega (arith, b, some) in
        get_or-map item_of_row regions (split - 1) r (item_of_row r) within
        ∙ ap item_of_row (get_or_default regions (split - 1) r none within)

    pub region_found : addr < r.b → Some (item_of_row r) ≡ item_of_address c addr
    region_found lt =
        last_found c is.sound items is.indexed addr split of_items (item_of_row r) some last_item lt

    pub region_passed : r.b ≤ addr → None ≡ item_of_address c addr
    region_passed le = last_ends_below c is.sound items is.indexed addr split of_items
        (item_of_row r) some last_item le

-- what is seen is a row of its module
pub row_of_seen : (c : CatalogEntries) (regions : List ViewRegion) → All (IsRegionRow c) regions
    → (o : Option SeenRow) → IfSome o (λ s. Contains regions s.region.now)
    → IfSome o (λ s. IsRegionRow c s.region.now)
row_of_seen c regions each None listed = listed
row_of_seen c regions each (Some s) listed =
    All-contains (IsRegionRow c) regions s.region.now each listed

-- ---- how many regions there are

pub as_many_items : (c : CatalogEntries) → length (regions_of c) ≡ length (items_of c)
as_many_items c = sym (ap length (all_regions c)) ∙ length-map (items_of c) region_of
