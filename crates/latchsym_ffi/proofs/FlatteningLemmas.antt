-- What a view is laid out of. Assumes nothing.
use Rattle.latchsym_ffi.proofs.Words.{option_map, without_letter, ◌≡◌, ℕ, zero, suc, ◌+◌, ◌-◌, ◌<◌}
use Rattle.latchsym_ffi.proofs.Words.{◌≤◌, Bool, false, List, [], ◌∷◌, ◌++◌, length, get_or, map}
use Rattle.latchsym_ffi.proofs.Words.{take, Some, None, sym, ap, subst, ◌∙◌, arith, append-nil, All}
use Rattle.latchsym_ffi.proofs.Words.{slice_get, slice_set, get_or-map, length-append, length-map}
use Rattle.latchsym_ffi.proofs.Words.{map-append, take_more, take_more_set, IsStrictWeakOrder}
use Rattle.latchsym_ffi.proofs.Words.{flat_map, range_with_len, option_map_or, IsNonDecreasingBy}
use Rattle.latchsym_ffi.proofs.Words.{IsPermutation, IsSortedBy, All-append, All-permutation}
use Rattle.latchsym_ffi.proofs.Words.{IsPermutation-map, flat_map-append, slice_get_some}
use Rattle.latchsym_ffi.proofs.Words.{range-append_from_zero, module_of, CatalogEntries}
use Rattle.latchsym_ffi.proofs.Words.{ModuleEntry, SymbolEntry, item_of, items_at, items_below}
use Rattle.latchsym_ffi.proofs.Words.{items_of, one_number_more, comes_before, index_entries_of}
use Rattle.latchsym_ffi.proofs.Words.{IndexEntry, comes_before_weak, entry_at, length-entries_of}
use Rattle.latchsym_ffi.proofs.Words.{rising, AreListed, AreRowsOf, entry_of_row, symbol_of_row}
use Rattle.latchsym_ffi.proofs.Words.{symbols_at, symbols_below, symbols_of, ViewSymbol}

-- ---- rows that are written one after the other

pub all_more : {X : Type 0} (P : X → Type 0) (xs : List X) (n : ℕ) (x : X) → n < length xs
    → All P (take n xs) → P x → All P (take (n + 1) (slice_set xs n x))
all_more P xs n x lt before here =
    subst (All P) (sym (take_more_set xs n x lt))
    (All-append P (take n xs) (x ∷ []) before (λ k d l. one k d l))
  where
    one : (k : ℕ) (d : _) → k < 1 → P (get_or (x ∷ []) k d)
    one zero d l = here
    one (suc k) d l = absurd (omega (arith, l))

pub shown_more : {X Y : Type 0} (f : X → Y) (xs : List X) (n : ℕ) (x : X) → n < length xs
    → map f (take (n + 1) (slice_set xs n x)) ≡ map f (take n xs) ++ f x ∷ []
shown_more f xs n x lt = ap (map f) (take_more_set xs n x lt) ∙ map-append f (take n xs) (x ∷ [])

pub entries_more : (symbols : List SymbolEntry) (rows : List ViewSymbol) (n : ℕ) (x : ViewSymbol)
    (s : SymbolEntry) → n < length symbols → n < length rows
    → entry_of_row x ≡ record { addr = (get_or symbols n s).addr; place = n }
    → map entry_of_row (take n rows) ≡ take n (index_entries_of symbols)
    → map entry_of_row (take (n + 1) (slice_set rows n x)) ≡ take (n + 1) (index_entries_of symbols)
entries_more symbols rows n x s within room is before =
    let d : IndexEntry = record { addr = 0; place = 0 } in
    shown_more entry_of_row rows n x room
    ∙ ap (λ es. es ++ entry_of_row x ∷ []) before
    ∙ ap (λ e. take n (index_entries_of symbols) ++ e ∷ [])
    (is ∙ sym (entry_at symbols 0 n n d s within (omega arith)))
    ∙ sym (take_more (index_entries_of symbols) n d (let l = length-entries_of symbols in
    omega (arith, l, within)))

-- ---- rows that are sorted

pub sorted_shown : {X Y : Type 0} (f : X → Y) (lt : Y → Y → Bool) (xs : List X)
    → IsSortedBy (λ x y. lt (f x) (f y)) xs → IsSortedBy lt (map f xs)
sorted_shown f lt xs sorted = λ k d low high.
    let same = length-map xs f in
    let within : k + 1 < length xs = omega (arith, same, high) in
    let (x, at) = slice_get_some xs k (omega (arith, within)) in
    subst (λ y. lt y (get_or (map f xs) k d) ≡ false) (sym (get_or-map f xs (k + 1) x d within))
    (subst (λ y. lt (f (get_or xs (k + 1) x)) y ≡ false)
    (sym (get_or-map f xs k x d (omega (arith, within)))) (sorted k x low within))

-- the order of rows is that of their entries
pub before_weak : IsStrictWeakOrder {X = ViewSymbol}
    (λ x y. comes_before (entry_of_row x) (entry_of_row y))
before_weak = record {
  one_way = λ x y h. comes_before_weak.one_way (entry_of_row x) (entry_of_row y) h;
  chain =
      λ x y z h k. comes_before_weak.chain (entry_of_row x) (entry_of_row y) (entry_of_row z) h k;
}

-- the entries and the names of rows stay where the rows change places
pub indexed_rows : (symbols : List SymbolEntry) (rows sorted : List ViewSymbol)
    → AreListed symbols rows → IsPermutation rows sorted
    → IsSortedBy (λ x y. comes_before (entry_of_row x) (entry_of_row y)) sorted
    → (addresses : List ℕ) → addresses ≡ map (λ r. r.addr) sorted
    → AreRowsOf symbols sorted addresses
indexed_rows symbols rows sorted listed moved rises addresses are =
    record {
      indexed = record {
        sorted = sorted_shown entry_of_row comes_before sorted rises;
        listed = subst (λ es. IsPermutation es (map entry_of_row sorted)) listed.entries
            (IsPermutation-map entry_of_row rows sorted moved);
      };
      named =
          All-permutation (λ (r : ViewSymbol). option_map without_letter (slice_get symbols r.place)
          ≡ Some (symbol_of_row r)) rows sorted moved listed.named;
      starts = are;
    }

-- the addresses of such rows rise
pub rising_starts : (symbols : List SymbolEntry) (rows : List ViewSymbol) (addresses : List ℕ)
    → AreRowsOf symbols rows addresses → IsNonDecreasingBy (λ a. a) addresses
rising_starts symbols rows addresses are =
    subst (λ ns. IsNonDecreasingBy (λ a. a) ns) (sym are.starts) (λ i j d le lt.
    let same = length-map rows (λ (r : ViewSymbol). r.addr) in
    let entries = length-map rows entry_of_row in
    let within : j < length rows = omega (arith, same, lt) in
    let (x, at) = slice_get_some rows j within in
    subst (λ a. a ≤ get_or (map (λ (r : ViewSymbol). r.addr) rows) j d)
    (sym (get_or-map (λ (r : ViewSymbol). r.addr) rows i x d (omega (arith, le, within))))
    (subst (λ a. (get_or rows i x).addr ≤ a)
    (sym (get_or-map (λ (r : ViewSymbol). r.addr) rows j x d within))
    (subst (λ (e : IndexEntry). e.addr ≤ (get_or rows j x).addr)
    (get_or-map entry_of_row rows i x (entry_of_row x) (omega (arith, le, within)))
    (subst (λ (e : IndexEntry). (get_or (map entry_of_row rows) i (entry_of_row x)).addr ≤ e.addr)
    (get_or-map entry_of_row rows j x (entry_of_row x) within)
    (rising symbols (map entry_of_row rows) are.indexed i j (entry_of_row x) le
    (omega (arith, entries, within)))))))

-- ---- what grows by so much with each number

fewer_below : (f g : ℕ → ℕ) → ((k : ℕ) → f (k + 1) ≡ f k + g k) → (k m : ℕ) → f k ≤ f (k + m)
fewer_below f g next k zero = let e : k + 0 ≡ k = omega arith in
    subst (λ n. f k ≤ f n) (sym e) (omega arith)
fewer_below f g next k (suc m) =
    let before = fewer_below f g next k m in
    let more = next (k + m) in
    let e : k + suc m ≡ k + m + 1 = omega arith in
    subst (λ n. f k ≤ f n) (sym e) (omega (arith, before, more))

most_below : (f g : ℕ → ℕ) → ((k : ℕ) → f (k + 1) ≡ f k + g k) → (k n : ℕ) → k ≤ n
    → f k + g k ≤ f (n + 1)
most_below f g next k n le =
    let m : ℕ = n - k in
    let e : k + 1 + m ≡ n + 1 = omega (arith, le) in
    let all = subst (λ i. f (k + 1) ≤ f i) e (fewer_below f g next (k + 1) m) in
    let more = next k in
    omega (arith, all, more)

-- ---- the symbols of one module after the other

pub one_symbols_more : (c : CatalogEntries) (k : ℕ)
    → symbols_below c (k + 1) ≡ symbols_below c k ++ symbols_at c k
one_symbols_more c k =
    ap (flat_map (symbols_at c)) (range-append_from_zero k 1)
    ∙ flat_map-append (symbols_at c) (range_with_len 0 k) (k ∷ [])
    ∙ ap (λ l. symbols_below c k ++ l)
    (let e : symbols_at c k ++ [] ≡ symbols_at c k = append-nil (symbols_at c k) in e)

pub more_symbols : (c : CatalogEntries) (k : ℕ)
    → length (symbols_below c (k + 1)) ≡ length (symbols_below c k) + length (symbols_at c k)
more_symbols c k =
    ap length (one_symbols_more c k) ∙ length-append (symbols_below c k) (symbols_at c k)

-- the symbols up to a module are no more than those of all
pub symbols_most : (c : CatalogEntries) (k : ℕ) → k ≤ length c.modules
    → length (symbols_below c k) + length (symbols_at c k) ≤ length (symbols_of c)
symbols_most c k le =
    most_below (λ n. length (symbols_below c n)) (λ n. length (symbols_at c n)) (more_symbols c) k
    (length c.modules) le

pub more_items : (c : CatalogEntries) (k : ℕ)
    → length (items_below c (k + 1)) ≡ length (items_below c k) + length (items_at c k)
more_items c k = ap length (one_number_more c k) ∙ length-append (items_below c k) (items_at c k)

-- a number without a module adds nothing, and one with a module its regions
pub no_items_more : (c : CatalogEntries) (k : ℕ) → module_of c k ≡ None
    → items_below c (k + 1) ≡ items_below c k
no_items_more c k none =
    one_number_more c k
    ∙ ap (λ o. items_below c k ++ option_map_or (λ m. map (item_of k) m.regions) o []) none
    ∙ append-nil (items_below c k)

pub items_of_module : (c : CatalogEntries) (k : ℕ) (m : ModuleEntry) → module_of c k ≡ Some m
    → length (items_at c k) ≡ length m.regions
items_of_module c k m there =
    ap (λ o. length (option_map_or (λ m. map (item_of k) m.regions) o [])) there
    ∙ length-map m.regions (item_of k)

-- and so are the items
pub items_most : (c : CatalogEntries) (k : ℕ) → k ≤ length c.modules
    → length (items_below c k) + length (items_at c k) ≤ length (items_of c)
items_most c k le =
    most_below (λ n. length (items_below c n)) (λ n. length (items_at c n)) (more_items c) k
    (length c.modules) le

-- ---- rows of regions

-- what rises along a list rises along what the list shows
pub rising_shown : {X Y : Type 0} (f : X → Y) (measure : Y → ℕ) (xs : List X)
    → IsNonDecreasingBy (λ x. measure (f x)) xs → IsNonDecreasingBy measure (map f xs)
rising_shown f measure xs rises = λ i j d le lt.
    let same = length-map xs f in
    let within : j < length xs = omega (arith, same, lt) in
    let (x, at) = slice_get_some xs j within in
    subst (λ y. measure y ≤ measure (get_or (map f xs) j d))
    (sym (get_or-map f xs i x d (omega (arith, le, within))))
    (subst (λ y. measure (f (get_or xs i x)) ≤ measure y) (sym (get_or-map f xs j x d within))
    (rises i j x le within))
