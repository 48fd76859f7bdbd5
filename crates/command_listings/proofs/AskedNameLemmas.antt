-- Where the last byte of its kind stands, and where a symbol that was found ends.
use Rattle.command_listings.proofs.Words.{◌≡◌, ◌∙◌, ℕ, zero, suc, ◌+◌, ◌-◌, ◌<◌, ◌≤◌, ◌==◌, true}
use Rattle.command_listings.proofs.Words.{false, cond, List, [], ◌∷◌, length, take, drop, Option}
use Rattle.command_listings.proofs.Words.{Some, None, refl, sym, ap, arith, subst, nat_le, nat_lt}
use Rattle.command_listings.proofs.Words.{⊎_elim, option_and_then, and_parts, false_from_ne_true}
use Rattle.command_listings.proofs.Words.{ltb-true, filter_passes, Nowhere, Passes, is_byte, Item}
use Rattle.command_listings.proofs.Words.{module_of, CatalogEntries, ModuleEntry, SymbolEntry}
use Rattle.command_listings.proofs.Words.{Found, IsFound, found_in, symbol_at, symbols_from, holds}
use Rattle.command_listings.proofs.Words.{found_by_place, cut_at_last, cut_before, end_of}

-- ---- the last byte

later : (b x : ℕ) (xs : List ℕ) (i n : ℕ) → Nowhere (Passes (is_byte b) (x ∷ xs)) (suc i) (suc n)
    → Nowhere (Passes (is_byte b) xs) i n
later b x xs i n none k low high passes = none (suc k) (omega arith) (omega arith) passes

first_fails : (b x : ℕ) (xs : List ℕ) (n : ℕ) → 0 < n → Nowhere (Passes (is_byte b) (x ∷ xs)) 0 n
    → (x == b) ≡ false
first_fails b x xs n h none = false_from_ne_true (x == b) (none 0 (omega arith) h)

pub no_last : (b : ℕ) (xs : List ℕ) → Nowhere (Passes (is_byte b) xs) 0 (length xs)
    → cut_at_last b xs ≡ None
no_last b [] none = refl
no_last b (x ∷ xs) none =
    let rest : Nowhere (Passes (is_byte b) xs) 0 (length xs) =
    λ k low high passes. none (suc k) (omega arith) (omega arith) passes in
    ap (cut_before b x xs) (no_last b xs rest) ∙ ap (λ t. cond t (Some ([], xs)) None)
    (first_fails b x xs (length (x ∷ xs)) (omega arith) none)

pub last_here : (b : ℕ) (xs : List ℕ) (k : ℕ) → k < length xs → Passes (is_byte b) xs k
    → Nowhere (Passes (is_byte b) xs) (k + 1) (length xs)
    → cut_at_last b xs ≡ Some (take k xs, drop (k + 1) xs)
last_here b [] k h passes none = absurd (omega arith)
last_here b (x ∷ xs) zero h passes none =
    let rest : Nowhere (Passes (is_byte b) xs) 0 (length xs) =
    λ k low high p. none (suc k) (omega arith) (omega arith) p in
    ap (cut_before b x xs) (no_last b xs rest) ∙ ap (λ t. cond t (Some ([], xs)) None) passes
last_here b (x ∷ xs) (suc k) h passes none =
    let shift : suc (k + 1) ≡ suc k + 1 = omega arith in
    let rest : Nowhere (Passes (is_byte b) xs) (k + 1) (length xs) =
    λ j low high p. none (suc j) (omega arith) (omega arith) p in
    ap (cut_before b x xs) (last_here b xs k (omega arith) passes rest)
    ∙ ap (λ n. Some (x ∷ take k xs, drop n (x ∷ xs))) shift

-- ---- where a symbol ends

-- it ends in its region
pub ends_within : (symbols : List SymbolEntry) (start end addr : ℕ) (f : Found) → addr < end
    → found_in (symbols_from symbols start end) end addr ≡ Some f → end_of f ≤ end
ends_within symbols start end addr f below is =
    let own = symbols_from symbols start end in
    let found : IsFound own end addr f =
    rw is at (found_by_place own end addr) in
    let low = found.below in
    ⊎_elim
    (λ last. let size : f.size ≡ end - f.symbol.addr = last.1 in omega arith)
    (λ more.
    let (t, there, above, others, size) = more in
    let (k, within, at) = there in
    let passes : holds (start, end) t.addr ≡ true =
    subst (λ (x : SymbolEntry). holds (start, end) x.addr ≡ true) at
    (filter_passes (λ (s : SymbolEntry). holds (start, end) s.addr) symbols k t within) in
    let high : t.addr < end =
    ltb-true t.addr end (and_parts (nat_le start t.addr) (nat_lt t.addr end) passes).1 in
    omega (arith, size))
    found.reaches

pub ends_in_item : (c : CatalogEntries) (item : Item) (addr : ℕ) (f : Found) → addr < item.b
    → Some f ≡ symbol_at c item addr → end_of f ≤ item.b
ends_in_item c item addr f below is = by (module_of c item.tag) (sym is)
  where
    by : (o : Option ModuleEntry)
        → option_and_then (λ m. found_in (symbols_from m.symbols item.a item.b) item.b addr) o
        ≡ Some f → end_of f ≤ item.b
    by None none = absurd (cc)
    by (Some m) found = ends_within m.symbols item.a item.b addr f below found
