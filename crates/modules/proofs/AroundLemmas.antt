-- The symbol below an address and the address above it.
use Rattle.modules.proofs.Words.{◌≢◌, ◌⊎◌, length, ◌≡◌, ℕ, ◌-◌, ◌<◌, ◌≤◌, true, ◌&&◌, ◌||◌, nat_lt}
use Rattle.modules.proofs.Words.{nat_le, List, get_or, Some, None, Option, refl, ap, ◌∙◌, false}
use Rattle.modules.proofs.Words.{arith, All, find, unwrap_or, list_all, option_map, first_so}
use Rattle.modules.proofs.Words.{second_so, inl, inr, ⊎_elim, list_any}
use Rattle.modules.proofs.Lemmas.{AllPass-from_list_all, leb-true, ltb-true, le-leb, lt-ltb}
use Rattle.modules.proofs.Lemmas.{le_or_past_below, least_above_below, le_unless_past}
use Rattle.modules.proofs.Lemmas.{least_above_past, find-agree, find-passes, list_all-agree}
use Rattle.modules.proofs.Lemmas.{find-has, le_antisymm, cases_lt, and_from, All-contains}
use Rattle.modules.proofs.Lemmas.{list_any_at, list_all-from_AllPass, All-from_find, least_in}
use Rattle.modules.proofs.Lemmas.{find-none, find-first, find-number, le-ltb, lt-leb}
use Rattle.modules.proofs.Lemmas.{false_from_ne_true, le_or_past, least_above}
use Rattle.modules.proofs.Definitions.{address_above, is_nearest, is_next, symbol_below}
use Rattle.modules.proofs.Definitions.{SymbolEntry}

pub below_le : (symbols : List SymbolEntry) (addr : ℕ) (s : SymbolEntry)
    → symbol_below symbols addr ≡ Some s → s.addr ≤ addr
below_le symbols addr s h =
    leb-true s.addr addr (first_so (nat_le s.addr addr) (list_all (λ t. nat_le t.addr s.addr
    || nat_lt addr t.addr) symbols) (find-passes (is_nearest symbols addr) symbols s h))

above_from : (symbols : List SymbolEntry) (addr : ℕ) (o : Option SymbolEntry)
    → find (is_next symbols addr) symbols ≡ o → (end : ℕ) → addr < end
    → addr < unwrap_or (option_map (λ (s : SymbolEntry). s.addr) o) end
above_from symbols addr o h end lt = grind (arith, ltb-true, first_so, find-passes)

pub above_gt : (symbols : List SymbolEntry) (addr end : ℕ) → addr < end
    → addr < unwrap_or (address_above symbols addr) end
above_gt symbols addr end lt =
    above_from symbols addr (find (is_next symbols addr) symbols) refl end lt

-- no symbol lies between the symbol below an address and the address
pub above_same : (symbols : List SymbolEntry) (addr : ℕ) (s : SymbolEntry)
    → symbol_below symbols addr ≡ Some s → address_above symbols s.addr ≡ address_above symbols addr
above_same symbols addr s h =
    let passes = find-passes (is_nearest symbols addr) symbols s h in
    let low : s.addr ≤ addr = below_le symbols addr s h in
    let none : All (λ t. (nat_le t.addr s.addr || nat_lt addr t.addr) ≡ true) symbols =
    AllPass-from_list_all (λ (t : SymbolEntry). nat_le t.addr s.addr || nat_lt addr t.addr)
    symbols (second_so (nat_le s.addr addr)
    (list_all (λ t. nat_le t.addr s.addr || nat_lt addr t.addr) symbols) passes) in
    ap (option_map (λ (t : SymbolEntry). t.addr))
    (find-agree (is_next symbols s.addr) (is_next symbols addr) symbols (λ k d lt.
    let t = get_or symbols k d in
    ap (λ b. b && list_all (λ (u : SymbolEntry). nat_le u.addr s.addr || nat_le t.addr u.addr)
    symbols) (le_or_past_below s.addr addr t.addr low (none k d lt))
    ∙ ap (λ b. nat_lt addr t.addr && b)
    (list_all-agree (λ (u : SymbolEntry). nat_le u.addr s.addr || nat_le t.addr u.addr)
    (λ (u : SymbolEntry). nat_le u.addr addr || nat_le t.addr u.addr) symbols (λ i e l.
    least_above_below s.addr addr t.addr (get_or symbols i e).addr low (none i e l)))))

pub nearest_parts : (symbols : List SymbolEntry) (addr : ℕ) (s : SymbolEntry)
    → is_nearest symbols addr s ≡ true
    → (s.addr ≤ addr) × All (λ t. (nat_le t.addr s.addr || nat_lt addr t.addr) ≡ true) symbols
nearest_parts symbols addr s h = grind (arith, leb-true, AllPass-from_list_all)

pub next_parts : (symbols : List SymbolEntry) (addr : ℕ) (s : SymbolEntry)
    → is_next symbols addr s ≡ true
    → (addr < s.addr) × All (λ t. (nat_le t.addr addr || nat_le s.addr t.addr) ≡ true) symbols
next_parts symbols addr s h = grind (arith, ltb-true, AllPass-from_list_all)

-- the nearest symbols have one address
pub one_nearest : (symbols : List SymbolEntry) (addr : ℕ) (s : SymbolEntry)
    → symbol_below symbols addr ≡ Some s
    → All (λ x. is_nearest symbols addr x ≡ true → x.addr ≡ s.addr) symbols
one_nearest symbols addr s is = λ k d lt passes.
    let x = get_or symbols k d in
    let mine = nearest_parts symbols addr s (find-passes (is_nearest symbols addr) symbols s is) in
    let its = nearest_parts symbols addr x passes in
    le_antisymm
    (le_unless_past x.addr s.addr addr (mine.1 k d lt) its.0)
    (le_unless_past s.addr x.addr addr (find-has (is_nearest symbols addr) symbols s is
    (λ t. (nat_le t.addr x.addr || nat_lt addr t.addr) ≡ true) its.1) mine.0)

-- and so have the next ones
pub one_next : (symbols : List SymbolEntry) (addr : ℕ) (s : SymbolEntry)
    → find (is_next symbols addr) symbols ≡ Some s
    → All (λ x. is_next symbols addr x ≡ true → x.addr ≡ s.addr) symbols
one_next symbols addr s is = grind (
  arith,
  le_antisymm,
  least_above_past,
  next_parts symbols addr s (find-passes (is_next symbols addr) symbols s is),
  find-passes (is_next symbols addr) symbols s is,
  next_parts symbols addr,
  find-has (is_next symbols addr) symbols s is,
)

-- where nothing is found, all symbols lie above the address
pub all_above : (symbols : List SymbolEntry) (addr : ℕ) → symbol_below symbols addr ≡ None
    → All (λ s. addr < s.addr) symbols
all_above symbols addr none = λ k d lt.
    ⊎_elim
    (λ over. over)
    (λ under.
    let some : list_any (λ (s : SymbolEntry). nat_le s.addr addr) symbols ≡ true =
    list_any_at (λ (s : SymbolEntry). nat_le s.addr addr) symbols k d lt
    (le-leb (get_or symbols k d).addr addr under) in
    let best = least_in (λ (s : SymbolEntry). nat_le s.addr addr)
    (λ (s : SymbolEntry). addr - s.addr) symbols some in
    let low : best.0.addr ≤ addr = leb-true best.0.addr addr best.1.passing in
    let near : is_nearest symbols addr best.0 ≡ true =
    and_from (nat_le best.0.addr addr) (list_all (λ (t : SymbolEntry). nat_le t.addr best.0.addr
    || nat_lt addr t.addr) symbols) best.1.passing (list_all-from_AllPass
    (λ (t : SymbolEntry). nat_le t.addr best.0.addr || nat_lt addr t.addr) symbols
    (λ j e l. le_or_past (get_or symbols j e).addr best.0.addr addr (⊎_elim (λ above. inr above)
    (λ below. let less : addr - best.0.addr ≤ addr - (get_or symbols j e).addr =
    best.1.least j e l (le-leb (get_or symbols j e).addr addr below) in
    inl (omega arith)) (cases_lt addr (get_or symbols j e).addr)))) in
    let far : is_nearest symbols addr best.0 ≡ false =
    All-contains (λ (s : SymbolEntry). is_nearest symbols addr s ≡ false) symbols best.0
    (All-from_find (is_nearest symbols addr) symbols none) best.1.there in
    absurd (cc))
    (cases_lt addr (get_or symbols k d).addr)

-- where no next symbol is found, none lies above the address
pub none_over : (symbols : List SymbolEntry) (addr : ℕ) → find (is_next symbols addr) symbols ≡ None
    → All (λ t. t.addr ≤ addr) symbols
none_over symbols addr none = λ k d lt.
    ⊎_elim
    (λ over.
    let some : list_any (λ (s : SymbolEntry). nat_lt addr s.addr) symbols ≡ true =
    list_any_at (λ (s : SymbolEntry). nat_lt addr s.addr) symbols k d lt
    (lt-ltb addr (get_or symbols k d).addr over) in
    let best = least_in (λ (s : SymbolEntry). nat_lt addr s.addr) (λ (s : SymbolEntry). s.addr)
    symbols some in
    let next : is_next symbols addr best.0 ≡ true = and_from (nat_lt addr best.0.addr)
    (list_all (λ (t : SymbolEntry). nat_le t.addr addr || nat_le best.0.addr t.addr) symbols)
    best.1.passing (list_all-from_AllPass (λ (t : SymbolEntry). nat_le t.addr addr || nat_le
    best.0.addr t.addr) symbols (λ j e l. least_above best.0.addr (get_or symbols j e).addr addr
    (⊎_elim (λ above. inr (best.1.least j e l (lt-ltb addr (get_or symbols j e).addr above)))
    (λ below. inl below) (cases_lt addr (get_or symbols j e).addr)))) in
    let not_next : is_next symbols addr best.0 ≡ false =
    All-contains (λ (s : SymbolEntry). is_next symbols addr s ≡ false) symbols best.0
    (All-from_find (is_next symbols addr) symbols none) best.1.there in
    absurd (cc))
    (λ under. under)
    (cases_lt addr (get_or symbols k d).addr)

-- ---- what is found, by places

pub below_none : (symbols : List SymbolEntry) (addr : ℕ) → All (λ t. addr < t.addr) symbols
    → symbol_below symbols addr ≡ None
below_none symbols addr over = grind (arith, find-none, lt-leb)

-- a symbol not above the address with none between them, the first of its address
pub below_found : (symbols : List SymbolEntry) (addr place : ℕ) (s : SymbolEntry)
    → place < length symbols → (get_or symbols place s).addr ≤ addr
    → All (λ t. (t.addr ≤ (get_or symbols place s).addr) ⊎ (addr < t.addr)) symbols
    → ((k : ℕ) → k < place → (get_or symbols k s).addr ≢ (get_or symbols place s).addr)
    → symbol_below symbols addr ≡ Some (get_or symbols place s)
below_found symbols addr place s within low near first =
    let a : ℕ = (get_or symbols place s).addr in
    find-first (is_nearest symbols addr) symbols place s within
    (rw (le-leb a addr low)
    (list_all-from_AllPass (λ (t : SymbolEntry). nat_le t.addr a || nat_lt addr t.addr) symbols
    (λ j t lt. le_or_past (get_or symbols j t).addr a addr (near j t lt))))
    (λ k less. false_from_ne_true (is_nearest symbols addr (get_or symbols k s)) (λ yes.
    let both = nearest_parts symbols addr (get_or symbols k s) yes in
    let upper : a ≤ (get_or symbols k s).addr =
    le_unless_past a (get_or symbols k s).addr addr (both.1 place s within) low in
    first k less
    (⊎_elim (λ le. omega arith) (λ past. absurd (omega arith)) (near k s (omega arith)))))

pub above_none : (symbols : List SymbolEntry) (addr : ℕ) → All (λ t. t.addr ≤ addr) symbols
    → address_above symbols addr ≡ None
above_none symbols addr under = grind (arith, find-none, le-ltb)

-- a symbol above the address with none between them
pub above_found : (symbols : List SymbolEntry) (addr place : ℕ) (s : SymbolEntry)
    → place < length symbols → addr < (get_or symbols place s).addr
    → All (λ t. (t.addr ≤ addr) ⊎ ((get_or symbols place s).addr ≤ t.addr)) symbols
    → address_above symbols addr ≡ Some (get_or symbols place s).addr
above_found symbols addr place s within high near =
    let a : ℕ = (get_or symbols place s).addr in
    find-number (is_next symbols addr) (λ (t : SymbolEntry). t.addr) symbols a
    (λ j t lt yes.
    let both = next_parts symbols addr (get_or symbols j t) yes in
    let upper : (get_or symbols j t).addr ≤ a =
    least_above_past (get_or symbols j t).addr a addr (both.1 place s within) high in
    ⊎_elim (λ le. absurd (omega arith)) (λ le. omega arith) (near j t lt))
    (list_any_at (is_next symbols addr) symbols place s within
    (rw (lt-ltb addr a high)
    (list_all-from_AllPass (λ (u : SymbolEntry). nat_le u.addr addr || nat_le a u.addr) symbols
    (λ j t l. least_above a (get_or symbols j t).addr addr (near j t l)))))
