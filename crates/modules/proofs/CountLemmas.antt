-- Each line is counted once.
use Rattle.modules.proofs.Words.{◌≡◌, ◌≢◌, ℕ, ◌+◌, Bool, true, false, ◌&&◌, cond, List, [], ◌∷◌}
use Rattle.modules.proofs.Words.{◌++◌, length, get_or, map, Option, refl, sym, suc, ◌∙◌, arith, All}
use Rattle.modules.proofs.Words.{count_by, filter, fold, is_none, sum_by, list_any, option_map_or}
use Rattle.modules.proofs.Words.{option_to_list, bytes_eq, first_so, rules, common_steps, nat_tests}
use Rattle.modules.proofs.Lemmas.{and_left, length-map, get_or-map, length-filter, sum_by-cons}
use Rattle.modules.proofs.Lemmas.{list_any_none, count-and_false, count-or, count-or_apart}
use Rattle.modules.proofs.Lemmas.{count_by-either, bytes_eq-one_name}
use Rattle.modules.proofs.Definitions.{Accepted, accepted_of, after_module, names_of}
use Rattle.modules.proofs.Definitions.{built_in_of, catalog_of, catalog_with, counts_of, entries_of}
use Rattle.modules.proofs.Definitions.{entry_for, ModuleEntry, AreDistinctNames, belongs, entry_of}
use Rattle.modules.proofs.Definitions.{is_built_in, is_kept, lies_in, symbols_that, fits}
use Rattle.modules.proofs.Definitions.{kernel_regions, region_fits, BoundNames, ListedModule}
use Rattle.modules.proofs.Definitions.{ListedRegion, ListedSymbol, PlacedModule, are_few}
use Rattle.modules.proofs.Definitions.{lies_in_any}
use Rattle.modules.proofs.AdmissionLemmas.{total, total-after_module}
use Rattle.modules.proofs.SoundnessLemmas.{accepted_good}

pub total-fold : (a : Accepted) (ms : List PlacedModule)
    → total (fold after_module a ms) ≡ total a + length ms
total-fold a [] = omega arith
total-fold a (m ∷ ms) = omega (arith, total-fold (after_module a m) ms, total-after_module a m)

pub modules_counted : (names : Option BoundNames) (modules : List ListedModule)
    (regions : List ListedRegion) (symbols : List ListedSymbol) → let n =
    counts_of names modules regions symbols in
    n.modules + n.double + n.overlap ≡ length modules
modules_counted names modules regions symbols = grind (arith, total-fold, length-map)

-- ---- each kept line is in one module

length-symbols_that : (p : ListedSymbol → Bool) (symbols : List ListedSymbol)
    → length (symbols_that p symbols) ≡ count_by p symbols
length-symbols_that p symbols = length-map (filter p symbols) entry_of ∙ length-filter p symbols

-- how many modules a symbol belongs to
abbrev pub homes : List PlacedModule → ListedSymbol → ℕ
homes lines s = count_by (λ m. belongs m s) lines

zero_for_all : (xs : List ListedSymbol) → sum_by (homes []) xs ≡ 0
zero_for_all [] = refl
zero_for_all (x ∷ xs) = omega (arith, zero_for_all xs, sum_by-cons (homes []) x xs)

sum_of_both : (p : ListedSymbol → Bool) (n : ListedSymbol → ℕ) (xs : List ListedSymbol)
    → sum_by (λ x. cond (p x) 1 0 + n x) xs ≡ count_by p xs + sum_by n xs
sum_of_both p n [] = omega arith
sum_of_both p n (x ∷ xs) = grind (arith, common_steps, sum_by-cons, sum_of_both p n xs)

sum_agree : (f g : ListedSymbol → ℕ) (xs : List ListedSymbol) → ((x : ListedSymbol) → f x ≡ g x)
    → sum_by f xs ≡ sum_by g xs
sum_agree f g [] same = refl
sum_agree f g (x ∷ xs) same =
    omega (arith, sum_agree f g xs same, same x, sum_by-cons f x xs, sum_by-cons g x xs)

-- the symbols of all modules, counted by symbol
pub symbols_by_home : (lines : List PlacedModule) (symbols : List ListedSymbol)
    → sum_by (λ m. count_by (belongs m) symbols) lines ≡ sum_by (homes lines) symbols
symbols_by_home [] symbols = sym (zero_for_all symbols)
symbols_by_home (m ∷ ms) symbols = grind (
  arith,
  common_steps,
  nat_tests,
  sum_of_both,
  sum_by-cons,
  sum_agree,
  symbols_by_home ms symbols,
  sum_of_both (belongs m) (homes ms) symbols,
)

-- a symbol belongs to modules of one name alone
other_name : (m n : PlacedModule) (s : ListedSymbol) → m.name ≢ n.name → belongs m s ≡ true
    → belongs n s ≡ false
other_name m n s differ h = search (rules, and_left, bytes_eq-one_name, first_so)

no_home_left : (m : PlacedModule) (ms : List PlacedModule) (s : ListedSymbol)
    → AreDistinctNames (names_of (m ∷ ms)) → belongs m s ≡ true
    → list_any (λ n. belongs n s) ms ≡ false
no_home_left m ms s distinct h = list_any_none (λ (n : PlacedModule). belongs n s) ms (λ k d lt.
    other_name m (get_or ms k d) s (λ same. distinct 0 (suc k) d.name (omega arith)
    (let n : length (names_of ms) ≡ length ms = length-map ms (λ (l : PlacedModule). l.name) in
    omega arith) (same ∙ sym (get_or-map (λ (l : PlacedModule). l.name) ms k d d.name lt))) h)

distinct_tail : (m : PlacedModule) (ms : List PlacedModule) → AreDistinctNames (names_of (m ∷ ms))
    → AreDistinctNames (names_of ms)
distinct_tail m ms distinct =
    λ i j d lt within. distinct (suc i) (suc j) d (omega arith) (omega arith)

one_home : (lines : List PlacedModule) (s : ListedSymbol) → AreDistinctNames (names_of lines)
    → homes lines s ≡ cond (list_any (λ m. belongs m s) lines) 1 0
one_home [] s distinct = refl
one_home (m ∷ ms) s distinct = grind (
  arith,
  common_steps,
  sum_by-cons,
  count-or,
  distinct_tail,
  no_home_left,
  one_home ms s (distinct_tail m ms distinct),
)

-- a symbol of the kernel itself belongs to no module
unowned : (owner : Option (List ℕ)) (addr : ℕ) (ms : List PlacedModule) → is_none owner ≡ true
    → list_any (λ m. option_map_or (λ name. bytes_eq name m.name) owner false && lies_in m addr) ms
    ≡ false
unowned owner addr ms h = grind (arith, list_any_none)

-- each kept symbol is counted once
pub kept_by_home : (built_in : List (ℕ × ℕ)) (a : Accepted) (symbols : List ListedSymbol)
    → a.built_in ≡ built_in → AreDistinctNames (names_of a.modules)
    → count_by (is_built_in built_in) symbols + sum_by (homes a.modules) symbols
    ≡ count_by (is_kept a) symbols
kept_by_home built_in a [] same distinct = omega arith
kept_by_home built_in a (s ∷ symbols) same distinct = grind (
  arith,
  common_steps,
  nat_tests,
  count-or_apart,
  sum_by-cons,
  kept_by_home built_in a symbols same distinct,
  one_home a.modules s distinct,
  unowned s.owner s.addr a.modules,
  first_so (is_none s.owner) (lies_in_any a.built_in s.addr),
)

sum_of_modules : (symbols : List ListedSymbol) (lines : List PlacedModule)
    → sum_by (λ (m : ModuleEntry). length m.symbols) (map (entry_for symbols) lines)
    ≡ sum_by (λ m. count_by (belongs m) symbols) lines
sum_of_modules symbols [] = refl
sum_of_modules symbols (m ∷ ms) =
    grind (arith, common_steps, sum_by-cons, length-symbols_that, sum_of_modules symbols ms)

-- so that the lists have as many symbols as are kept
pub kept_in_lists : (a : Accepted) (symbols : List ListedSymbol)
    → AreDistinctNames (names_of a.modules)
    → length (symbols_that (is_built_in a.built_in) symbols)
    + sum_by (λ (m : ModuleEntry). length m.symbols) (map (entry_for symbols) a.modules)
    ≡ count_by (is_kept a) symbols
kept_in_lists a symbols distinct =
    grind (arith, length-symbols_that, sum_of_modules, symbols_by_home, kept_by_home)

none_built_in : (symbols : List ListedSymbol) → count_by (is_built_in []) symbols ≡ 0
none_built_in [] = refl
none_built_in (s ∷ symbols) =
    grind (arith, common_steps, sum_by-cons, count-and_false, none_built_in symbols)

sum_of_entries : (built_in : List (ℕ × ℕ)) (symbols : List ListedSymbol) (lines : List PlacedModule)
    → sum_by (λ (m : ModuleEntry). length m.symbols)
    (option_to_list (built_in_of built_in symbols) ++ map (entry_for symbols) lines)
    ≡ count_by (is_built_in built_in) symbols + sum_by (λ m. count_by (belongs m) symbols) lines
sum_of_entries [] symbols lines = omega (arith, none_built_in symbols, sum_of_modules symbols lines)
sum_of_entries (r ∷ rs) symbols lines =
    search (rules, length-symbols_that, sum_of_modules, sum_by-cons)

pub kept_in_one_of : (a : Accepted) (symbols : List ListedSymbol)
    → AreDistinctNames (names_of a.modules)
    → sum_by (λ m. length m.symbols) (entries_of (catalog_with a symbols))
    ≡ count_by (is_kept a) symbols
kept_in_one_of a symbols distinct = grind (arith, sum_of_entries, symbols_by_home, kept_by_home)

pub kept_in_one : (names : Option BoundNames) (modules : List ListedModule)
    (regions : List ListedRegion) (symbols : List ListedSymbol) → All (λ l. fits l ≡ true) modules
    → All (λ l. region_fits l ≡ true) regions → are_few regions ≡ true
    → sum_by (λ m. length m.symbols) (entries_of (catalog_of names modules regions symbols))
    ≡ (counts_of names modules regions symbols).symbols
kept_in_one names modules regions symbols fit regions_fit few =
    kept_in_one_of (accepted_of (kernel_regions names symbols) regions modules) symbols
    (accepted_good names modules regions symbols fit regions_fit).distinct

-- each line is counted once
pub ruleset counted_once = (modules_counted, count_by-either)

pub ruleset either_counted = (count_by-either)
