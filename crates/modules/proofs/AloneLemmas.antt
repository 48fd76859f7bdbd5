-- The modules of symbols alone lie apart, and have distinct names.
use Rattle.modules.proofs.Words.{◌≡◌, ◌≢◌, ℕ, count_by, sum_by, ◌-◌, ◌^◌, ◌<◌, Bool, true, false}
use Rattle.modules.proofs.Words.{◌||◌, nat_le, nat_lt, cond, List, [], ◌∷◌, ◌++◌, length, get_or}
use Rattle.modules.proofs.Words.{map, Option, Some, None, refl, sym, ap, subst, ◌∙◌, arith, All}
use Rattle.modules.proofs.Words.{filter, fold, first_so, second_so, AllPairs, flat_map, list_any}
use Rattle.modules.proofs.Words.{option_to_list, bytes_eq, rules, nat_tests}
use Rattle.modules.proofs.Lemmas.{and_parts, cases_lt, le-leb, leb-true, ltb-true, or_cases}
use Rattle.modules.proofs.Lemmas.{or_left, get_or-map, length-map, All-append, All-contains}
use Rattle.modules.proofs.Lemmas.{All-filter, All-head, All-nil, All-cons, All-push, All-tail}
use Rattle.modules.proofs.Lemmas.{filter_passes, list_any_at, AllPass-from_list_all, AllPairs-cons}
use Rattle.modules.proofs.Lemmas.{AllPairs-few, count_by-either, find-has, find-passes}
use Rattle.modules.proofs.Definitions.{Accepted, catalog_with, entries_of, is_kept, names_of}
use Rattle.modules.proofs.Definitions.{HasItsRegions, IsFromSymbols, is_kept_line, owner_names}
use Rattle.modules.proofs.Definitions.{with_name, AreDistinctNames, is_built_in, lies_in}
use Rattle.modules.proofs.Definitions.{HaveFirstLines, kernel_regions, BoundNames, ListedSymbol}
use Rattle.modules.proofs.Definitions.{is_nearest_line, is_outside, module_of_address, post_below}
use Rattle.modules.proofs.Definitions.{posts, is_core, IsPlaced, PlacedModule, AreSoundModules}
use Rattle.modules.proofs.Definitions.{AreApart, holds, is_apart, lies_in_any, Core}
use Rattle.modules.proofs.KeptOrderLemmas.{first_lines}
use Rattle.modules.proofs.SpacedLemmas.{is_of, Range, inside, pairs_first, pairs_rest, within}
use Rattle.modules.proofs.FilterLemmas.{all_of_passing}
use Rattle.modules.proofs.PostLemmas.{found_outside, owned}
use Rattle.modules.proofs.SoundnessLemmas.{AreDistinct-push, kernel_apart}
use Rattle.modules.proofs.CountLemmas.{kept_in_one_of}

All-flat_map : {X Y : Type 0} (f : X → List Y) (P : Y → Type 0) (xs : List X)
    → All (λ x. All P (f x)) xs → All P (flat_map f xs)
All-flat_map f P [] all = All-nil P
All-flat_map f P (x ∷ xs) all =
    All-append P (f x) (flat_map f xs) (All-head (λ y. All P (f y)) x xs all)
    (All-flat_map f P xs (All-tail (λ y. All P (f y)) x xs all))

-- ---- a module and the kernel itself

abbrev is_post : List Range → ListedSymbol → Bool
is_post kernel l = is_built_in kernel l || is_outside kernel l

-- no address of one of the kernel's regions is a module's
kernel_owns : (kernel : List Range) (lines : List ListedSymbol) (k : ℕ) (d : Range) (addr : ℕ)
    (name : List ℕ) → HaveFirstLines kernel lines → k < length kernel
    → holds (get_or kernel k d) addr ≡ true
    → module_of_address (posts kernel lines) addr ≡ Some name → ⊥
kernel_owns kernel lines k d addr name has lt in' h =
    let r : Range = get_or kernel k d in
    let kept = posts kernel lines in
    let (l, found, reached, its) = owned kept addr name (post_below kept addr) h in
    let near : is_nearest_line kept addr l ≡ true =
    find-passes (is_nearest_line kept addr) kept l found in
    let out : lies_in_any kernel l.addr ≡ false =
    found_outside [] lines kernel (is_nearest_line kept addr) l name found its in
    let held : (x : ℕ) → holds r x ≡ true → lies_in_any kernel x ≡ true =
    λ x in_r. list_any_at (λ s. holds s x) kernel k d lt in_r in
    let (nonempty, first) = has k d lt in
    let (t, there, unowned, at_start) = first in
    let clear : All (λ t. (nat_le t.addr l.addr || nat_lt addr t.addr) ≡ true) kept =
    AllPass-from_list_all (λ (t : ListedSymbol). nat_le t.addr l.addr || nat_lt addr t.addr)
    kept (second_so (nat_le l.addr addr) _ near) in
    let valid = inside r addr in' in
    let here : lies_in_any kernel t.addr ≡ true =
    held t.addr (within r t.addr (omega (arith, at_start)) (omega (arith, at_start))) in
    let start : is_post kernel t ≡ true =
    or_left (is_built_in kernel t) (is_outside kernel t) (rw unowned here) in
    let cleared : (nat_le t.addr l.addr || nat_lt addr t.addr) ≡ true =
    All-contains (λ (u : ListedSymbol). is_post kernel u ≡ true → (nat_le u.addr l.addr
    || nat_lt addr u.addr) ≡ true) lines t (all_of_passing (is_post kernel)
    (λ u. (nat_le u.addr l.addr || nat_lt addr u.addr) ≡ true) lines clear) there start in
    grind (
      arith,
      Range,
      find-passes,
      find-has,
      filter_passes,
      list_any_at,
      AllPass-from_list_all,
      second_so,
      inside,
      within,
      or_left,
      All-contains,
      all_of_passing,
      leb-true,
      first_so,
      ltb-true,
      or_cases,
    )

-- ---- each module has a kept line

-- an address is that of the module of this name
abbrev HasAddress : List ListedSymbol → List ℕ → Type 0
HasAddress lines name =
    (addr : ℕ) × (addr < 2 ^ 64 - 1) × (module_of_address lines addr ≡ Some name)

below_top : (kernel : List Range) (l : ListedSymbol) (name : List ℕ) → l.owner ≡ Some name
    → is_post kernel l ≡ true → l.addr < 2 ^ 64 - 1
below_top kernel l name own h = grind (arith, ltb-true, and_parts, or_cases)

module _ (kernel : List Range) (lines : List ListedSymbol) where
  kept_owner : (l : ListedSymbol) (o : Option (List ℕ)) → l.owner ≡ o → is_post kernel l ≡ true
      → is_kept_line lines l ≡ true → All (HasAddress lines) (option_to_list o)
  kept_owner l None own post kept = All-nil (HasAddress lines)
  kept_owner l (Some name) own post kept = grind (arith, is_of, All-cons, below_top, All-nil)

  kept_owners : (ls : List ListedSymbol) → All (λ l. is_post kernel l ≡ true) ls
      → All (λ l. is_kept_line lines l ≡ true) ls
      → All (HasAddress lines) (flat_map (λ l. option_to_list l.owner) ls)
  kept_owners ls posts kept =
      All-flat_map (λ (l : ListedSymbol). option_to_list l.owner) (HasAddress lines) ls
      (λ k d lt. kept_owner (get_or ls k d) (get_or ls k d).owner refl (posts k d lt) (kept k d lt))

all_names : (P : List ℕ → Type 0) (names acc : List (List ℕ)) → All P names → All P acc
    → All P (fold with_name acc names)
all_names P [] acc every all = all
all_names P (n ∷ ns) acc every all =
    let more : All P (with_name acc n) = elim (list_any (bytes_eq n) acc) as (λ b. All P (cond b acc
    (acc ++ n ∷ []))) [ true ↦ all | false ↦ All-push P acc n all (All-head P n ns every) ] in
    all_names P ns (with_name acc n) (All-tail P n ns every) more

distinct_names : (names acc : List (List ℕ)) → AreDistinctNames acc
    → AreDistinctNames (fold with_name acc names)
distinct_names [] acc distinct = distinct
distinct_names (n ∷ ns) acc distinct =
    let more : AreDistinctNames (with_name acc n) = elim (list_any (bytes_eq n) acc) as (λ b.
    list_any (bytes_eq n) acc ≡ b → AreDistinctNames (cond b acc (acc ++ n
    ∷ []))) [ true ↦ λ _. distinct | false ↦ λ absent. AreDistinct-push acc n distinct absent ]
    refl in
    distinct_names ns (with_name acc n) more

named_addresses : (kernel : List Range) (lines : List ListedSymbol)
    → All (HasAddress (posts kernel lines)) (owner_names (posts kernel lines))
named_addresses kernel lines =
    let ps : List ListedSymbol = posts kernel lines in
    let kept : List ListedSymbol = filter (is_kept_line ps) ps in
    all_names (HasAddress ps) (flat_map (λ l. option_to_list l.owner) kept) []
    (kept_owners kernel ps kept (All-filter (is_kept_line ps) (λ l. is_post kernel l ≡ true) ps
    (filter_passes (is_post kernel) lines)) (filter_passes (is_kept_line ps) ps))
    (All-nil (HasAddress ps))

placed : (lines : List ListedSymbol) (m : PlacedModule) → HasItsRegions lines m
    → HasAddress lines m.name → IsPlaced m
placed lines m its (addr, lt, is) =
    record {
      same = ap length its.parts ∙ length-map m.regions (λ (r : Range). Core);
      some_core = ap (list_any is_core) its.parts ∙ some m.regions ((its.exact addr).1 (lt, is));
      valid = its.valid;
    }
  where
    some : (rs : List Range) → list_any (λ r. holds r addr) rs ≡ true
        → list_any is_core (map (λ _. Core) rs) ≡ true
    some [] h = absurd (cc)
    some (r ∷ rs) h = refl

-- ---- regions that lie apart

apart_or_meet : (r s : Range) → r.0 < r.1 → s.0 < s.1
    → ((x : ℕ) → holds r x ≡ true → holds s x ≡ true → ⊥) → is_apart r s ≡ true
apart_or_meet r s r_valid s_valid none =
    grind (arith, nat_tests, cases_lt r.0 s.0, within, none r.0, none s.0)

-- no address lies in the region and in the module
abbrev IsClear : Range → PlacedModule → Type 0
IsClear r m = (x : ℕ) → holds r x ≡ true → lies_in m x ≡ true → ⊥

abbrev AreValid : PlacedModule → Type 0
AreValid m = All (λ r. r.0 < r.1) m.regions

apart_from_module : (r : Range) (m : PlacedModule) → r.0 < r.1 → AreValid m → IsClear r m
    → All (λ s. is_apart r s ≡ true) m.regions
apart_from_module r m r_valid valid clear = grind (arith, apart_or_meet, list_any_at)

apart_from_modules : (r : Range) (ms : List PlacedModule) → r.0 < r.1 → All AreValid ms
    → All (IsClear r) ms → All (λ s. is_apart r s ≡ true) (flat_map (λ m. m.regions) ms)
apart_from_modules r ms r_valid valid clear =
    All-flat_map (λ (m : PlacedModule). m.regions) (λ s. is_apart r s ≡ true) ms
    (λ k d lt. apart_from_module r (get_or ms k d) r_valid (valid k d lt) (clear k d lt))

all_valid : (ms : List PlacedModule) → All AreValid ms
    → All (λ r. r.0 < r.1) (flat_map (λ m. m.regions) ms)
all_valid ms valid =
    All-flat_map (λ (m : PlacedModule). m.regions) (λ (r : Range). r.0 < r.1) ms valid

pairs_append : {X : Type 0} (R : X → X → Type 0) (xs ys : List X) → AllPairs R xs → AllPairs R ys
    → All (λ x. All (R x) ys) xs → AllPairs R (xs ++ ys)
pairs_append R [] ys of_xs of_ys across = of_ys
pairs_append R (x ∷ xs) ys of_xs of_ys across =
    AllPairs-cons R x (xs ++ ys)
    (All-append (R x) xs ys (pairs_first R x xs of_xs) (All-head (λ z. All (R z) ys) x xs across))
    (pairs_append R xs ys (pairs_rest R x xs of_xs) of_ys
    (All-tail (λ z. All (R z) ys) x xs across))

spaced_apart : (rs : List Range) → AllPairs (λ r s. r.1 < s.0) rs
    → AllPairs (λ r s. is_apart r s ≡ true) rs
spaced_apart rs spaced = λ i j d less lt. let gap : (get_or rs i d).1 < (get_or rs j d).0 =
    spaced i j d less lt in
    or_left (nat_le (get_or rs i d).1 (get_or rs j d).0) (nat_le (get_or rs j d).1
    (get_or rs i d).0) (le-leb (get_or rs i d).1 (get_or rs j d).0 (omega arith))

module _ (lines : List ListedSymbol) where
  valid_in : (ms : List PlacedModule) → All (HasItsRegions lines) ms → All AreValid ms
  valid_in ms all = λ k d lt. (all k d lt).valid

  -- two modules of two names have no address in common
  two_clear : (m n : PlacedModule) (r : Range) → HasItsRegions lines m → HasItsRegions lines n
      → m.name ≢ n.name → ((x : ℕ) → holds r x ≡ true → lies_in m x ≡ true) → IsClear r n
  two_clear m n r of_m of_n other within_m = grind arith

  apart_modules : (ms : List PlacedModule) → All (HasItsRegions lines) ms
      → AreDistinctNames (names_of ms)
      → AllPairs (λ r s. is_apart r s ≡ true) (flat_map (λ m. m.regions) ms)
  apart_modules [] all distinct =
      AllPairs-few (λ (r s : Range). is_apart r s ≡ true) [] (omega arith)
  apart_modules (m ∷ ms) all distinct =
      let its = All-head (HasItsRegions lines) m ms all in
      let rest = All-tail (HasItsRegions lines) m ms all in
      let others : All (λ name. m.name ≢ name) (names_of ms) =
      pairs_first (λ (x y : List ℕ). x ≢ y) m.name (names_of ms) distinct in
      pairs_append (λ (r s : Range). is_apart r s ≡ true) m.regions
      (flat_map (λ (n : PlacedModule). n.regions) ms)
      (spaced_apart m.regions its.longest)
      (apart_modules ms rest (pairs_rest (λ (x y : List ℕ). x ≢ y) m.name (names_of ms) distinct))
      (λ k d lt.
      let r : Range = get_or m.regions k d in
      apart_from_modules r ms (its.valid k d lt) (valid_in ms rest) (λ j n less.
      two_clear m (get_or ms j n) r its (rest j n less)
      (subst (λ (name : List ℕ). m.name ≢ name)
      (get_or-map (λ (x : PlacedModule). x.name) ms j n [] less)
      (others j [] (omega (arith, length-map ms (λ (x : PlacedModule). x.name)))))
      (λ x h. list_any_at (λ s. holds s x) m.regions k d lt h)))

-- ---- all of it

with_kernel : (kernel rs : List Range) → AreApart kernel
    → All (λ k. All (λ s. is_apart k s ≡ true) rs) kernel → All (λ r. r.0 < r.1) rs
    → AllPairs (λ r s. is_apart r s ≡ true) rs → AreApart (kernel ++ rs)
with_kernel kernel rs first across valid apart = search (rules, All-append, pairs_append)

across_kernel : (kernel : List Range) (lines : List ListedSymbol) (ms : List PlacedModule)
    → HaveFirstLines kernel lines → All (HasItsRegions (posts kernel lines)) ms
    → All (λ k. All (λ s. is_apart k s ≡ true) (flat_map (λ m. m.regions) ms)) kernel
across_kernel kernel lines ms has all = λ k d within.
    apart_from_modules (get_or kernel k d) ms (has k d within).0
    (valid_in (posts kernel lines) ms all) (λ j m lt x h i.
    kernel_owns kernel lines k d x (get_or ms j m).name has within h (((all j m lt).exact x).0 i).1)

pub sound_alone : (names : Option BoundNames) (lines : List ListedSymbol) (a : Accepted)
    → IsFromSymbols names lines a → AreSoundModules a
sound_alone names lines a h =
    let kernel : List Range = kernel_regions names lines in
    let ps : List ListedSymbol = posts kernel lines in
    let ms : List PlacedModule = a.modules in
    let addresses : All (HasAddress ps) (names_of ms) =
    subst (All (HasAddress ps)) (sym h.named) (named_addresses kernel lines) in
    let distinct : AreDistinctNames (names_of ms) = subst AreDistinctNames (sym h.named)
    (distinct_names (flat_map (λ l. option_to_list l.owner) (filter (is_kept_line ps) ps)) []
    (AllPairs-few (λ (x y : List ℕ). x ≢ y) [] (omega arith))) in
    record {
      placed = λ k d lt. placed ps (get_or ms k d) (h.regions k d lt)
          (subst (HasAddress ps) (get_or-map (λ (m : PlacedModule). m.name) ms k d [] lt)
          (addresses k [] (omega (arith, length-map ms (λ (m : PlacedModule). m.name)))));
      apart =
          subst (λ (k : List Range). AreApart (k ++ flat_map (λ m. m.regions) ms)) (sym h.kernel)
          (with_kernel kernel (flat_map (λ m. m.regions) ms) (kernel_apart names lines)
          (across_kernel kernel lines ms (first_lines names lines) h.regions)
          (all_valid ms (valid_in ps ms h.regions)) (apart_modules ps ms h.regions distinct));
      distinct = distinct;
    }

pub kept_alone : (names : Option BoundNames) (lines : List ListedSymbol) (a : Accepted)
    → IsFromSymbols names lines a
    → sum_by (λ m. length m.symbols) (entries_of (catalog_with a lines))
    ≡ count_by (is_kept a) lines
kept_alone names lines a h = kept_in_one_of a lines (sound_alone names lines a h).distinct

-- each line is counted once
pub ruleset alone_counted = (kept_alone, count_by-either)
