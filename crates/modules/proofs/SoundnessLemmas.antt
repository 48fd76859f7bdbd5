-- The accepted modules have distinct names and regions that lie apart.
use Rattle.modules.proofs.Words.{◌≡◌, ℕ, ◌+◌, ◌*◌, ◌<◌, ◌≤◌, true, false, ◌&&◌, cond, List, [], ◌∷◌}
use Rattle.modules.proofs.Words.{◌++◌, length, get_or, map, Some, None, Option, refl, sym, ap}
use Rattle.modules.proofs.Words.{subst, sum_by, arith, append_assoc, length-append, All, IfSome}
use Rattle.modules.proofs.Words.{fold, bytes_decides, flat_map, list_any, list_all, option_to_list}
use Rattle.modules.proofs.Words.{bytes_eq, rules, common_steps, nat_tests}
use Rattle.modules.proofs.Lemmas.{append-nil, get_or_append_left, length-map, map-append}
use Rattle.modules.proofs.Lemmas.{flat_map-append, flat_map-map, length-flat_map, All-map, All-nil}
use Rattle.modules.proofs.Lemmas.{All-push, All-head, All-tail, All-cons, list_all-append}
use Rattle.modules.proofs.Lemmas.{list_any_at, all_pairs_push, AllPass-from_list_all, and_from}
use Rattle.modules.proofs.Lemmas.{and_parts, AllPairs-few}
use Rattle.modules.proofs.Definitions.{Accepted, accepted_of, after_module, names_of, none_yet}
use Rattle.modules.proofs.Definitions.{taken_regions, built_in_with, kernel_at, module_with}
use Rattle.modules.proofs.Definitions.{placed_module_of, IsSoundCatalog, built_in_of, catalog_of}
use Rattle.modules.proofs.Definitions.{catalog_with, entry_for, ModuleEntry, SymbolEntry}
use Rattle.modules.proofs.Definitions.{AreDistinctNames, is_built_in, symbols_that, fits}
use Rattle.modules.proofs.Definitions.{region_fits, built_in_region, kernel_regions, BoundNames}
use Rattle.modules.proofs.Definitions.{ListedModule, ListedRegion, ListedSymbol, names_in, IsPlaced}
use Rattle.modules.proofs.Definitions.{PlacedModule, are_few, placed_line, AreSoundModules}
use Rattle.modules.proofs.Definitions.{AreApart, are_beside, is_apart, lie_apart, Core}
use Rattle.modules.proofs.RegionLemmas.{HasFew, IsPlaced-placed, few_placed}

pub turned : (r s : ℕ × ℕ) → is_apart r s ≡ true → is_apart s r ≡ true
turned r s h = grind (arith, nat_tests)

pub AreApart-push : (regions : List (ℕ × ℕ)) (r : ℕ × ℕ) → AreApart regions → r.0 < r.1
    → list_all (is_apart r) regions ≡ true → AreApart (regions ++ r ∷ [])
AreApart-push regions r apart valid beside =
    grind (arith, common_steps, All-push, all_pairs_push, turned, AllPass-from_list_all)

pub AreDistinct-push : (names : List (List ℕ)) (n : List ℕ) → AreDistinctNames names
    → list_any (bytes_eq n) names ≡ false → AreDistinctNames (names ++ n ∷ [])
AreDistinct-push names n distinct absent =
    grind (arith, common_steps, all_pairs_push, list_any_at, bytes_decides)

-- regions that lie beside those taken still do once a region that is apart from them is taken too
pub beside_more : (taken_regions : List (ℕ × ℕ)) (r : ℕ × ℕ) (rs : List (ℕ × ℕ))
    → are_beside taken_regions rs ≡ true → list_all (is_apart r) rs ≡ true
    → are_beside (taken_regions ++ r ∷ []) rs ≡ true
beside_more taken_regions r [] h k = refl
beside_more taken_regions r (x ∷ xs) h k =
    grind (arith, and_parts, list_all-append, and_from, turned, beside_more taken_regions r xs)

-- regions that lie apart, and beside those taken, are taken too
pub AreApart-append : (taken_regions rs : List (ℕ × ℕ)) → AreApart taken_regions
    → All (λ r. r.0 < r.1) rs → lie_apart rs ≡ true → are_beside taken_regions rs ≡ true
    → AreApart (taken_regions ++ rs)
AreApart-append taken_regions [] apart valid lie beside =
    subst AreApart (sym (append-nil taken_regions)) apart
AreApart-append taken_regions (r ∷ rs) apart valid lie beside =
    let lies = and_parts (list_all (is_apart r) rs) (lie_apart rs) lie in
    let besides =
    and_parts (list_all (is_apart r) taken_regions) (are_beside taken_regions rs) beside in
    let one = AreApart-push taken_regions r apart (All-head (λ (x : ℕ × ℕ). x.0 < x.1) r rs valid)
    besides.0 in
    subst AreApart (append_assoc taken_regions (r ∷ []) rs) (AreApart-append
    (taken_regions ++ r ∷ []) rs one (All-tail (λ (x : ℕ × ℕ). x.0 < x.1) r rs valid) lies.1
    (beside_more taken_regions r rs besides.1 lies.0))

pub taken_more : (a : Accepted) (m : PlacedModule)
    → taken_regions (record a { modules = a.modules ++ m ∷ [] }) ≡ taken_regions a ++ m.regions
taken_more a m = grind (arith, flat_map-append, append-nil, append_assoc)

names_more : (a : Accepted) (m : PlacedModule)
    → names_of (a.modules ++ m ∷ []) ≡ names_of a.modules ++ m.name ∷ []
names_more a m = map-append (λ (n : PlacedModule). n.name) a.modules (m ∷ [])

pub AreSoundModules-after_module : (a : Accepted) (m : PlacedModule) → AreSoundModules a
    → IsPlaced m → AreSoundModules (after_module a m)
AreSoundModules-after_module a m good place =
    elim (list_any (bytes_eq m.name) (names_of a.modules)) as (λ b. list_any (bytes_eq m.name)
    (names_of a.modules) ≡ b → AreSoundModules (cond b (record a { double = a.double + 1 })
    (cond (lie_apart m.regions && are_beside (taken_regions a) m.regions)
    (record a { modules = a.modules ++ m ∷ [] }) (record a { overlap = a.overlap + 1 })))) [
      | true ↦ λ _. record { placed = good.placed; distinct = good.distinct; apart = good.apart }
      | false ↦ λ absent.
          elim (lie_apart m.regions && are_beside (taken_regions a) m.regions) as (λ b.
          (lie_apart m.regions && are_beside (taken_regions a) m.regions) ≡ b
          → AreSoundModules (cond b (record a { modules = a.modules ++ m ∷ [] })
          (record a { overlap = a.overlap + 1 }))) [
            | true ↦ λ free.
                let parts =
                and_parts (lie_apart m.regions) (are_beside (taken_regions a) m.regions) free in
                record {
                  placed = All-push IsPlaced a.modules m good.placed place;
                  distinct = subst AreDistinctNames (sym (names_more a m))
                      (AreDistinct-push (names_of a.modules) m.name good.distinct absent);
                  apart = subst AreApart (sym (taken_more a m)) (AreApart-append (taken_regions a)
                      m.regions good.apart place.valid parts.0 parts.1);
                }
            | false ↦ λ _.
                record { placed = good.placed; distinct = good.distinct; apart = good.apart }
          ] refl
    ] refl

pub AreSoundModules-fold : (a : Accepted) (ms : List PlacedModule) → AreSoundModules a
    → All IsPlaced ms → AreSoundModules (fold after_module a ms)
AreSoundModules-fold a [] good all = good
AreSoundModules-fold a (m ∷ ms) good all = AreSoundModules-fold (after_module a m) ms
    (AreSoundModules-after_module a m good (All-head IsPlaced m ms all))
    (All-tail IsPlaced m ms all)

pub AreSoundModules-none : (built_in : List (ℕ × ℕ)) → AreApart built_in
    → AreSoundModules (none_yet built_in)
AreSoundModules-none built_in apart = grind (arith, All-nil, AllPairs-few, append-nil)

-- ---- the regions of the kernel itself

-- a region between two symbols has an address
abbrev IsValid : Option (ℕ × ℕ) → Type 0
IsValid region = IfSome region (λ r. r.0 < r.1)

valid_region : (names : BoundNames) (lines : List ListedSymbol)
    → IsValid (built_in_region names lines)
valid_region names lines = grind arith

apart_listed : (region : Option (ℕ × ℕ)) → IsValid region → AreApart (option_to_list region)
apart_listed region valid = grind arith

pub kernel_apart : (names : Option BoundNames) (lines : List ListedSymbol)
    → AreApart (kernel_regions names lines)
kernel_apart None lines = search (rules, valid_region)
kernel_apart (Some names) lines =
    apart_listed (built_in_region names lines) (valid_region names lines)

pub none_beside : (regions : List (ℕ × ℕ)) → are_beside [] regions ≡ true
none_beside [] = refl
none_beside (r ∷ rs) = none_beside rs

pub all_placed : (regions : List ListedRegion) (modules : List ListedModule)
    → All (λ l. fits l ≡ true) modules → All (λ l. region_fits l ≡ true) regions
    → All IsPlaced (map (placed_line regions) modules)
all_placed regions modules fit regions_fit = All-map IsPlaced (placed_line regions) modules
    (λ k d lt. IsPlaced-placed regions (get_or modules k d) (fit k d lt) regions_fit)

pub accepted_beside : (kernel : List (ℕ × ℕ)) (modules : List ListedModule)
    (regions : List ListedRegion) → AreApart kernel → All (λ l. fits l ≡ true) modules
    → All (λ l. region_fits l ≡ true) regions → AreSoundModules (accepted_of kernel regions modules)
accepted_beside kernel modules regions apart fit regions_fit = AreSoundModules-fold
    (none_yet kernel) (map (placed_line regions) modules) (AreSoundModules-none kernel apart)
    (all_placed regions modules fit regions_fit)

pub accepted_good : (names : Option BoundNames) (modules : List ListedModule)
    (regions : List ListedRegion) (symbols : List ListedSymbol) → All (λ l. fits l ≡ true) modules
    → All (λ l. region_fits l ≡ true) regions
    → AreSoundModules (accepted_of (kernel_regions names symbols) regions modules)
accepted_good names modules regions symbols fit regions_fit =
    accepted_beside (kernel_regions names symbols) modules regions (kernel_apart names symbols) fit
    regions_fit

-- ---- of the catalog

pub built_in_kept : (a : Accepted) (ms : List PlacedModule)
    → (fold after_module a ms).built_in ≡ a.built_in
built_in_kept a [] = refl
built_in_kept a (m ∷ ms) = grind (arith, built_in_kept (after_module a m) ms)

pub built_in_of_accepted : (built_in : List (ℕ × ℕ)) (regions : List ListedRegion)
    (modules : List ListedModule) → (accepted_of built_in regions modules).built_in ≡ built_in
built_in_of_accepted built_in regions modules =
    built_in_kept (none_yet built_in) (map (placed_line regions) modules)

pub module_regions : (symbols : List ListedSymbol) (ms : List PlacedModule)
    → flat_map (λ (m : ModuleEntry). m.regions) (map (entry_for symbols) ms)
    ≡ flat_map (λ (m : PlacedModule). m.regions) ms
module_regions symbols ms = flat_map-map (λ (m : ModuleEntry). m.regions) (entry_for symbols) ms

all_regions : (built_in : List (ℕ × ℕ)) (symbols : List ListedSymbol) (ms : List PlacedModule)
    → flat_map (λ (m : ModuleEntry). m.regions) (option_to_list (built_in_of built_in symbols)
    ++ map (entry_for symbols) ms) ≡ built_in ++ flat_map (λ (m : PlacedModule). m.regions) ms
all_regions built_in symbols ms = grind (arith, module_regions)

pub module_names : (symbols : List ListedSymbol) (ms : List PlacedModule)
    → names_in (map (entry_for symbols) ms) ≡ names_of ms
module_names symbols [] = refl
module_names symbols (m ∷ ms) = ap (λ ns. m.name ∷ ns) (module_names symbols ms)

-- the kernel itself lies in its regions
pub kernel_placed : (r : ℕ × ℕ) (rs : List (ℕ × ℕ)) → All (λ r. r.0 < r.1) (r ∷ rs)
    → IsPlaced (kernel_at (r ∷ rs))
kernel_placed r rs valid =
    record { same = length-map (r ∷ rs) (λ (_ : ℕ × ℕ). Core); some_core = refl; valid = valid }

modules_placed : (symbols : List ListedSymbol) (ms : List PlacedModule) → All IsPlaced ms
    → All (λ m. IsPlaced (placed_module_of m)) (map (entry_for symbols) ms)
modules_placed symbols ms all =
    All-map (λ (m : ModuleEntry). IsPlaced (placed_module_of m)) (entry_for symbols) ms all

entries_placed : (built_in : List (ℕ × ℕ)) (symbols : List ListedSymbol) (ms : List PlacedModule)
    → All (λ r. r.0 < r.1) built_in → All IsPlaced ms → All (λ m. IsPlaced (placed_module_of m))
    (option_to_list (built_in_of built_in symbols) ++ map (entry_for symbols) ms)
entries_placed [] symbols ms valid all = modules_placed symbols ms all
entries_placed (r ∷ rs) symbols ms valid all =
    All-cons (λ (x : ModuleEntry). IsPlaced (placed_module_of x))
    (module_with (kernel_at (r ∷ rs)) (symbols_that (is_built_in (r ∷ rs)) symbols))
    (map (entry_for symbols) ms) (kernel_placed r rs valid) (modules_placed symbols ms all)

pub valid_kernel : (built_in rest : List (ℕ × ℕ)) → All (λ r. r.0 < r.1) (built_in ++ rest)
    → All (λ r. r.0 < r.1) built_in
valid_kernel built_in rest valid =
    λ k d lt. subst (λ (r : ℕ × ℕ). r.0 < r.1) (get_or_append_left built_in rest d k lt)
    (valid k d (omega (arith, length-append built_in rest)))

pub IsSound-catalog_with : (a : Accepted) (symbols : List ListedSymbol) → AreSoundModules a
    → IsSoundCatalog (catalog_with a symbols)
IsSound-catalog_with a symbols good =
    record {
      placed = entries_placed a.built_in symbols a.modules (valid_kernel a.built_in
          (flat_map (λ (m : PlacedModule). m.regions) a.modules) good.apart.valid) good.placed;
      apart = subst AreApart (sym (all_regions a.built_in symbols a.modules)) good.apart;
      distinct = subst AreDistinctNames (sym (module_names symbols a.modules)) good.distinct;
    }

pub IsSound-catalog_of : (names : Option BoundNames) (modules : List ListedModule)
    (regions : List ListedRegion) (symbols : List ListedSymbol) → All (λ l. fits l ≡ true) modules
    → All (λ l. region_fits l ≡ true) regions
    → IsSoundCatalog (catalog_of names modules regions symbols)
IsSound-catalog_of names modules regions symbols fit regions_fit =
    search (rules, IsSound-catalog_with, accepted_good)

-- how many regions the kernel itself and the modules have
pub count_of_regions : (built_in : List (ℕ × ℕ)) (symbols : List SymbolEntry)
    (modules : List ModuleEntry) → length built_in + sum_by (λ m. length m.regions) modules ≡ length
    (flat_map (λ m. m.regions) (option_to_list (built_in_with built_in symbols) ++ modules))
count_of_regions built_in symbols modules =
    grind (arith, length-append, length-flat_map (λ (m : ModuleEntry). m.regions) modules)

-- ---- how many regions

few_after : (a : Accepted) (m : PlacedModule) → All HasFew a.modules → HasFew m
    → All HasFew (after_module a m).modules
few_after a m all few = grind (arith, common_steps, HasFew, All-push)

few_fold : (regions : List ListedRegion) (a : Accepted) (modules : List ListedModule)
    → are_few regions ≡ true → All HasFew a.modules
    → All HasFew (fold after_module a (map (placed_line regions) modules)).modules
few_fold regions a [] few all = all
few_fold regions a (l ∷ ls) few all = few_fold regions (after_module a (placed_line regions l)) ls
    few (few_after a (placed_line regions l) all (few_placed regions l few))

pub accepted_few : (built_in : List (ℕ × ℕ)) (regions : List ListedRegion)
    (modules : List ListedModule) → are_few regions ≡ true
    → All HasFew (accepted_of built_in regions modules).modules
accepted_few built_in regions modules few =
    few_fold regions (none_yet built_in) modules few (All-nil HasFew)

few_entries : (symbols : List ListedSymbol) (ms : List PlacedModule) → All HasFew ms
    → All (λ (m : ModuleEntry). length m.regions ≤ 7) (map (entry_for symbols) ms)
few_entries symbols ms all =
    All-map (λ (m : ModuleEntry). length m.regions ≤ 7) (entry_for symbols) ms all

-- no module of the catalog of listings has more than seven
pub few_in_catalog : (names : Option BoundNames) (modules : List ListedModule)
    (regions : List ListedRegion) (symbols : List ListedSymbol) → are_few regions ≡ true
    → All (λ m. length m.regions ≤ 7) (catalog_of names modules regions symbols).modules
few_in_catalog names modules regions symbols few = grind (arith, few_entries, accepted_few)

-- so many modules of at most seven regions
few_regions : (ms : List PlacedModule) → All HasFew ms
    → length (flat_map (λ (m : PlacedModule). m.regions) ms) ≤ 7 * length ms
few_regions [] all = omega arith
few_regions (m ∷ ms) all = grind
    (arith, All-head, HasFew, All-tail, length-append, few_regions ms (All-tail HasFew m ms all))

count_fold : (a : Accepted) (ms : List PlacedModule)
    → length (fold after_module a ms).modules ≤ length a.modules + length ms
count_fold a [] = omega arith
count_fold a (m ∷ ms) = grind (arith, length-append, count_fold (after_module a m) ms)

-- no more than seven regions a line of a module
pub few_accepted : (built_in : List (ℕ × ℕ)) (regions : List ListedRegion)
    (modules : List ListedModule) → are_few regions ≡ true
    → length (flat_map (λ m. m.regions) (accepted_of built_in regions modules).modules)
    ≤ 7 * length modules
few_accepted built_in regions modules few =
    grind (arith, few_regions, accepted_few, count_fold, length-map)
