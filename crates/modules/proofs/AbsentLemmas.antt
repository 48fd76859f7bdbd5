-- A number above that of the regions is no module's.
use Rattle.modules.proofs.Words.{◌≡◌, ℕ, suc, ◌≤◌, List, [], ◌∷◌, ◌++◌, length, flat_map, Option}
use Rattle.modules.proofs.Words.{Some, None, arith, length-append, All, option_to_list}
use Rattle.modules.proofs.Words.{common_steps, nat_tests}
use Rattle.modules.proofs.Lemmas.{All-head, All-tail, slice_get_past}
use Rattle.modules.proofs.Definitions.{placed_module_of, module_of, regions_of, IsNoneAbsent}
use Rattle.modules.proofs.Definitions.{IsSoundCatalog, CatalogEntries, ModuleEntry, IsPlaced}

abbrev IsPlacedEntry : ModuleEntry → Type 0
IsPlacedEntry m = IsPlaced (placed_module_of m)

-- each module has a region at least
as_many_regions : (ms : List ModuleEntry) → All IsPlacedEntry ms
    → length ms ≤ length (flat_map (λ m. m.regions) ms)
as_many_regions [] all = omega arith
as_many_regions (m ∷ ms) all = grind (
  arith,
  All-head,
  All-tail,
  length-append,
  as_many_regions ms (All-tail IsPlacedEntry m ms all),
  common_steps,
  nat_tests,
)

no_more_modules : (built_in : Option ModuleEntry) (ms : List ModuleEntry)
    → All IsPlacedEntry (option_to_list built_in ++ ms)
    → length ms ≤ length (flat_map (λ m. m.regions) (option_to_list built_in ++ ms))
no_more_modules None ms all = as_many_regions ms all
no_more_modules (Some m) ms all =
    grind (arith, common_steps, nat_tests, as_many_regions, as_many_regions (m ∷ ms) all)

none_from : (c : CatalogEntries) (place : ℕ) → IsSoundCatalog c → length (regions_of c) ≤ place
    → module_of c (suc place) ≡ None
none_from c place sound few = grind (arith, no_more_modules, slice_get_past)

pub none_absent : (c : CatalogEntries) → IsSoundCatalog c → IsNoneAbsent c
none_absent c sound few = none_from c 4294967294 sound (omega (arith, few))
