-- Each module has 1 to 7 regions.
use Rattle.modules.proofs.Words.{◌≡◌, ℕ, ◌+◌, ◌^◌, ◌<◌, ◌≤◌, true, false, nat_le, cond, List, []}
use Rattle.modules.proofs.Words.{length, get_or, refl, sym, ap, ◌∙◌, ⊎_elim, arith, All}
use Rattle.modules.proofs.Words.{bytes_decides, bytes_eq, nat_tests}
use Rattle.modules.proofs.Lemmas.{leb-true, length-map, All-nil, All-cons, All-map, All-filter}
use Rattle.modules.proofs.Lemmas.{AllPass-from_list_all, some_passes}
use Rattle.modules.proofs.Definitions.{region_line_region, fits, is_region, region_fits}
use Rattle.modules.proofs.Definitions.{module_line_region, ListedModule, ListedRegion, Core}
use Rattle.modules.proofs.Definitions.{is_core, IsPlaced, PlacedModule, are_few, has_core}
use Rattle.modules.proofs.Definitions.{lines_named, placed_line, placed_alone, placed_by}
use Rattle.modules.proofs.ByNameLemmas.{any_mapped}

pub region_parts : (base size : ℕ) → is_region base size ≡ true
    → (base < base + size) × (base + size < 2 ^ 64)
region_parts base size h = (grind (arith, nat_tests), grind (arith, nat_tests))

-- where no name has more than seven lines, this one has not
pub few_named : (regions : List ListedRegion) (name : List ℕ) → are_few regions ≡ true
    → length (lines_named name regions) ≤ 7
few_named regions name few =
    ⊎_elim
    (λ empty. omega arith)
    (λ some.
    let d : ListedRegion = record { name = name; part = Core; base = 0; size = 0 } in
    let is : (get_or regions some.0 d).name ≡ name =
    (bytes_decides (get_or regions some.0 d).name name).0 (some.2 d) in
    let at : nat_le (length (lines_named (get_or regions some.0 d).name regions)) 7 ≡ true =
    AllPass-from_list_all (λ (r : ListedRegion). nat_le (length (lines_named r.name regions)) 7)
    regions few some.0 d some.1 in
    leb-true (length (lines_named name regions)) 7
    (ap (λ (n : List ℕ). nat_le (length (lines_named n regions)) 7) (sym is) ∙ at))
    (some_passes (λ (r : ListedRegion). bytes_eq r.name name) regions)

placed_in_lines : (lines : List ListedRegion) (line : ListedModule) → has_core lines ≡ true
    → All (λ l. region_fits l ≡ true) lines → IsPlaced (placed_by lines line)
placed_in_lines lines line core fit =
    record {
      same = length-map lines (λ (r : ListedRegion). r.part)
          ∙ sym (length-map lines region_line_region);
      some_core = any_mapped is_core (λ (r : ListedRegion). r.part) lines ∙ core;
      valid = All-map (λ (r : ℕ × ℕ). r.0 < r.1) region_line_region lines
          (λ k d lt. (region_parts (get_or lines k d).base (get_or lines k d).size (fit k d lt)).0);
    }

placed_in_one : (line : ListedModule) → fits line ≡ true → IsPlaced (placed_alone line)
placed_in_one line fit = record {
  same = refl;
  some_core = refl;
  valid = All-cons (λ (x : ℕ × ℕ). x.0 < x.1) (module_line_region line) []
      (region_parts line.base line.size fit).0 (All-nil (λ (x : ℕ × ℕ). x.0 < x.1));
}

pub IsPlaced-placed : (regions : List ListedRegion) (line : ListedModule) → fits line ≡ true
    → All (λ l. region_fits l ≡ true) regions → IsPlaced (placed_line regions line)
IsPlaced-placed regions line fit regions_fit =
    let own : List ListedRegion = lines_named line.name regions in
    elim (has_core own) as (λ b. has_core own ≡ b
    → IsPlaced (cond b (placed_by own line) (placed_alone line))) [
      | true ↦ λ core. placed_in_lines own line core
          (All-filter (λ (r : ListedRegion). bytes_eq r.name line.name)
          (λ (l : ListedRegion). region_fits l ≡ true) regions regions_fit)
      | false ↦ λ _. placed_in_one line fit
    ] refl

-- the module has at most seven regions
abbrev pub HasFew : PlacedModule → Type 0
HasFew m = length m.regions ≤ 7

pub few_placed : (regions : List ListedRegion) (line : ListedModule) → are_few regions ≡ true
    → HasFew (placed_line regions line)
few_placed regions line few = grind (arith, length-map, few_named)
