-- The items of a catalog are its regions.
use Rattle.modules.proofs.Words.{◌≡◌, ℕ, suc, ◌+◌, List, [], ◌∷◌, ◌++◌, length, map, flat_map, Some}
use Rattle.modules.proofs.Words.{refl, ◌∙◌, ap, subst, arith, append-nil, add-one, slice_get}
use Rattle.modules.proofs.Words.{range_with_len, option_map_or, common_steps, nat_tests}
use Rattle.modules.proofs.Lemmas.{map-append, flat_map-append, range-append_from_zero}
use Rattle.modules.proofs.Definitions.{Item, module_of, regions_of, CatalogEntries, ModuleEntry}
use Rattle.modules.proofs.Definitions.{items_at, items_below, items_of, item_of}

-- the region of an item
abbrev pub region_of : Item → ℕ × ℕ
region_of i = (i.a, i.b)

pub one_number_more : (c : CatalogEntries) (k : ℕ)
    → items_below c (k + 1) ≡ items_below c k ++ items_at c k
one_number_more c k = grind (arith, range-append_from_zero, flat_map-append, append-nil)

-- the regions of the items are those of the module
regions_again : (k : ℕ) (rs : List (ℕ × ℕ)) → map region_of (map (item_of k) rs) ≡ rs
regions_again k [] = refl
regions_again k (r ∷ rs) = ap (λ l. r ∷ l) (regions_again k rs)

regions_at : (c : CatalogEntries) (k : ℕ) (m : ModuleEntry) → module_of c k ≡ Some m
    → map region_of (items_at c k) ≡ m.regions
regions_at c k m e = ap (λ o. map region_of (option_map_or (λ m. map (item_of k) m.regions) o [])) e
    ∙ regions_again k m.regions

-- the modules from a place on
regions_from : (c : CatalogEntries) (ms : List ModuleEntry) (s : ℕ)
    → ((i : ℕ) (m : ModuleEntry) → slice_get ms i ≡ Some m → module_of c (s + i) ≡ Some m)
    → map region_of (flat_map (items_at c) (range_with_len s (length ms)))
    ≡ flat_map (λ m. m.regions) ms
regions_from c [] s h = refl
regions_from c (m ∷ ms) s h =
    let here =
    subst (λ k. module_of c k ≡ Some m) (let e : s + 0 ≡ s = omega arith in e) (h 0 m refl) in
    let there : (i : ℕ) (x : ModuleEntry) → slice_get ms i ≡ Some x
    → module_of c (s + 1 + i) ≡ Some x =
    λ i x e. subst (λ k. module_of c k ≡ Some x) (let q : s + suc i ≡ s + 1 + i = omega arith in
    q) (h (suc i) x e) in
    grind (arith, common_steps, nat_tests, map-append, regions_at, regions_from c ms (s + 1))

pub all_regions : (c : CatalogEntries) → map region_of (items_of c) ≡ regions_of c
all_regions c =
    grind (arith, add-one, map-append, regions_from, flat_map-append, regions_again, append-nil)
