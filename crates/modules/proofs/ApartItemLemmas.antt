-- The items of a catalog have addresses, and two of them lie apart, so that one at most has an
-- address.
use Rattle.modules.proofs.Words.{◌≡◌, ℕ, ◌<◌, ◌≤◌, ◌⊎◌, true, length, map, get_or, Option, Some}
use Rattle.modules.proofs.Words.{None, sym, subst, arith, Contains, AllPairs, common_steps}
use Rattle.modules.proofs.Words.{nat_tests}
use Rattle.modules.proofs.Lemmas.{cases_lt, get_or_default, length-map, All-contains, Contains-map}
use Rattle.modules.proofs.Lemmas.{get_or-map_default, begins, ends, equal_inside}
use Rattle.modules.proofs.Definitions.{Item, half_open, IsLook, IsSoundCatalog, CatalogEntries}
use Rattle.modules.proofs.Definitions.{items_of, is_apart}
use Rattle.modules.proofs.ItemLemmas.{all_regions, region_of}
use Rattle.modules.proofs.SpreadLemmas.{apart_cases}

module _ (c : CatalogEntries) (sound : IsSoundCatalog c) where
  pairs : AllPairs (λ r s. is_apart r s ≡ true) (map region_of (items_of c))
  pairs = subst (AllPairs (λ r s. is_apart r s ≡ true)) (sym (all_regions c)) sound.apart.apart

  -- an item at an earlier place than another is apart from it
  earlier : (x y : Item) (i j : ℕ) → i < j → j < length (items_of c) → get_or (items_of c) i x ≡ x
      → get_or (items_of c) j y ≡ y → (x.b ≤ y.a) ⊎ (y.b ≤ x.a)
  earlier x y i j less lt at there =
      let r = pairs i j (region_of x) less (omega (arith, length-map (items_of c) region_of)) in
      grind (
        arith,
        common_steps,
        nat_tests,
        region_of,
        length-map,
        get_or-map_default,
        get_or_default,
        apart_cases,
      )

  -- two items are one, or apart
  pub same_or_apart : (x y : Item) → Contains (items_of c) x → Contains (items_of c) y
      → (x ≡ y) ⊎ ((x.b ≤ y.a) ⊎ (y.b ≤ x.a))
  same_or_apart x y (i, lt, at) (j, less, there) = grind (arith, earlier, get_or_default, cases_lt)

  pub each_has_addresses : (x : Item) → Contains (items_of c) x → x.a < x.b
  each_has_addresses x m = grind (
    arith,
    common_steps,
    nat_tests,
    All-contains,
    all_regions c,
    Contains-map region_of (items_of c) x m,
  )

  pub some_found : (addr : ℕ) (i : Item) (r : Option Item) → Contains (items_of c) i → i.a ≤ addr
      → addr < i.b → IsLook half_open addr (items_of c) r → Some i ≡ r
  some_found addr i None m le lt h = absurd (h i m (equal_inside addr i le lt))
  some_found addr i (Some y) m le lt h = grind (
    arith,
    common_steps,
    nat_tests,
    same_or_apart i y m h.0,
    begins addr y h.1,
    ends addr y h.1,
  )

  pub none_found : (addr : ℕ) (r : Option Item)
      → ((y : Item) → Contains (items_of c) y → y.a ≤ addr → addr < y.b → ⊥)
      → IsLook half_open addr (items_of c) r → None ≡ r
  none_found addr r not_in h = grind (arith, begins, ends)
