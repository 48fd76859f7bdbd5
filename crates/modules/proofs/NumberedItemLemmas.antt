-- The items of a module number, between those of the lesser and those of the greater ones.
use Rattle.modules.proofs.Words.{◌≡◌, ℕ, suc, ◌+◌, ◌-◌, ◌<◌, ◌≤◌, List, [], ◌∷◌, ◌++◌, length, map}
use Rattle.modules.proofs.Words.{flat_map, refl, sym, ◌∙◌, ap, subst, arith, length-append, true}
use Rattle.modules.proofs.Words.{false, Contains, AllPairs, range_with_len}
use Rattle.modules.proofs.Lemmas.{map-append, length-map, Contains-append_left}
use Rattle.modules.proofs.Lemmas.{Contains-append_right, flat_map-append, or_from}
use Rattle.modules.proofs.Lemmas.{range-append_from_zero, AllPairs-across, AllPairs-left}
use Rattle.modules.proofs.Lemmas.{AllPairs-right, Contains-map, none_meets}
use Rattle.modules.proofs.Definitions.{Item, half_open, half_open_lawful, meets, some_overlap}
use Rattle.modules.proofs.Definitions.{IsSoundCatalog, regions_of, CatalogEntries, items_at}
use Rattle.modules.proofs.Definitions.{items_below, items_of, is_apart}
use Rattle.modules.proofs.ItemLemmas.{all_regions, region_of}
use Rattle.modules.proofs.ApartItemLemmas.{each_has_addresses}

-- the items of a number, between those of the lesser and those of the greater ones
pub rest_of : CatalogEntries → ℕ → List Item
rest_of c k = flat_map (items_at c) (range_with_len (k + 1) (length c.modules - k))

pub parted_at : (c : CatalogEntries) (k : ℕ) → k ≤ length c.modules
    → items_of c ≡ items_below c k ++ (items_at c k ++ rest_of c k)
unfolding rest_of
parted_at c k le =
    let n = length c.modules - k in
    ap (items_below c) (let e : length c.modules + 1 ≡ k + suc n = omega arith in e)
    ∙ ap (flat_map (items_at c)) (range-append_from_zero k (suc n))
    ∙ flat_map-append (items_at c) (range_with_len 0 k) (range_with_len k (suc n))

pub as_many : (c : CatalogEntries) → length (items_of c) ≡ length (regions_of c)
as_many c = sym (length-map (items_of c) region_of) ∙ ap length (all_regions c)

-- items whose regions lie apart do not overlap
no_overlap : (items : List Item) → AllPairs (λ r s. is_apart r s ≡ true) (map region_of items)
    → some_overlap half_open items ≡ false
no_overlap [] all = refl
no_overlap (i ∷ rest) all =
    let later : (x : Item) → Contains rest x → half_open.apart x i ≡ true =
    λ x m. let (j, less, there) = Contains-map region_of rest x m in
    let r = all 0 (suc j) (region_of x) (omega arith) (omega arith) in
    half_open_lawful.symmetric x i ∙ subst (λ s. is_apart (region_of i) s ≡ true) there r in
    let here = none_meets i rest later in
    let more =
    no_overlap rest (λ a b d less lt. all (suc a) (suc b) d (omega arith) (omega arith)) in
    or_from (meets half_open i rest) (some_overlap half_open rest) here more

-- an item of a number, and those of the lesser numbers
module _ (c : CatalogEntries) (sound : IsSoundCatalog c) (k : ℕ) (le : k ≤ length c.modules) where
  regions_parted : regions_of c ≡ map region_of (items_below c k)
      ++ (map region_of (items_at c k) ++ map region_of (rest_of c k))
  regions_parted =
      sym (all_regions c) ∙ ap (map region_of) (parted_at c k le)
      ∙ map-append region_of (items_below c k) (items_at c k ++ rest_of c k)
      ∙ ap (λ l. map region_of (items_below c k) ++ l)
      (map-append region_of (items_at c k) (rest_of c k))

  pub is_apart_from : (x y : Item) → Contains (items_below c k) x → Contains (items_at c k) y
      → is_apart (region_of x) (region_of y) ≡ true
  is_apart_from x y below at' =
      AllPairs-across (λ r s. is_apart r s ≡ true) (map region_of (items_below c k))
      (map region_of (items_at c k) ++ map region_of (rest_of c k)) (region_of x) (region_of y)
      (subst (AllPairs (λ r s. is_apart r s ≡ true)) regions_parted sound.apart.apart)
      (Contains-map region_of (items_below c k) x below)
      (Contains-append_left (map region_of (items_at c k)) (map region_of (rest_of c k))
      (region_of y) (Contains-map region_of (items_at c k) y at'))

  pub has_addresses : (y : Item) → Contains (items_at c k) y → y.a < y.b
  has_addresses y at' =
      each_has_addresses c sound y (subst (λ l. Contains l y) (sym (parted_at c k le))
      (Contains-append_right (items_below c k) (items_at c k ++ rest_of c k) y
      (Contains-append_left (items_at c k) (rest_of c k) y at')))

  pub none_overlap : some_overlap half_open (items_at c k) ≡ false
  none_overlap =
      no_overlap (items_at c k)
      (AllPairs-left (λ r s. is_apart r s ≡ true) (map region_of (items_at c k))
      (map region_of (rest_of c k))
      (AllPairs-right (λ r s. is_apart r s ≡ true) (map region_of (items_below c k))
      (map region_of (items_at c k) ++ map region_of (rest_of c k))
      (subst (AllPairs (λ r s. is_apart r s ≡ true)) regions_parted sound.apart.apart)))

  pub some_left : length (items_below c k) + length (items_at c k) ≤ length (items_of c)
  some_left = omega (
    arith,
    ap length (parted_at c k le),
    length-append (items_below c k) (items_at c k ++ rest_of c k),
    length-append (items_at c k) (rest_of c k),
  )
