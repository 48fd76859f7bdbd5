-- What a search of the list by rising first address finds.
use Rattle.modules.proofs.Words.{◌≡◌, ℕ, ◌-◌, ◌<◌, ◌≤◌, ⊎_elim, List, length, get_or, Some, None}
use Rattle.modules.proofs.Words.{ap, ◌∙◌, arith, Contains, common_steps}
use Rattle.modules.proofs.Lemmas.{cases_lt, get_or_default, Contains-permutation, IsPermutation-sym}
use Rattle.modules.proofs.Lemmas.{look_is}
use Rattle.modules.proofs.Definitions.{Item, half_open, IsSoundCatalog, CatalogEntries, items_of}
use Rattle.modules.proofs.Definitions.{IsIndexOf, IsItemSplit, item_of_address}
use Rattle.modules.proofs.ApartItemLemmas.{each_has_addresses, none_found, same_or_apart}
use Rattle.modules.proofs.ApartItemLemmas.{some_found}

module _ (c : CatalogEntries) (sound : IsSoundCatalog c) where
  module _ (items : List Item) (index : IsIndexOf c items) (addr split : ℕ)
      (parts : IsItemSplit items addr split) where
    of_catalog : (x : Item) → Contains items x → Contains (items_of c) x
    of_catalog x m = Contains-permutation items (items_of c) x
        (IsPermutation-sym (items_of c) items index.same) m

    -- an item that holds the address stands below the place
    stands_below : (y : Item) → Contains (items_of c) y → y.a ≤ addr
        → (k : ℕ) × (k < split) × (k < length items) × (get_or items k y ≡ y)
    stands_below y m le =
        grind (arith, cases_lt, Contains-permutation (items_of c) items y index.same m)

    pub nothing_below : split ≡ 0 → None ≡ item_of_address c addr
    nothing_below e =
        none_found c sound addr (item_of_address c addr) (λ y m le lt. let (k, less, within, at) =
        stands_below y m le in omega arith) (look_is half_open addr (items_of c))

    module _ (i : Item) (some : 0 < split) (last : get_or items (split - 1) i ≡ i) where
      listed : Contains (items_of c) i
      listed = of_catalog i (split - 1, (let b = parts.bound in omega arith), last)

      pub last_begins_below : i.a ≤ addr
      last_begins_below = let b : (get_or items (split - 1) i).a ≤ addr =
          parts.below (split - 1) i (omega arith) in
          let e : (get_or items (split - 1) i).a ≡ i.a = ap (λ i. i.a) last in
          omega arith

      pub last_found : addr < i.b → Some i ≡ item_of_address c addr
      last_found lt = some_found c sound addr i (item_of_address c addr) listed last_begins_below lt
          (look_is half_open addr (items_of c))

      beyond : i.b ≤ addr → (y : Item) → Contains (items_of c) y → y.a ≤ addr → addr < y.b → ⊥
      beyond past y m le lt =
          let (k, less, within, at) = stands_below y m le in
          let rises : (get_or items k y).a ≤ (get_or items (split - 1) y).a =
          index.rising k (split - 1) y (omega arith) (let b = parts.bound in omega arith) in
          let e : (get_or items k y).a ≡ y.a = ap (λ i. i.a) at in
          let f : (get_or items (split - 1) y).a ≡ i.a = ap (λ i. i.a)
          (get_or_default items (split - 1) y i (let b = parts.bound in omega arith) ∙ last) in
          let some : i.a < i.b = each_has_addresses c sound i listed in
          ⊎_elim (λ same. let g : i.b ≡ y.b = ap (λ i. i.b) same in omega arith)
          (λ apart. ⊎_elim (λ p. omega arith) (λ p. omega arith) apart)
          (same_or_apart c sound i y listed m)

      pub last_ends_below : i.b ≤ addr → None ≡ item_of_address c addr
      last_ends_below past = none_found c sound addr (item_of_address c addr) (beyond past)
          (look_is half_open addr (items_of c))

-- what stands before a split is what is found, or nothing is
pub ruleset found_by_split = (common_steps, last_begins_below, last_found, last_ends_below)
