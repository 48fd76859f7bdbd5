-- The region that an address lies in, among regions that are laid.
use Rattle.modules.proofs.Words.{◌≡◌, ℕ, ◌-◌, ◌<◌, ◌≤◌, ◌⊎◌, List, length, get_or, Option, Some}
use Rattle.modules.proofs.Words.{None, ap, ⊎_elim, arith, Contains, IsNonDecreasingBy, common_steps}
use Rattle.modules.proofs.Words.{nat_tests}
use Rattle.modules.proofs.Lemmas.{cases_lt, get_or_default, Contains-get_or, begins, ends}
use Rattle.modules.proofs.Lemmas.{equal_inside, look_is}
use Rattle.modules.proofs.Definitions.{Item, half_open, IsLook, IsSplitBy, look, AreLaid}

module _ (items : List Item) (laid : AreLaid items) where
  ends_before : (i j : ℕ) (d : Item) → i < j → j < length items
      → (get_or items i d).b ≤ (get_or items j d).a
  ends_before i j d less lt = (laid.follow i j d less lt).apart

  pub rising : IsNonDecreasingBy (λ i. i.a) items
  rising = grind (arith, ends_before, cases_lt)

  -- what holds an address at a place ends where all further items begin
  not_before : (x y : Item) (addr i j : ℕ) → i < j → j < length items → get_or items i x ≡ x
      → get_or items j y ≡ y → addr < x.b → y.a ≤ addr → ⊥
  not_before x y addr i j less lt at there below from =
      grind (arith, common_steps, nat_tests, ends_before, get_or_default, ends_before i j x less lt)

  -- one item at most holds an address
  pub one_holds : (x y : Item) (addr : ℕ) → Contains items x → x.a ≤ addr → addr < x.b
      → Contains items y → y.a ≤ addr → addr < y.b → x ≡ y
  one_holds x y addr (i, lt, at) from below (j, less, there) from' below' =
      grind (arith, not_before, get_or_default, cases_lt)

  pub found : (x : Item) (addr : ℕ) → Contains items x → x.a ≤ addr → addr < x.b → (r : Option Item)
      → IsLook half_open addr items r → Some x ≡ r
  found x addr there from below None h = absurd (h x there (equal_inside addr x from below))
  found x addr there from below (Some y) h =
      ap Some (one_holds x y addr there from below h.0 (begins addr y h.1) (ends addr y h.1))

  none : (addr : ℕ) → ((y : Item) → Contains items y → y.a ≤ addr → addr < y.b → ⊥)
      → (r : Option Item) → IsLook half_open addr items r → None ≡ r
  none addr not_in r h = grind (arith, begins, ends)

  module _ (addr split : ℕ) (parts : IsSplitBy (λ i. i.a) items addr split) where
    pub look_first : split ≡ 0 → None ≡ look half_open addr items
    look_first e = none addr (λ y there from below. let a : addr < (get_or items there.0 y).a =
        parts.above there.0 y (omega arith) there.1 in
        let same : (get_or items there.0 y).a ≡ y.a = ap (λ (i : Item). i.a) there.2 in
        omega arith) (look half_open addr items) (look_is half_open addr items)

    module _ (d : Item) (some : 0 < split) where
      abbrev last : Item
      last = get_or items (split - 1) d

      listed : Contains items last
      listed = let b = parts.bound in Contains-get_or items (split - 1) d (omega arith)

      begins_below : last.a ≤ addr
      begins_below = parts.below (split - 1) d (omega arith)

      pub look_last : addr < (get_or items (split - 1) d).b
          → Some (get_or items (split - 1) d) ≡ look half_open addr items
      look_last below = found last addr listed begins_below below (look half_open addr items)
          (look_is half_open addr items)

      -- an item that begins at or below the address is the last, or ends before it
      others : (y : Item) → Contains items y → y.a ≤ addr → (last ≡ y) ⊎ (y.b ≤ last.a)
      others y (k, lt, at) from = let b = parts.bound in
          grind (arith, cases_lt, get_or_default, ends_before k (split - 1) y, parts.above k y, at)

      pub look_past : (get_or items (split - 1) d).b ≤ addr → None ≡ look half_open addr items
      look_past past = none addr (λ y there from below.
          ⊎_elim (λ same. let e : last.b ≡ y.b = ap (λ (i : Item). i.b) same in
          omega arith) (λ before. let b = begins_below in omega arith) (others y there from))
          (look half_open addr items) (look_is half_open addr items)

-- what a binary search of them tells
pub ruleset laid_search = (common_steps, rising, look_first, look_last, look_past)
