-- Marks, and the regions that they make.
use Rattle.std.specs.Prelude.{◌≡◌, ◌≢◌, ℕ, ◌+◌, ◌-◌, ◌<◌, ◌≤◌, ◌^◌, ◌⊎◌, ◌↔◌, All, Contains, List}
use Rattle.std.specs.Prelude.{length, slice_index_or, true}
use Rattle.std.specs.List.{AllPairs}
use Rattle.order_laws.specs.declared.items.Item.{Item}
use Rattle.modules.specs.Owners.{is_in_page, reach}
use Rattle.modules.specs.declared.marks.Mark.{Mark}

-- the mark is listed, and none that is listed before it has its address
pub record IsFirstMark (marks : List Mark) (m : Mark) : Type 0 where
  pub place : ℕ
  pub within : place < length marks
  pub listed : slice_index_or marks place m ≡ m
  pub first : (k : ℕ) (d : Mark) → k < place → (slice_index_or marks k d).addr ≢ m.addr

-- the mark is not above the address, and none lies between them
pub record IsNearestMark (marks : List Mark) (addr : ℕ) (m : Mark) : Type 0 where
  pub its : IsFirstMark marks m
  pub below : m.addr ≤ addr
  pub clear : All (λ s. (s.addr ≤ m.addr) ⊎ (addr < s.addr)) marks

-- the mark is above the address, and none lies between them
pub record IsNextMark (marks : List Mark) (addr : ℕ) (m : Mark) : Type 0 where
  pub its : IsFirstMark marks m
  pub above : addr < m.addr
  pub clear : All (λ s. (s.addr ≤ addr) ⊎ (m.addr ≤ s.addr)) marks

-- the next mark above the address is of the owner of this one, and near it
pub record GoesOn (marks : List Mark) (addr : ℕ) (m : Mark) : Type 0 where
  pub mark : Mark
  pub next : IsNextMark marks addr mark
  pub its : mark.owner ≡ m.owner
  pub near : mark.addr < m.addr + reach

-- the address is this owner's, which is not the kernel itself: the nearest mark is the owner's, and
-- the address lies in the page of the mark, or the mark goes on
pub record Owns (marks : List Mark) (owner addr : ℕ) : Type 0 where
  pub mark : Mark
  pub nearest : IsNearestMark marks addr mark
  pub its : mark.owner ≡ owner
  pub reached : (is_in_page mark.addr addr ≡ true) ⊎ GoesOn marks addr mark
  pub some : owner ≢ 0

-- the first ends before the second begins, or just there if they are of two owners
pub record Follows (i j : Item) : Type 0 where
  pub apart : i.b ≤ j.a
  pub longest : i.b ≡ j.a → i.tag ≢ j.tag

-- regions by rising address, each as long as its owner's addresses go on
pub record AreLaid (items : List Item) : Type 0 where
  pub valid : All (λ i. i.a < i.b) items
  pub follow : AllPairs (λ i j. Follows i j) items

-- a region of the owner holds the address
pub record HoldsFor (items : List Item) (owner addr : ℕ) : Type 0 where
  pub item : Item
  pub there : Contains items item
  pub its : item.tag ≡ owner
  pub from : item.a ≤ addr
  pub below : addr < item.b

-- the longest runs of addresses of one owner, below the greatest address
pub record AreRegions (marks : List Mark) (items : List Item) : Type 0 where
  pub laid : AreLaid items
  pub exact : (owner addr : ℕ)
      → HoldsFor items owner addr ↔ ((addr < 2 ^ 64 - 1) × Owns marks owner addr)
