-- The region lines by name.
use Rattle.std.specs.Prelude.{◌≡◌, ℕ, List, map}
use Rattle.std.specs.Borrow.{Bor}
use Rattle.std.specs.List.Sorted.{IsSortedBy}
use Rattle.modules.specs.ByName.{comes_first}
use Rattle.modules.specs.Listed.{ListedRegion}
use Rattle.modules.specs.Placed.{lines_named}

-- the lines that are referred to
abbrev pub lines_at : List (Bor ListedRegion) → List ListedRegion
lines_at index = map (λ l. l.now) index

-- the lines in the order of their names, and the lines of one name as they were listed
pub record IsGrouped (regions : List ListedRegion) (index : List (Bor ListedRegion)) : Type 0 where
  pub sorted : IsSortedBy (comes_first (λ l. l.now.name)) index
  pub listed : (name : List ℕ) → lines_named name (lines_at index) ≡ lines_named name regions
