-- What the lines of the listings say.
use Rattle.std.specs.Prelude.{ℕ, List, Option}
use Rattle.modules.specs.declared.lines.Part.{Part}

-- a module, the first address of its region, and how many bytes it has
pub record ListedModule : Type 0 where
  pub name : List ℕ
  pub base : ℕ
  pub size : ℕ

-- the name of a module, the part of it that a region is, the region's first address, and how many
-- bytes it has
pub record ListedRegion : Type 0 where
  pub name : List ℕ
  pub part : Part
  pub base : ℕ
  pub size : ℕ

-- an address, the letter of its kind, its name, and the name of its module, if it has one
pub record ListedSymbol : Type 0 where
  pub addr : ℕ
  pub letter : ℕ
  pub name : List ℕ
  pub owner : Option (List ℕ)

-- the names of the two symbols that bound a region of the kernel itself
pub record BoundNames : Type 0 where
  pub start : List ℕ
  pub end : List ℕ
