-- What a catalog holds.
use Rattle.std.specs.Prelude.{ℕ, List, Option}
use Rattle.modules.specs.declared.lines.Part.{Part}

-- an address, the letter of its kind, and its name
pub record SymbolEntry : Type 0 where
  pub addr : ℕ
  pub letter : ℕ
  pub name : List ℕ

-- a module's name, its regions in their order, the part that each of them is, and its symbols in
-- the order listed
pub record ModuleEntry : Type 0 where
  pub name : List ℕ
  pub regions : List (ℕ × ℕ)
  pub parts : List Part
  pub symbols : List SymbolEntry

-- the kernel itself, if it has regions, and the modules from number 1 on
pub record CatalogEntries : Type 0 where
  pub built_in : Option ModuleEntry
  pub modules : List ModuleEntry
