-- Modules whose regions marks make.
use Rattle.std.specs.Prelude.{◌≡◌, ℕ, ◌-◌, ◌<◌, ◌^◌, ◌↔◌, nat_eq, List, map, filter, Some}
use Rattle.order_laws.specs.declared.items.Item.{Item}
use Rattle.modules.specs.Listed.{ListedSymbol}
use Rattle.modules.specs.Marks.{Owns}
use Rattle.modules.specs.Owners.{module_of_address}
use Rattle.modules.specs.Placed.{PlacedModule}
use Rattle.modules.specs.declared.lines.Part.TheVariants.{Core}
use Rattle.modules.specs.declared.marks.Mark.{Mark}

-- the ranges of the items that have the number as a tag
abbrev pub ranges_of : ℕ → List Item → List (ℕ × ℕ)
ranges_of n items = map (λ i. (i.a, i.b)) (filter (λ i. nat_eq i.tag n) items)

-- the module of the number, in its regions
abbrev pub numbered_module : ℕ → List ℕ → List Item → PlacedModule
numbered_module n name items =
    record { name = name; regions = ranges_of n items; parts = map (λ _. Core) (ranges_of n items) }

-- the marks give this number the addresses that the lines give the module of this name
abbrev pub StandsFor : List Mark → List ListedSymbol → ℕ → List ℕ → Type 0
StandsFor marks lines n name =
    (addr : ℕ) → addr < 2 ^ 64 - 1
    → Owns marks n addr ↔ (module_of_address lines addr ≡ Some name)
