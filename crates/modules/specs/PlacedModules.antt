-- Modules in their regions.
use Rattle.std.specs.Prelude.{All}
use Rattle.modules.specs.Accepted.{Accepted, accepted_with, names_of, taken_regions}
use Rattle.modules.specs.Kept.{AreDistinctNames}
use Rattle.modules.specs.Placed.{IsPlaced}
use Rattle.modules.specs.Regions.{AreApart}
use Rattle.modules.specs.declared.placed_modules.PlacedModules.TheInside.{Inside}

abbrev pub placed_modules_view : Inside → Accepted
placed_modules_view p = accepted_with p.built_in.items p.modules.items

-- each module has a region of its core, all regions have addresses and lie apart, and no two
-- modules have one name
pub record AreSoundModules (a : Accepted) : Type 0 where
  pub placed : All IsPlaced a.modules
  pub apart : AreApart (taken_regions a)
  pub distinct : AreDistinctNames (names_of a.modules)
