use Rattle.modules.proofs.Words.{◌≡◌, ◌++◌, map, take, item_of}
use Rattle.modules.proofs.region_index.push_regions.Given as goal

abbrev pub invariant-loop-region : goal.invariant-loop-region
invariant-loop-region l =
    l.items.items ≡ l.initial.items.items ++ map (item_of l.number) (take l.region-index l.regions)
