use Rattle.latchsym_ffi.proofs.Words.{◌≡◌, ◌+◌, ◌++◌, All, Some, length, map, take, module_of}
use Rattle.latchsym_ffi.proofs.Words.{CatalogEntries, item_of, AreRowsOf, IsRegionRow, item_of_row}
use Rattle.latchsym_ffi.proofs.flattening.put_regions.Given as goal

abbrev pub invariant-loop-region : goal.invariant-loop-region
invariant-loop-region l =
    (length l.regions ≡ length l.initial.regions)
    × (l.place ≡ l.from + l.region-index)
    × (map item_of_row (take l.place l.regions) ≡ map item_of_row (take l.from l.initial.regions)
    ++ map (item_of l.number) (take l.region-index l.owner.regions))
    × ((c : CatalogEntries) → module_of c l.number ≡ Some l.owner
    → AreRowsOf l.owner.symbols l.rows.symbols.now l.rows.addresses.now
    → All (IsRegionRow c) (take l.from l.initial.regions)
    → All (IsRegionRow c) (take l.place l.regions))
