-- What is promised of a lookup that the writer leaves alone, if the writer keeps its trees red-
-- black.
use Rattle.std.specs.Prelude.{ℕ, ◌+◌, ◌*◌, ◌^◌, ◌≤◌, List, [], ◌∷◌, length}
use Rattle.std.specs.List.{AllByRecursion}
use Rattle.order_laws.specs.Orders.{Order}
use Rattle.table_updates.specs.declared.updates.Update.{Update}
use Rattle.latch_core.specs.Histories.{current_table}
use Rattle.latch_core.specs.Writers.{IsShallow}
use Rattle.latch_steps.specs.Runs.{Done}
use Rattle.latch_steps.specs.Quiet.{ReturnsFromStart}

-- at each moment of a run the stable copy holds its table in a red-black tree
abbrev pub AreShallow : {K : Type 0} → ℕ → List (Done K) → Type 0
AreShallow n run = AllByRecursion (λ d. IsShallow n d.after.latch.words) run

-- a way down so deep: at most twice the binary logarithm of the number of items and one
abbrev pub IsDepth : ℕ → ℕ → Type 0
IsDepth count depth = 2 ^ depth ≤ (count + 1) * (count + 1)

-- each lookup of the run that the writer leaves alone returns within four loads for each node on a
-- way down, and three
abbrev pub AreNear : {K : Type 0} → Order K → ℕ → List Update → List (Done K) → Type 0
AreNear o start us [] = Unit {0}
AreNear o start us (d ∷ rest) =
    ((depth : ℕ) × IsDepth (length (current_table o start us d.after.latch.words)) depth
    × ReturnsFromStart (4 * depth + 3) d.event d.reply rest)
    × AreNear o start us rest
