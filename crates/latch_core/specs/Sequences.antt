-- The sequence of a latch (Documentation/locking/seqlock.rst, latch sequence counters).
use Rattle.std.specs.Prelude.{ℕ, ◌/◌, ◌%◌}

-- the generation that a sequence names: how many updates readers see, above the opening one
abbrev pub generation_of : ℕ → ℕ
generation_of s = s / 2

-- the copy that readers walk, 0 or 1
abbrev pub stable_copy_of : ℕ → ℕ
stable_copy_of s = s % 2
