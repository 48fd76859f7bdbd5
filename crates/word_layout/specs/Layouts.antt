-- What a layout shows.
use Rattle.std.specs.Prelude.{ℕ}
use Rattle.word_layout.specs.declared.layouts.Layout.{Layout}

-- how many nodes there are
abbrev pub capacity_of : Layout → ℕ
capacity_of l = l.capacity

-- the greatest sequence
abbrev pub limit_of : Layout → ℕ
limit_of l = l.limit
