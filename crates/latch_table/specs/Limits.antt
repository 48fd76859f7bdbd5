-- The greatest numbers of readers.
use Rattle.std.specs.Prelude.{ℕ}

-- the most readers that a table is opened with
abbrev pub most_readers : ℕ
most_readers = 64

-- the most readers of a table, with those that were added
abbrev pub most_readers_in_all : ℕ
most_readers_in_all = 65536
