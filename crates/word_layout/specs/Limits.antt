-- The greatest numbers of a layout.
use Rattle.std.specs.Prelude.{ℕ}

-- the greatest number of nodes of a table
abbrev pub most_nodes : ℕ
most_nodes = 65536

-- the greatest sequence of a 32-bit layout
abbrev pub greatest_sequence : ℕ
greatest_sequence = 4294967294

-- the greatest sequence of a 64-bit layout
abbrev pub greatest_wide_sequence : ℕ
greatest_wide_sequence = 18446744073709551614
