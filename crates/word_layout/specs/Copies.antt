-- The two copies of the tree.
use Rattle.std.specs.Prelude.{ℕ}
use Rattle.word_layout.specs.declared.places.TreeCopy.{TreeCopy}
use Rattle.word_layout.specs.declared.places.TreeCopy.TheVariants.{Zero, One}

-- the number of a copy
abbrev pub copy_number : TreeCopy → ℕ
copy_number Zero = 0
copy_number One = 1
