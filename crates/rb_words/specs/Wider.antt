-- A picture in a memory of more nodes.
use Rattle.std.specs.Prelude.{ℕ, List}
use Rattle.word_layout.specs.Wider.{wider_words}
use Rattle.rb_words.specs.Pictures.{Picture, IsPictured}

-- a memory that holds the one picture holds the other, once it has as many nodes
abbrev pub IsPicturedWider : Picture → Picture → Type 0
IsPicturedWider old new =
    (m : List ℕ) → IsPictured m old → IsPictured (wider_words old.capacity new.capacity m) new
