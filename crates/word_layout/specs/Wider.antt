-- A memory of n nodes that is made one of n' nodes.
use Rattle.std.specs.Prelude.{ℕ, ◌-◌, ◌*◌, List, ◌++◌, replicate}
use Rattle.word_layout.specs.Words.{words_per_node}

-- its words, and after them the words of the added nodes, all 0
abbrev pub wider_words : ℕ → ℕ → List ℕ → List ℕ
wider_words n n' m = m ++ replicate (words_per_node * (n' - n)) 0
