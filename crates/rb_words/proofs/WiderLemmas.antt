-- A picture stays one in a memory of more nodes.
use Rattle.rb_words.proofs.Words.{ℕ, ◌≤◌, List, Picture, IsPictured}
use Rattle.word_layout.specs.Wider.{wider_words}
use Rattle.word_layout.proofs.WiderLemmas.{length_wider, holds_wider}

pub pictured_wider : (p : Picture) (n : ℕ) (m : List ℕ) → p.capacity ≤ n → IsPictured m p →
    IsPictured (wider_words p.capacity n m) (record p { capacity = n })
pictured_wider p n m le is =
    record {
      sized = length_wider p.capacity n m le is.sized;
      holds = holds_wider m p.capacity n p.copy p.table p.tree le is.holds;
    }
