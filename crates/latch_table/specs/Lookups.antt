-- What the writer's lookup finds in its picture of the words.
use Rattle.std.specs.Prelude.{◌≡◌, ℕ, ◌+◌, ◌*◌, ◌≤◌, List, [], length, Option}
use Rattle.order_laws.specs.declared.items.Item.{Item}
use Rattle.order_laws.specs.Orders.{Order}
use Rattle.order_laws.specs.Tables.{look}
use Rattle.word_layout.specs.Words.{at}
use Rattle.latch_core.specs.Sequences.{generation_of}
use Rattle.table_updates.specs.Updates.{replay}
use Rattle.latch_core.specs.Attempts.{Answer, attempt, IsAttempt}
use Rattle.latch_table.specs.declared.knowledge.WriterKnowledge.{WriterKnowledge}
use Rattle.latch_core.specs.Latched.{loads_of}

-- one attempt in the writer's picture, with these loads, that finds what the key lies in
pub record FindsIn {K : Type 0} (o : Order K) (n : ℕ) (k : K) (p : WriterKnowledge)
    (loads : List (ℕ × ℕ)) (r : Option Item × ℕ) : Type 0 where
  pub found : r.0 ≡ look o k (replay o [] p.known)
  pub generation : r.1 ≡ generation_of (at p.picture 0)
  pub values : List ℕ
  pub whole : IsAttempt o n k values (Answer r.0 r.1)
  pub loaded : loads ≡ loads_of (attempt o n k) values
  pub few : length values ≤ 4 * length (replay o [] p.known) + 3
