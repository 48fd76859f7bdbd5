-- The picture that a red-black tree makes.
use Rattle.std.specs.Prelude.{◌≡◌, ℕ}
use Rattle.rb_trees.specs.declared.Record.{Record}
use Rattle.rb_trees.specs.Trees.{ColouredTree, shape, rows}
use Rattle.rb_trees.specs.Found.{items_of_records}
use Rattle.rb_cursor.specs.Changes.{TakesOut}
use Rattle.rb_words.specs.Pictures.{Picture}

abbrev pub picture_of : ℕ → ℕ → ColouredTree → ℕ → Picture
picture_of capacity copy t room =
    record {
      capacity = capacity;
      copy = copy;
      table = items_of_records (rows t);
      tree = shape t;
      room = room;
    }

-- from one tree to another the record of a first word was taken out; it had this node
pub record LosesWord (a : ℕ) (t u : ColouredTree) (node : ℕ) : Type 0 where
  pub row : Record
  pub taken : TakesOut row (rows t) (rows u)
  pub word : row.item.a ≡ a
  pub number : row.node ≡ node
