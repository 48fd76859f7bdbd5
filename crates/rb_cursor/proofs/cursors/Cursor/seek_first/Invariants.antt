use Rattle.rb_cursor.proofs.Words.{◌≡◌, ◌+◌, ◌≤◌, length, shape, depth, first_place, first_way}
use Rattle.rb_cursor.proofs.Words.{weight}
use Rattle.rb_cursor.proofs.cursors.Cursor.seek_first.Given as goal

abbrev pub invariant-loop-fork : goal.invariant-loop-fork
invariant-loop-fork l = record {
  place : first_place l.self.tree ≡ first_place l.initial.self.tree;
  way : first_way l.self.tree l.self.path ≡ first_way l.initial.self.tree l.initial.self.path;
  fits : depth (shape l.self.tree) + length l.self.path ≤ 64;
  room : l.self.room ≡ l.initial.self.room;
}

abbrev pub decreases-loop-fork : goal.decreases-loop-fork
decreases-loop-fork l = weight l.self.tree
