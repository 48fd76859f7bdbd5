use Rattle.rb_cursor.proofs.Words.{◌≡◌, ◌-◌, ◌≤◌}
use Rattle.rb_cursor.proofs.cursors.Cursor.reserve.Given as goal

abbrev pub invariant-loop-self : goal.invariant-loop-self
invariant-loop-self l =
    (l.self.tree ≡ l.initial.self.tree) × (l.self.path ≡ l.initial.self.path) ×
    (l.initial.self.room ≤ l.self.room)

abbrev pub decreases-loop-self : goal.decreases-loop-self
decreases-loop-self l = l.more - l.self.room
