use Rattle.rb_cursor.proofs.Words.{◌≡◌, ◌≤◌, length, vec_capacity, copy_number}
use Rattle.rb_cursor.proofs.InsertSteps.{InsertRises}
use Rattle.rb_cursor.proofs.inserts.grow.Given as goal

abbrev pub invariant-loop-above : goal.invariant-loop-above
invariant-loop-above l = record {
  rises : InsertRises (copy_number l.copy) l.fn.added l.fn.cursor.path l.fn.out.items l.cursor
      l.before l.after l.red l.clashes l.out.items;
  few : length l.cursor.path ≤ 64;
  room : l.cursor.room ≡ l.initial.cursor.room;
  capacity : vec_capacity l.out ≡ vec_capacity l.fn.out;
}

abbrev pub decreases-loop-above : goal.decreases-loop-above
decreases-loop-above l = length l.cursor.path
