use Rattle.rb_cursor.proofs.Words.{◌≡◌, ◌<◌, length, vec_capacity, copy_number}
use Rattle.rb_cursor.proofs.EraseSteps.{EraseRises}
use Rattle.rb_cursor.proofs.erases.climb.Given as goal

abbrev pub invariant-loop-copy : goal.invariant-loop-copy
invariant-loop-copy l = record {
  rises : EraseRises (copy_number l.copy) l.depth l.fn.before l.fn.short l.fn.cursor l.fn.out.items
      l.cursor l.before l.after l.short l.out.items;
  few : length l.cursor.path < 64;
  room : l.cursor.room ≡ l.fn.cursor.room;
  capacity : vec_capacity l.out ≡ vec_capacity l.fn.out;
}

abbrev pub decreases-loop-copy : goal.decreases-loop-copy
decreases-loop-copy l = length l.cursor.path
