use Rattle.rb_cursor.proofs.Words.{◌≡◌, first_word_at, found, weight}
use Rattle.rb_cursor.proofs.searches.has.Given as goal

abbrev pub invariant-loop-fork : goal.invariant-loop-fork
invariant-loop-fork l = found (first_word_at l.a) l.rest ≡ found (first_word_at l.a) l.tree

abbrev pub decreases-loop-fork : goal.decreases-loop-fork
decreases-loop-fork l = weight l.rest
