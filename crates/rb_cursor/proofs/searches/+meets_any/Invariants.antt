use Rattle.rb_cursor.proofs.Words.{weight}
use Rattle.rb_cursor.proofs.searches.+meets_any.Given as goal

abbrev pub decreases-meets_any : goal.decreases-meets_any
decreases-meets_any g l = weight l.tree.now
