use Rattle.rb_cursor.proofs.Words.{weight}
use Rattle.rb_cursor.proofs.searches.+find_any.Given as goal

abbrev pub decreases-find_any : goal.decreases-find_any
decreases-find_any l = weight l.tree.now
