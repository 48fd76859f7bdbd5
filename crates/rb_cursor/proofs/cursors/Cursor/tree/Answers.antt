use Rattle.rb_cursor.proofs.Words.{◌∙◌}
use Rattle.rb_cursor.proofs.ReadLemmas.{hand_is}
use Rattle.rb_cursor.proofs.cursors.Cursor.tree.Goals as goal

pub returns : goal.returns
returns c = c.new.ensures ∙ hand_is c.self.inside c.args.self.now c.self.invariant c.self.view_is
