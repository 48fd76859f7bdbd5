use Rattle.rb_cursor.proofs.FieldLemmas.{depth_is}
use Rattle.rb_cursor.proofs.cursors.Cursor.depth.Goals as goal

pub returns : goal.returns
returns c = depth_is c.self.inside c.args.self.now c.self.invariant c.self.view_is
