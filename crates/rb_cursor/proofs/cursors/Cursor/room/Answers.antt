use Rattle.rb_cursor.proofs.FieldLemmas.{room_is}
use Rattle.rb_cursor.proofs.cursors.Cursor.room.Goals as goal

pub returns : goal.returns
returns c = room_is c.self.inside c.args.self.now c.self.invariant c.self.view_is
