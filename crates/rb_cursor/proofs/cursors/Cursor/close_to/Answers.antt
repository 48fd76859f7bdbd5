use Rattle.rb_cursor.proofs.Words.{refl, step_at, common_steps, arith}
use Rattle.rb_cursor.proofs.ChangeLemmas.{closes_to, not_closed_to}
use Rattle.rb_cursor.proofs.cursors.Cursor.close_to.Goals as goal

pub invariant_of-self : goal.invariant_of-self
invariant_of-self c = grind (arith, common_steps, closes_to)

pub returns-then-depth-self : goal.returns-then-depth-self
returns-then-depth-self c =
    (closes_to c.self.inside c.args.self.now c.args.depth (step_at c.self.inside.steps c.args.depth)
    c.self.invariant c.self.view_is c.if-depth-self.true refl).shows

pub returns-else-depth-self : goal.returns-else-depth-self
returns-else-depth-self c =
    not_closed_to c.self.inside c.args.self.now c.args.depth c.self.invariant c.self.view_is
    c.if-depth-self.false
