use Rattle.rb_cursor.proofs.Words.{◌-◌, refl, sym, ap, ◌∙◌, arith, ColouredTree, with_row}
use Rattle.rb_cursor.proofs.Words.{common_steps}
use Rattle.rb_cursor.proofs.ChangeLemmas.{Rewritten, rewrites, unchanged}
use Rattle.rb_cursor.proofs.cursors.Cursor.set_row.Goals as goal

pub returns-then-self-eq0 : goal.returns-then-self-eq0
returns-then-self-eq0 c =
    unchanged (with_row c.args.row) refl c.self.inside c.args.self.now c.self.invariant
    c.self.view_is c.if-self-eq0.true

there : (c : goal.After-self-2-1) →
    Rewritten c.self.inside c.args.self.now (c.self.inside.tree - 1) c.in-Some.node.now.red
    c.args.row c.in-Some.node.now
there c = grind (arith, common_steps, rewrites)

pub invariant_of-self : goal.invariant_of-self
invariant_of-self c = (there c).moved.is

pub returns : goal.returns
returns c =
    (there c).moved.shows
    ∙ sym (ap (λ (t : ColouredTree). record c.args.self.now { tree = with_row c.args.row t })
    (there c).was)
