use Rattle.rb_cursor.proofs.Words.{◌-◌, refl, sym, ap, ◌∙◌, arith, ColouredTree, coloured}
use Rattle.rb_cursor.proofs.Words.{record_of, common_steps}
use Rattle.rb_cursor.proofs.ChangeLemmas.{Rewritten, rewrites, unchanged}
use Rattle.rb_cursor.proofs.cursors.Cursor.colour.Goals as goal

pub returns-then-self-eq0 : goal.returns-then-self-eq0
returns-then-self-eq0 c =
    unchanged (coloured c.args.red) refl c.self.inside c.args.self.now c.self.invariant
    c.self.view_is c.if-self-eq0.true

there : (c : goal.After-self-1) →
    Rewritten c.self.inside c.args.self.now (c.self.inside.tree - 1) c.args.red
    (record_of c.index_mut-top.result.now) c.index_mut-top.result.now
there c = grind (arith, common_steps, rewrites)

pub invariant_of-self : goal.invariant_of-self
invariant_of-self c = (there c).moved.is

pub returns : goal.returns
returns c =
    (there c).moved.shows
    ∙ sym (ap (λ (t : ColouredTree). record c.args.self.now { tree = coloured c.args.red t })
    (there c).was)
