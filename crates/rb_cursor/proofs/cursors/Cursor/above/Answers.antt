use Rattle.rb_cursor.proofs.Words.{sym, ap, ◌∙◌, arith, option_copied}
use Rattle.rb_cursor.proofs.ChangeLemmas.{nearest_is, no_path, last_leads, last_there}
use Rattle.rb_cursor.proofs.cursors.Cursor.above.Goals as goal

pub returns-then-self-eq0 : goal.returns-then-self-eq0
returns-then-self-eq0 c =
    no_path c.self.inside c.args.self.now c.self.invariant c.self.view_is c.if-self-eq0.true

pub overflow_sub-step-2 : goal.overflow_sub-step-2
overflow_sub-step-2 c =
    last_leads c.self.inside c.args.self.now c.self.invariant c.self.view_is
    (omega (arith, c.if-self-eq0.false))

pub unreachable-requires : goal.unreachable-requires
unreachable-requires c =
    last_there c.self.inside c.args.self.now c.self.invariant c.self.view_is
    (omega (arith, c.if-self-eq0.false)) (sym c.get.ensures ∙ ap option_copied c.in-None.is)

pub returns : goal.returns
returns c =
    nearest_is c.self.inside c.args.self.now c.in-Some.node.now c.self.invariant c.self.view_is
    (omega (arith, c.if-self-eq0.false)) (sym c.in-Some.ensures)
