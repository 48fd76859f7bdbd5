use Rattle.rb_cursor.proofs.Words.{◌-◌, sym, ap, ◌∙◌, arith, with_value, closed_zipper, step_at}
use Rattle.rb_cursor.proofs.ChangeLemmas.{closes, not_closed, no_path, last_leads, last_there}
use Rattle.rb_cursor.proofs.FieldLemmas.{Moved}
use Rattle.std.specs.Option.{option_copied_mut}
use Rattle.rb_cursor.proofs.cursors.Cursor.close.Goals as goal

pub returns-then-self-eq0 : goal.returns-then-self-eq0
returns-then-self-eq0 c =
    not_closed c.args.red c.args.self.now
    (no_path c.self.inside c.args.self.now c.self.invariant c.self.view_is c.if-self-eq0.true)

pub overflow_sub-link : goal.overflow_sub-link
overflow_sub-link c =
    last_leads c.self.inside c.args.self.now c.self.invariant c.self.view_is
    (omega (arith, c.if-self-eq0.false))

pub unreachable-requires : goal.unreachable-requires
unreachable-requires c =
    last_there c.self.inside c.args.self.now c.self.invariant c.self.view_is
    (omega (arith, c.if-self-eq0.false))
    (sym c.get_mut.ensures.value ∙ ap option_copied_mut c.in_default.is)

there : (c : goal.After-self-3-1) →
    let step = step_at c.self.inside.steps (c.self.inside.depth - 1) in
    Moved (record c.self.inside {
      nodes = with_value c.self.inside.nodes (step.link - 1)
          (record c.in-Some.node.now { red = c.args.red });
      tree = step.link;
      depth = c.self.inside.depth - 1;
    }) (closed_zipper c.args.red c.args.self.now.tree c.args.self.now.path c.args.self.now.room)
there c =
    closes c.self.inside c.args.self.now c.args.red c.in-Some.node.now c.self.invariant
    c.self.view_is (omega (arith, c.if-self-eq0.false)) (sym c.in-Some.ensures.value)

pub invariant_of-self : goal.invariant_of-self
invariant_of-self c = (there c).is

pub returns : goal.returns
returns c = (there c).shows
