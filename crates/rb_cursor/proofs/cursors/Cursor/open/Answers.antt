use Rattle.rb_cursor.proofs.Words.{◌-◌, ℕ, refl, sym, subst, arith, OpensSide}
use Rattle.rb_cursor.proofs.FieldLemmas.{IsInside, show, with_step, HasOpened, opened, none_there}
use Rattle.rb_cursor.proofs.FieldLemmas.{depth_is}
use Rattle.rb_cursor.proofs.cursors.Cursor.open.Goals as goal

pub returns-then-self-eq0 : goal.returns-then-self-eq0
returns-then-self-eq0 c = (
  none_there c.self.inside c.args.self.now c.self.invariant c.self.view_is c.if-self-eq0.true,
  refl,
)

pub bounds-self-inside-self-inside : goal.bounds-self-inside-self-inside
bounds-self-inside-self-inside c =
    omega (arith, depth_is c.self.inside c.args.self.now c.self.invariant c.self.view_is)

there : (c : goal.After-self-2-1) →
    HasOpened c.self.inside c.args.self.now c.args.side c.in-Some.node.now
there c =
    let deep = depth_is c.self.inside c.args.self.now c.self.invariant c.self.view_is in
    opened c.self.inside c.args.self.now c.args.side (c.self.inside.tree - 1) c.in-Some.node.now
    c.self.invariant c.self.view_is (omega (arith, c.if-self-eq0.false)) (sym c.in-Some.ensures)
    (omega (arith, deep)) (omega (arith, deep))

pub invariant_of-self : goal.invariant_of-self
invariant_of-self c =
    subst (λ (l : ℕ). IsInside (with_step c.self.inside c.args.side l)) (sym c.child-below.ensures)
    (there c).is

pub returns : goal.returns
returns c =
    subst (λ (l : ℕ). OpensSide c.args.side c.args.self.now
    (show (with_step c.self.inside c.args.side l))
    (record { red = c.in-Some.node.now.red; node = c.in-Some.node.now.node }))
    (sym c.child-below.ensures) (there c).opens
