use Rattle.rb_cursor.proofs.Words.{◌-◌, sym, arith}
use Rattle.rb_cursor.proofs.ReadLemmas.{opens_read, empty_read}
use Rattle.rb_cursor.proofs.readings.Reading.open.Goals as goal

pub returns-then-self-eq0 : goal.returns-then-self-eq0
returns-then-self-eq0 c =
    empty_read c.self.inside.nodes.now c.self.inside.link c.args.self.now c.self.invariant
    c.self.view_is c.if-self-eq0.true

pub invariant_of-result : goal.invariant_of-result
invariant_of-result c =
    (opens_read c.self.inside.nodes.now c.self.inside.link (c.self.inside.link - 1)
    c.in-Some.node.now c.args.self.now c.self.invariant c.self.view_is
    (omega (arith, c.if-self-eq0.false)) (sym c.in-Some.ensures)).left

pub invariant_of-result-in-Some : goal.invariant_of-result-in-Some
invariant_of-result-in-Some c =
    (opens_read c.self.inside.nodes.now c.self.inside.link (c.self.inside.link - 1)
    c.in-Some.node.now c.args.self.now c.self.invariant c.self.view_is
    (omega (arith, c.if-self-eq0.false)) (sym c.in-Some.ensures)).right

pub returns : goal.returns
returns c = let r =
    opens_read c.self.inside.nodes.now c.self.inside.link (c.self.inside.link - 1)
    c.in-Some.node.now c.args.self.now c.self.invariant c.self.view_is
    (omega (arith, c.if-self-eq0.false)) (sym c.in-Some.ensures) in
    record { was = r.was; left_less = r.left_less; right_less = r.right_less }
