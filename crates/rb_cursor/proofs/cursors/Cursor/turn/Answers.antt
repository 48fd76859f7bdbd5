use Rattle.rb_cursor.proofs.Words.{◌-◌, ℕ, sym, ap, ◌∙◌, arith, Side, Node, opposite, child_at}
use Rattle.rb_cursor.proofs.Words.{with_link}
use Rattle.rb_cursor.proofs.TurnLemmas.{with_turn, turned_to, turns, lone, none_turned}
use Rattle.rb_cursor.proofs.FieldLemmas.{Moved, none_there}
use Rattle.rb_cursor.proofs.cursors.Cursor.turn.Goals as goal

pub returns-then-link-eq0 : goal.returns-then-link-eq0
returns-then-link-eq0 c =
    none_turned c.args.side c.args.self.now c.args.child_red c.args.node_red
    (none_there c.self.inside c.args.self.now c.self.invariant c.self.view_is c.if-link-eq0.true)

pub returns-then-child-eq0 : goal.returns-then-child-eq0
returns-then-child-eq0 c =
    lone c.self.inside c.args.side c.args.self.now (c.self.inside.tree - 1) c.child-child.result
    c.args.child_red c.args.node_red c.in-Some.node.now c.self.invariant c.self.view_is
    (omega (arith, c.if-link-eq0.false)) (sym c.in-Some.ensures)
    (c.child-child.ensures
    ∙ ap (λ (s : Side). child_at s c.in-Some.node.now) c.opposite-other.ensures)
    c.if-child-eq0.true

there : (c : goal.After-lead) →
    Moved (with_turn c.self.inside c.lead.new.nodes c.child-child.result)
    (turned_to c.args.self.now c.args.side c.args.child_red c.args.node_red)
there c =
    let upper = c.index_mut-upper.result.now in
    turns c.self.inside c.args.side c.lead.new.nodes c.args.self.now (c.self.inside.tree - 1)
    (c.child-child.result - 1) c.child-child.result c.args.child_red c.args.node_red
    c.in-Some.node.now c.index_mut-lower.result.now
    (record c.set_child.new.self { red = c.args.child_red }) upper
    (record c.set_child-2.new.self { red = c.args.node_red }) c.self.invariant c.self.view_is
    (record {
      tree = omega (arith, c.if-link-eq0.false);
      here = sym c.in-Some.ensures;
      child = c.child-child.ensures
          ∙ ap (λ (s : Side). child_at s c.in-Some.node.now) c.opposite-other.ensures;
      some = omega (arith, c.if-child-eq0.false);
      there = c.index_mut-lower.ensures.value;
      low_is = ap (λ (n : Node). record n { red = c.args.child_red }) c.set_child.ensures;
      again = c.index_mut-upper.ensures.value;
      high_is = ap (λ (n : Node). record n { red = c.args.node_red })
          (c.set_child-2.ensures
          ∙ ap (λ (s : Side). with_link s c.child-middle.result upper) c.opposite-other.ensures
          ∙ ap (λ (l : ℕ). with_link (opposite c.args.side) l upper) c.child-middle.ensures);
      leaves = c.lead.ensures;
    })

pub invariant_of-self : goal.invariant_of-self
invariant_of-self c = (there c).is

pub returns : goal.returns
returns c = (there c).shows
