use Rattle.rb_words.proofs.Words.{refl, sym, subst, arith, capacity_of, copy_number}
use Rattle.rb_words.proofs.PlanLemmas.{AfterErase, after_erase, few_steps}
use Rattle.rb_words.proofs.shapes.Shape.plan_erase_found.Goals as goal
use Rattle.rb_words.proofs.shapes.Shape.plan_erase_found.Given.{Over}

pub without_word-requires-clause-steps : goal.without_word-requires-clause-steps
without_word-requires-clause-steps g c =
    few_steps g.O.TreeOrder.order (capacity_of c.self.inside.layout)
    (copy_number c.self.inside.copy) c.self.inside.cursor.tree c.self.inside.cursor.room
    (omega (arith, c.self.inside.layout.most)) c.self.invariant.0

-- what the shape shows without the item
after : (g : Over) (c : goal.After-self-1 g) →
    AfterErase g.O.TreeOrder.order (capacity_of c.self.inside.layout)
    (copy_number c.self.inside.copy) c.self.inside.cursor.tree c.without_word.new.cursor.tree
    c.without_word.new.cursor.room c.args.a c.in_ok-node.node
    (c.in_ok-node.ensures.links refl).links c.args.self.now
after g c =
    let added = c.in_ok-node.ensures.links refl in
    let t = c.self.inside.cursor.tree in
    subst (AfterErase g.O.TreeOrder.order (capacity_of c.self.inside.layout)
    (copy_number c.self.inside.copy) t c.without_word.new.cursor.tree
    c.without_word.new.cursor.room c.args.a c.in_ok-node.node added.links) c.self.view_is
    (after_erase g.O.TreeOrder.order g.met.O.TreeOrder.lawful (capacity_of c.self.inside.layout)
    (copy_number c.self.inside.copy) t c.without_word.new.cursor.tree c.self.inside.cursor.room
    c.without_word.new.cursor.room (c.in_ok-node.ensures.room refl) c.self.invariant.0 c.args.a
    c.in_ok-node.node added.links c.in_ok-node.ensures.gone c.in_ok-node.ensures.balanced added.lead
    (sym c.in_ok-node.ensures.found))

pub invariant_of-self-2 : goal.invariant_of-self-2
invariant_of-self-2 g c =
    let shown = after g c in (
      shown.picture,
      c.in_ok-node.ensures.balanced,
      omega (arith, shown.count, c.self.invariant.2),
      c.in_ok-node.ensures.path,
    )

pub returns-clause-pictures : goal.returns-clause-pictures
returns-clause-pictures g c = (after g c).erases

pub returns-clause-plan : goal.returns-clause-plan
returns-clause-plan g c = λ _.
    let added = c.in_ok-node.ensures.links refl in (added.links, added.stores, (after g c).leads)
