use Rattle.rb_words.proofs.Words.{arith, capacity_of, copy_number}
use Rattle.rb_words.proofs.PlanLemmas.{AfterInsert, shown_insert, few_steps}
use Rattle.rb_words.proofs.shapes.Shape.plan_links.Goals as goal
use Rattle.rb_words.proofs.shapes.Shape.plan_links.Given.{Over}

pub insert-requires-clause-steps : goal.insert-requires-clause-steps
insert-requires-clause-steps g c =
    few_steps g.O.TreeOrder.order (capacity_of c.self.inside.layout)
    (copy_number c.self.inside.copy) c.self.inside.cursor.tree c.self.inside.cursor.room
    (omega (arith, c.self.inside.layout.most)) c.self.invariant.0

-- what the shape shows with the item
after : (g : Over) (c : goal.After-self-1 g) →
    AfterInsert g.O.TreeOrder.order (capacity_of c.self.inside.layout)
    (copy_number c.self.inside.copy) c.self.inside.cursor.tree c.insert.new.cursor.tree
    c.insert.new.cursor.room (record { node = c.args.node; item = c.args.item })
    c.insert.ensures.links.links c.args.self.now
after g c =
    shown_insert g.O.TreeOrder.order g.met.O.TreeOrder.lawful (capacity_of c.self.inside.layout)
    (copy_number c.self.inside.copy) c.self.inside.cursor.tree c.insert.new.cursor.tree
    c.self.inside.cursor.room c.insert.new.cursor.room c.insert.ensures.room c.self.invariant.0
    (record { node = c.args.node; item = c.args.item }) c.insert.ensures.links.links
    c.insert.ensures.rows c.insert.ensures.balanced c.insert.ensures.links.lead c.self.view_is
    (c.requires.in_range, c.requires.free, c.requires.valid, c.requires.apart)

pub invariant_of-self : goal.invariant_of-self
invariant_of-self g c =
    let shown = after g c in (
      shown.picture,
      c.insert.ensures.balanced,
      omega (arith, shown.count, c.self.invariant.2),
      c.insert.ensures.path,
    )

pub returns : goal.returns
returns g c =
    let shown = after g c in
    record {
      pictures = shown.inserts;
      plan = (c.insert.ensures.links.links, c.insert.ensures.links.stores, shown.leads);
      few = omega (arith, c.insert.ensures.few);
      capacity = c.insert.ensures.capacity;
    }
