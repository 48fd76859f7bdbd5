use Rattle.rb_words.proofs.Words.{◌≡◌, ◌∙◌, false, sym, arith, meets, without_none, capacity_of}
use Rattle.rb_words.proofs.Words.{copy_number, common_steps}
use Rattle.rb_words.proofs.PlanLemmas.{AfterInsert, shown_insert, few_steps, met_none}
use Rattle.rb_words.proofs.shapes.Shape.plan_links_apart.Goals as goal
use Rattle.rb_words.proofs.shapes.Shape.plan_links_apart.Given.{Over}

pub returns-then-meets-clause-met : goal.returns-then-meets-clause-met
returns-then-meets-clause-met g c = grind (arith, common_steps, without_none)

pub plan_links-requires-clause-apart : goal.plan_links-requires-clause-apart
plan_links-requires-clause-apart g c = grind (arith, common_steps, without_none)

pub returns-then-not-in_line-clause-met : goal.returns-then-not-in_line-clause-met
returns-then-not-in_line-clause-met g c = grind (arith, common_steps, without_none)

pub insert_apart-requires-clause-steps : goal.insert_apart-requires-clause-steps
insert_apart-requires-clause-steps g c =
    few_steps g.O.TreeOrder.order (capacity_of c.self.inside.layout)
    (copy_number c.self.inside.copy) c.self.inside.cursor.tree c.self.inside.cursor.room
    (omega (arith, c.self.inside.layout.most)) c.self.invariant.0

pub returns-then-insert_apart-clause-met : goal.returns-then-insert_apart-clause-met
returns-then-insert_apart-clause-met g c =
    sym c.if-insert_apart.true ∙ c.insert_apart.ensures.met
    ∙ met_none g.O.TreeOrder.order g.met.O.TreeOrder.lawful
    (c.in_line.ensures c.if-not-in_line.false) c.requires.valid c.self.inside.cursor.tree
    c.self.invariant.0.is_table c.self.view_is

-- the item meets none
apart : (g : Over) (c : goal.After-self-1 g) →
    false ≡ meets g.O.TreeOrder.order c.args.item c.args.self.now.table
apart g c =
    sym c.if-insert_apart.false ∙ c.insert_apart.ensures.met
    ∙ met_none g.O.TreeOrder.order g.met.O.TreeOrder.lawful
    (c.in_line.ensures c.if-not-in_line.false) c.requires.valid c.self.inside.cursor.tree
    c.self.invariant.0.is_table c.self.view_is

-- what the shape shows with it
after : (g : Over) (c : goal.After-self-1 g) →
    AfterInsert g.O.TreeOrder.order (capacity_of c.self.inside.layout)
    (copy_number c.self.inside.copy) c.self.inside.cursor.tree c.insert_apart.new.cursor.tree
    c.insert_apart.new.cursor.room (record { node = c.args.node; item = c.args.item })
    (c.insert_apart.ensures.links c.if-insert_apart.false).links c.args.self.now
after g c =
    let none = c.if-insert_apart.false in
    let added = c.insert_apart.ensures.links none in
    shown_insert g.O.TreeOrder.order g.met.O.TreeOrder.lawful (capacity_of c.self.inside.layout)
    (copy_number c.self.inside.copy) c.self.inside.cursor.tree c.insert_apart.new.cursor.tree
    c.self.inside.cursor.room c.insert_apart.new.cursor.room (c.insert_apart.ensures.room none)
    c.self.invariant.0 (record { node = c.args.node; item = c.args.item }) added.links
    (c.insert_apart.ensures.rows none) c.insert_apart.ensures.balanced added.lead c.self.view_is
    (c.requires.in_range, c.requires.free, c.requires.valid, sym (apart g c))

pub invariant_of-self-2 : goal.invariant_of-self-2
invariant_of-self-2 g c =
    let shown = after g c in (
      shown.picture,
      c.insert_apart.ensures.balanced,
      omega (arith, shown.count, c.self.invariant.2),
      c.insert_apart.ensures.path,
    )

pub returns-clause-met : goal.returns-clause-met
returns-clause-met g c = apart g c

pub returns-clause-pictures : goal.returns-clause-pictures
returns-clause-pictures g c = λ _. (after g c).inserts

pub returns-clause-plan : goal.returns-clause-plan
returns-clause-plan g c = λ _.
    let added = c.insert_apart.ensures.links c.if-insert_apart.false in
    (added.links, added.stores, (after g c).leads)

pub returns-clause-few : goal.returns-clause-few
returns-clause-few g c = omega (arith, c.insert_apart.ensures.few)
