-- The way up from the place of the item: the facts of InsertSteps there.
use Rattle.rb_cursor.proofs.Words.{◌≡◌, subst, copy_number, AddsLinks}
use Rattle.rb_cursor.proofs.InsertSteps.{insert_whole, insert_puts}
use Rattle.rb_cursor.proofs.inserts.insert.Goals as goal

pub returns-clause-rows : goal.returns-clause-rows
returns-clause-rows g c =
    insert_puts g.O.TreeOrder.order c.args.added c.args.cursor.now.tree c.seek_leaf.ensures.path
    c.requires.whole g.met.O.TreeOrder.lawful c.requires.table c.grow.ensures.rows

pub returns-clause-links : goal.returns-clause-links
returns-clause-links g c = subst (λ t. AddsLinks (λ i. i ≡ c.args.added.node)
    (copy_number c.args.copy) t c.grow.new.cursor.tree c.args.out.now c.grow.new.out)
    (insert_whole g.O.TreeOrder.order c.args.added c.args.cursor.now.tree c.seek_leaf.ensures.path
    c.requires.whole) c.grow.ensures.links
