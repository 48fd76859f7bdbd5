-- The way up from the first node's place: the facts of TakeSteps at the values of the calls.
use Rattle.rb_cursor.proofs.Words.{◌≡◌, sym, ◌∙◌, ap, copy_number, TakesFirst, common_steps, arith}
use Rattle.rb_cursor.proofs.TakeSteps.{first_some, first_thin, first_few, first_taken}
use Rattle.rb_cursor.proofs.erases.take_first.Goals as goal

pub unreachable-requires : goal.unreachable-requires
unreachable-requires c = grind (arith, common_steps, first_some)

pub take_top-requires : goal.take_top-requires
take_top-requires c = first_thin c.args.cursor.now.tree c.requires.fork c.seek_first.ensures.tree

pub climb-short-requires-clause-steps : goal.climb-short-requires-clause-steps
climb-short-requires-clause-steps c = grind (arith, common_steps, first_few)

-- the way up makes what is left of the tree without its first node
made : (c : goal.After-climb-short)
    → TakesFirst (copy_number c.args.copy) c.args.cursor.now.tree c.climb-short.new.cursor.tree
    c.in-Some.row c.climb-short.result (c.climb-short.ensures.climbs).0
    × (c.climb-short.new.cursor.path ≡ c.args.cursor.now.path)
made c =
    first_taken c.args.cursor.now.tree c.requires.fork (copy_number c.args.copy)
    c.depth-depth.result c.args.cursor.now.path c.depth-depth.ensures
    c.lower-short.new.cursor c.seek_first.new.self.tree c.take_top.new.self.tree
    c.seek_first.ensures.tree (ap (λ z. z.path) c.lower-short.ensures.cursor ∙ ap (λ z. z.path)
    c.take_top.ensures ∙ c.seek_first.ensures.path) (sym c.in-Some.ensures) c.is_red-red.ensures
    (ap (λ z. z.tree) c.take_top.ensures) (ap (λ z. z.tree) c.lower-short.ensures.cursor)
    c.lower-short.ensures.short (c.climb-short.ensures.climbs).2

pub returns-clause-takes : goal.returns-clause-takes
returns-clause-takes c = let e = c.climb-short.ensures.climbs in (e.0, e.1, (made c).0)

pub returns-clause-path : goal.returns-clause-path
returns-clause-path c = (made c).1
