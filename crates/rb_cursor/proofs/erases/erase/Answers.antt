-- The way up from the node's place is the whole erase: the facts of TakeSteps at the values of the
-- calls.
use Rattle.rb_cursor.proofs.Words.{◌≡◌, ◌++◌, refl, sym, ◌∙◌, ap, subst, arith, length}
use Rattle.rb_cursor.proofs.Words.{length-append, append_assoc, copy_number, shape, IsRedBlack}
use Rattle.rb_cursor.proofs.Words.{link, relink_root, plugged_to, root_moved, row_of, common_steps}
use Rattle.rb_cursor.proofs.StepLemmas.{all_back}
use Rattle.rb_cursor.proofs.TakeSteps.{ErasedWhole, found_there, place_few, place_fewer}
use Rattle.rb_cursor.proofs.TakeSteps.{erased_whole}
use Rattle.rb_cursor.proofs.erases.erase.Goals as goal
use Rattle.rb_cursor.proofs.erases.erase.Given.{Over}

pub take_node-short-requires-clause-steps : goal.take_node-short-requires-clause-steps
take_node-short-requires-clause-steps g c = grind (arith, common_steps, place_few)

pub climb-requires-clause-steps : goal.climb-requires-clause-steps
climb-requires-clause-steps g c = grind (arith, common_steps, place_fewer)

-- the whole tree, with the stores of both calls
made : (g : Over) (c : goal.After-link g)
    → ErasedWhole (copy_number c.args.copy) c.args.cursor.now.tree c.in-Some.row c.climb.new.cursor
    ((c.take_node-short.ensures.takes).0 ++ (c.climb.ensures.climbs).0)
made g c =
    erased_whole (g.P.Probe.seen c.args.sought.now) c.args.cursor.now.tree c.seek.ensures.path
    c.requires.whole (copy_number c.args.copy)
    c.seek.ensures.tree (sym c.in-Some.ensures) c.take_node-short.ensures.path
    (c.take_node-short.ensures.takes).2 (c.climb.ensures.climbs).2

stored : (g : Over) (c : goal.After-link g) → c.climb.new.out.items
    ≡ c.args.out.now.items ++ ((c.take_node-short.ensures.takes).0 ++ (c.climb.ensures.climbs).0)
stored g c = grind (arith, common_steps, append_assoc)

roots : (g : Over) (c : goal.After-link g)
    → relink_root (copy_number c.args.copy) c.link-root.result c.link.result
    ≡ relink_root (copy_number c.args.copy) (link (shape c.args.cursor.now.tree))
    (link (shape c.climb.new.cursor.tree))
roots g c = grind (arith, common_steps)

pub relink_root-requires : goal.relink_root-requires
relink_root-requires g c =
    omega (
      arith,
      (made g c).few,
      root_moved (copy_number c.args.copy) (link (shape c.args.cursor.now.tree))
          (link (shape c.climb.new.cursor.tree)),
      ap length (roots g c),
      ap length (stored g c),
      length-append c.args.out.now.items
          ((c.take_node-short.ensures.takes).0 ++ (c.climb.ensures.climbs).0),
    )

pub returns-clause-row : goal.returns-clause-row
returns-clause-row g c = found_there (g.P.Probe.seen c.args.sought.now) c.args.cursor.now.tree
    ∙ sym (c.in-Some.ensures ∙ ap row_of c.seek.ensures.tree)

pub returns-clause-rows : goal.returns-clause-rows
returns-clause-rows g c = let e = made g c.before in
    record { front = e.front; back = e.back; was = e.was; now = e.now }

pub returns-clause-balanced : goal.returns-clause-balanced
returns-clause-balanced g c = (made g c.before).good c.requires.good

pub returns-clause-links : goal.returns-clause-links
returns-clause-links g c = λ _.
    let links = (c.take_node-short.ensures.takes).0 ++ (c.climb.ensures.climbs).0 in
    let rs = relink_root (copy_number c.args.copy) (link (shape c.args.cursor.now.tree))
    (link (shape c.climb.new.cursor.tree)) in
    record {
      links = links ++ rs;
      stores =
          c.relink_root.ensures.items ∙ ap (λ ss. c.climb.new.out.items ++ ss) (roots g c.before)
          ∙ ap (λ ss. ss ++ rs) (stored g c.before)
          ∙ append_assoc c.args.out.now.items links rs;
      lead = (made g c.before).lead;
    }

pub returns-clause-path : goal.returns-clause-path
returns-clause-path g c = (made g c.before).path

pub returns-clause-few : goal.returns-clause-few
returns-clause-few g c =
    omega (
      arith,
      (made g c.before).few,
      root_moved (copy_number c.args.copy) (link (shape c.args.cursor.now.tree))
          (link (shape c.climb.new.cursor.tree)),
      ap length (roots g c.before),
      ap length (stored g c.before),
      length-append c.args.out.now.items
          ((c.take_node-short.ensures.takes).0 ++ (c.climb.ensures.climbs).0),
      simp length-append at (ap length c.relink_root.ensures.items),
      c.relink_root.new.out.ok.0,
      c.climb.new.out.ok.0,
      c.args.out.now.ok.0,
    )

pub returns-in_default-clause-row : goal.returns-in_default-clause-row
returns-in_default-clause-row g c = grind (arith, common_steps, found_there)

-- with none, the cursor is where it was
back : (g : Over) (c : goal.After-close_all g) → c.close_all.new.self ≡ c.args.cursor.now
back g c = grind (arith, common_steps, plugged_to, all_back)

pub returns-in_default-clause-unchanged : goal.returns-in_default-clause-unchanged
returns-in_default-clause-unchanged g c = λ _. (back g c, refl)

pub returns-in_default-clause-balanced : goal.returns-in_default-clause-balanced
returns-in_default-clause-balanced g c =
    subst (λ z. IsRedBlack z.tree) (sym (back g c)) c.requires.good
