-- Each goal of the loop is one of the facts of InsertSteps at the values of the step.
use Rattle.rb_cursor.proofs.Words.{◌≡◌, ℕ, ◌-◌, [], ◌∷◌, ◌++◌, refl, sym, ◌∙◌, ap, subst, arith}
use Rattle.rb_cursor.proofs.Words.{length, length-append, append_assoc, vec_capacity, copy_number}
use Rattle.rb_cursor.proofs.Words.{Store, Left, set_link, tip, shape, blackened, IsRedBlack, link}
use Rattle.rb_cursor.proofs.Words.{relink_root, Lead, plugged, common_steps}
use Rattle.rb_cursor.proofs.StepLemmas.{shorter}
use Rattle.rb_cursor.proofs.InsertSteps.{InsertEnds, insert_begins, insert_at_red, insert_at_black}
use Rattle.rb_cursor.proofs.InsertSteps.{mend_fits, relink_fits, there_is, insert_settled_black}
use Rattle.rb_cursor.proofs.InsertSteps.{insert_settled_below, insert_topmost, ends_lead, ends_few}
use Rattle.rb_cursor.proofs.inserts.grow.Goals as goal
use Rattle.rb_cursor.proofs.inserts.grow.Goals.{in-Some+then-not-red}
use Rattle.rb_cursor.proofs.inserts.grow.Goals.{in-Some+else-not-red+else-above+else-clashes}
use Rattle.rb_cursor.proofs.inserts.grow.Goals.{in_default}

abbrev store : ℕ → Store
store word = record { word = word; value = 0 }

pub loop-above-init : goal.loop-above-init
loop-above-init c = record {
  rises = insert_begins (c.args.cursor.now.room - 1) c.plant.ensures
      (c.push_reserved-2.ensures.items
      ∙ ap (λ ss. ss ++ store c.right_of.result ∷ []) c.push_reserved.ensures.items
      ∙ append_assoc c.args.out.now.items (store c.left_of.result ∷ [])
      (store c.right_of.result ∷ [])
      ∙ ap (λ w. c.args.out.now.items ++ store w ∷ store c.right_of.result ∷ []) c.left_of.ensures
      ∙ ap (λ w. c.args.out.now.items ++ set_link Left (copy_number c.args.copy) c.args.added.node 0
      ∷ store w ∷ []) c.right_of.ensures);
  few = omega (arith, ap (λ z. length z.path) c.plant.ensures, c.requires.steps);
  room = refl;
  capacity = c.push_reserved-2.ensures.capacity ∙ c.push_reserved.ensures.capacity;
}

pub loop-above-preserved-then-above : goal.loop-above-preserved-then-above
loop-above-preserved-then-above c = grind (arith, common_steps, insert_at_red, shorter, there_is)

pub mend-requires-clause-list : goal.mend-requires-clause-list
mend-requires-clause-list c = grind (arith, common_steps, length-append, mend_fits, relink_fits)

pub loop-above-preserved : goal.loop-above-preserved
loop-above-preserved c = grind (arith, common_steps, there_is, insert_at_black, shorter)

-- the way ended at a node above which nothing changes, or at the top
ends : (c : goal.After-link)
    → InsertEnds (copy_number c.args.copy) c.args.added c.args.cursor.now.path c.args.out.now.items
    c.close_all.new.self.tree c.match-above.out.items
ends c =
    let copy = copy_number c.args.copy in
    let now = c.match-above.out.items in
    let inv = c.loop-above.invariant in
    let start = c.args.cursor.now.path in
    let first = c.args.out.now.items in
    subst (λ z. InsertEnds copy c.args.added start first z.tree now) (sym c.close_all.ensures)
    (elim c.match-above.branch [
      | in-Some+then-not-red w ↦
          insert_settled_black inv.rises w.in-Some.ensures w.if-not-red.true
          (w.cursor-is ∙ w.rise.ensures) (ap (λ v. v.items) w.out-is ∙ w.relink.ensures.items)
      | in-Some+else-not-red+else-above+else-clashes w ↦
          insert_settled_below inv.rises w.in-Some.ensures w.if-above.false w.if-clashes.false
          (w.cursor-is ∙ w.rise.ensures) (ap (λ v. v.items) w.out-is ∙ w.relink.ensures.items)
      | in_default w ↦
          subst (λ ss. InsertEnds copy c.args.added start first
          (plugged c.match-above.cursor.path c.match-above.cursor.tree) ss)
          (sym (ap (λ v. v.items) w.out-is))
          (subst (λ z. InsertEnds copy c.args.added start first (plugged z.path z.tree)
          c.loop-above.out.items) (sym w.cursor-is)
          (insert_topmost inv.rises w.in_default.ensures))
    ])

kept : (c : goal.After-link) → vec_capacity c.match-above.out ≡ vec_capacity c.args.out.now
kept c = grind (arith, common_steps, in_default)

-- the root's link is told by the trees
roots : (c : goal.After-link)
    → relink_root (copy_number c.args.copy) c.args.root c.link.result
    ≡ relink_root (copy_number c.args.copy) (link (shape (plugged c.args.cursor.now.path tip)))
    (link (shape (blackened c.close_all.new.self.tree)))
roots c = grind (arith, common_steps)

pub relink_root-requires : goal.relink_root-requires
relink_root-requires c =
    let e = ends c in
    omega
    (arith, ends_few e, ap length (roots c), simp length-append at (ap length e.stores), kept c)

pub returns-clause-balanced : goal.returns-clause-balanced
returns-clause-balanced c =
    subst (λ z. IsRedBlack z.tree) (sym c.blacken.ensures) ((ends c.before).good c.requires.good)

pub returns-clause-links : goal.returns-clause-links
returns-clause-links c =
    let e = ends c.before in
    let copy = copy_number c.args.copy in
    let rs = relink_root copy (link (shape (plugged c.args.cursor.now.path tip)))
    (link (shape (blackened c.close_all.new.self.tree))) in
    record {
      links = e.links ++ rs;
      stores =
          c.relink_root.ensures.items ∙ ap (λ ss. c.match-above.out.items ++ ss) (roots c.before)
          ∙ ap (λ ss. ss ++ rs) e.stores ∙ append_assoc c.args.out.now.items e.links rs;
      lead = subst (λ z. Lead (λ i. i ≡ c.args.added.node) copy
          (shape (plugged c.args.cursor.now.path tip)) (shape z.tree) (e.links ++ rs))
          (sym c.blacken.ensures) (ends_lead e);
    }

pub returns-clause-few : goal.returns-clause-few
returns-clause-few c =
    let e = ends c.before in
    omega (
      arith,
      ends_few e,
      ap length (roots c.before),
      simp length-append at (ap length e.stores),
      simp length-append at (ap length c.relink_root.ensures.items),
    )
