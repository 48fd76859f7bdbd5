use Rattle.latch_table.proofs.Words.{◌≡◌, refl, ◌-◌, ◌∷◌, [], suc, ◌∙◌, sym, ap, subst, arith}
use Rattle.latch_table.proofs.Words.{TableId, capacity_of, at, item_at, left_word, right_word}
use Rattle.latch_table.proofs.Words.{items, Tells, writer_of}
use Rattle.std.proofs.lemmas.Result.{on_ok_weaker}
use Rattle.latch_table.proofs.ReplacingLemmas.{no_tree, few_here, few_there, still_writes}
use Rattle.latch_table.proofs.ReplacingLemmas.{tells_fork, tells_there}
use Rattle.latch_table.proofs.writers.replacements.+note_tree.Goals as goal

pub returns-then-link-eq0-clause-told : goal.returns-then-link-eq0-clause-told
returns-then-link-eq0-clause-told g t c =
    λ u leads.
    let m = (writer_of c.args.seat.now.me.0).picture in
    subst (λ xs.
    Tells g.O.TreeOrder.order c.args.list.now c.args.difference.now xs c.args.difference.now)
    (ap (items m) (sym (no_tree m (capacity_of c.args.l) c.args.link c.if-link-eq0.true u leads)))
    (λ more rises. refl)

pub overflow_cast-node : goal.overflow_cast-node
overflow_cast-node g t c =
    let m = (writer_of c.args.seat.now.me.0).picture in
    let below = few_here m (capacity_of c.args.l) c.args.link c.args.most c.if-link-eq0.false
    c.requires.tree in
    omega (arith, below.0, c.args.l.most)

pub copied_word-left-requires-clause-within : goal.copied_word-left-requires-clause-within
copied_word-left-requires-clause-within g t c =
    let m = (writer_of c.args.seat.now.me.0).picture in
    let below = few_here m (capacity_of c.args.l) c.args.link c.args.most c.if-link-eq0.false
    c.requires.tree in
    omega (arith, below.0, c.left_of.ensures, c.requires.sized)

pub overflow_sub-most : goal.overflow_sub-most
overflow_sub-most g t c =
    let m = (writer_of c.args.seat.now.me.0).picture in
    (few_here m (capacity_of c.args.l) c.args.link c.args.most c.if-link-eq0.false
    c.requires.tree).1

pub note_tree-requires : goal.note_tree-requires
note_tree-requires g t c κs within =
    let m = (writer_of c.args.seat.now.me.0).picture in
    let n = capacity_of c.args.l in
    let below = few_here m n c.args.link c.args.most c.if-link-eq0.false c.requires.tree in
    let of = c.copied_word-left.ensures in
    let left : c.copied_word-left.result ≡ at m (left_word 0 (c.args.link - 1)) =
    of.value ∙ ap (at m) c.left_of.ensures in (
      omega (arith, c.decreases, below.1),
      (
        within.0,
        (
          within.1,
          (
            of.table ∙ c.requires.table,
            (
              ap (λ (z : TableId). z.words) of.table ∙ c.requires.sized,
              (
                still_writes _ _ of.view c.requires.writes,
                (
                  few_there m n (c.args.most - 1) _ _ _ (ap (λ s. (writer_of s.0).picture) of.view)
                      left below.2,
                  c.requires.rises,
                ),
              ),
            ),
          ),
        ),
      ),
    )

pub copied_item-item-requires-clause-within : goal.copied_item-item-requires-clause-within
copied_item-item-requires-clause-within g t c =
    let m = (writer_of c.args.seat.now.me.0).picture in
    (few_here m (capacity_of c.args.l) c.args.link c.args.most c.if-link-eq0.false
    c.requires.tree).0

pub copied_word-right-requires-clause-within : goal.copied_word-right-requires-clause-within
copied_word-right-requires-clause-within g t c =
    let m = (writer_of c.args.seat.now.me.0).picture in
    let below = few_here m (capacity_of c.args.l) c.args.link c.args.most c.if-link-eq0.false
    c.requires.tree in
    let table = c.copied_item-item.ensures.table ∙ c.in_ok-note_tree.ensures.table
    ∙ c.copied_word-left.ensures.table in
    omega (arith, ap (λ (z : TableId). z.words) table)

pub overflow_sub-most-2 : goal.overflow_sub-most-2
overflow_sub-most-2 g t c =
    let m = (writer_of c.args.seat.now.me.0).picture in
    (few_here m (capacity_of c.args.l) c.args.link c.args.most c.if-link-eq0.false
    c.requires.tree).1

pub note_tree-requires-2 : goal.note_tree-requires-2
note_tree-requires-2 g t c κs within =
    let m = (writer_of c.args.seat.now.me.0).picture in
    let n = capacity_of c.args.l in
    let below = few_here m n c.args.link c.args.most c.if-link-eq0.false c.requires.tree in
    let of = c.copied_word-right.ensures in
    let before = c.copied_item-item.ensures.view ∙ c.in_ok-note_tree.ensures.view
    ∙ c.copied_word-left.ensures.view in
    let table = of.table ∙ c.copied_item-item.ensures.table ∙ c.in_ok-note_tree.ensures.table
    ∙ c.copied_word-left.ensures.table in
    let right : c.copied_word-right.result ≡ at m (right_word 0 (c.args.link - 1)) =
    of.value ∙ (λ i. at (writer_of (before i).0).picture (c.right_of.ensures i)) in (
      omega (arith, c.decreases, below.1),
      (
        within.0,
        (
          within.1,
          (
            table ∙ c.requires.table,
            (
              ap (λ (z : TableId). z.words) table ∙ c.requires.sized,
              (
                still_writes _ _ (of.view ∙ before) c.requires.writes,
                (
                  few_there m n (c.args.most - 1) _ _ _
                      (ap (λ s. (writer_of s.0).picture) (of.view ∙ before)) right below.3,
                  c.requires.rises,
                ),
              ),
            ),
          ),
        ),
      ),
    )

pub returns-clause-told : goal.returns-clause-told
returns-clause-told g t c =
    let o = g.O.TreeOrder.order in
    let list = c.args.list.now in
    let m = (writer_of c.args.seat.now.me.0).picture in
    let n = capacity_of c.args.l in
    let is : c.args.link ≡ suc (c.args.link - 1) = omega (arith, c.if-link-eq0.false) in
    let first = c.copied_word-left.ensures in
    let second = c.in_ok-note_tree.ensures in
    let third = c.copied_item-item.ensures in
    let fourth = c.copied_word-right.ensures in
    let before = third.view ∙ second.view ∙ first.view in
    let left : c.copied_word-left.result ≡ at m (left_word 0 (c.args.link - 1)) =
    first.value ∙ ap (at m) c.left_of.ensures in
    let right : c.copied_word-right.result ≡ at m (right_word 0 (c.args.link - 1)) =
    fourth.value ∙ (λ i. at (writer_of (before i).0).picture (c.right_of.ensures i)) in
    let item : c.copied_item-item.result ≡ item_at m (c.args.link - 1) = third.item
    ∙ ap (λ s. item_at (writer_of s.0).picture (c.args.link - 1)) (second.view ∙ first.view) in
    on_ok_weaker c.note_tree-2.result
    (λ rest. tells_fork m n c.args.link (c.args.link - 1) is o list c.args.difference.now
    c.note_tree.new.difference c.tell.new.self c.note_tree-2.new.difference
    (tells_there o list n m _ _ _ c.args.difference.now c.note_tree.new.difference
    (ap (λ s. (writer_of s.0).picture) first.view) left second.told)
    (subst (λ x. Tells o list c.note_tree.new.difference (x ∷ []) c.tell.new.self) item
    c.in_ok-tell.ensures)
    (tells_there o list n m _ _ _ c.tell.new.self c.note_tree-2.new.difference
    (ap (λ s. (writer_of s.0).picture) (fourth.view ∙ before)) right rest))
    c.note_tree-2.ensures.told
