-- The next record in the place, and the stores of its links: the facts of TakeSteps at the values
-- of the calls.
use Rattle.rb_cursor.proofs.Words.{◌≡◌, ℕ, List, [], ◌∷◌, ◌++◌, sym, ◌∙◌, ap, subst, append-nil}
use Rattle.rb_cursor.proofs.Words.{append_assoc, copy_number, Store, Left, Right, branch, shape}
use Rattle.rb_cursor.proofs.Words.{set_link, link, IsForked, common_steps, arith}
use Rattle.rb_cursor.proofs.StepLemmas.{zipper}
use Rattle.rb_cursor.proofs.TakeSteps.{same_fork, lone_taken, next_placed, next_taken}
use Rattle.rb_cursor.proofs.TakeSteps.{next_filled_up}
use Rattle.rb_cursor.proofs.erases.take_node.Goals as goal
use Rattle.rb_cursor.proofs.erases.take_node.Goals.{After-push_reserved-2}

abbrev store : ℕ → ℕ → Store
store word value = record { word = word; value = value }

pub returns-then-is_empty-clause-takes : goal.returns-then-is_empty-clause-takes
returns-then-is_empty-clause-takes c = (
  [],
  sym (append-nil c.args.out.now.items),
  lone_taken (copy_number c.args.copy)
      (subst (λ t. IsForked t c.in-Some.fork) c.tree.ensures c.in-Some.ensures)
      (sym c.if-is_empty.true ∙ c.is_empty.ensures)
      (ap (λ z. z.tree) c.take_top.ensures) (ap (λ z. z.tree) c.lower.ensures.cursor)
      c.lower.ensures.short,
)

-- the node that was read and then opened
same : (c : After-push_reserved-2)
    → (c.in-Some.fork.node.now.red ≡ c.in-Some-open.field-0.red)
    × (c.in-Some.fork.left ≡ (c.in-Some-open.ensures).other)
    × (c.in-Some.fork.right ≡ c.open-2.new.self.tree)
same c = same_fork (subst (λ t. IsForked t c.in-Some.fork) c.tree.ensures c.in-Some.ensures)
    c.in-Some-open.ensures

-- the place with the next record
there : (c : After-push_reserved-2)
    → c.set_row.new.self
    ≡ zipper (branch c.in-Some-open.field-0.red (c.in-Some-open.ensures).other
    c.take_first-next.result.row c.take_first-next.new.cursor.tree) c.args.cursor.now.path
    c.take_first-next.new.cursor.room
there c = grind (arith, common_steps, next_placed, same)

-- with the links of both of its subtrees
abbrev links : After-push_reserved-2 → List Store
links c =
    (c.take_first-next.ensures.takes).0
    ++ (set_link Left (copy_number c.args.copy) c.take_first-next.result.row.node
    (link (shape (c.in-Some-open.ensures).other))
    ∷ set_link Right (copy_number c.args.copy) c.take_first-next.result.row.node
    (link (shape c.take_first-next.new.cursor.tree)) ∷ [])

stored : (c : After-push_reserved-2)
    → c.push_reserved-2.new.self.items ≡ c.args.out.now.items ++ links c
stored c = grind (arith, common_steps, same, append_assoc)

pub returns-clause-takes : goal.returns-clause-takes
returns-clause-takes c = grind (arith, common_steps, stored, there, next_taken)

pub returns-then-next-clause-takes : goal.returns-then-next-clause-takes
returns-then-next-clause-takes c =
    grind (arith, common_steps, After-push_reserved-2, there, stored, append_assoc, next_filled_up)
