use Rattle.rb_cursor.proofs.Words.{ℕ, ◌+◌, refl, sym, ap, ◌∙◌, arith, subst, Some, OnErr-from, Slab}
use Rattle.rb_cursor.proofs.Words.{slab_len, Updates, Node, common_steps}
use Rattle.rb_cursor.proofs.BlankLemmas.{grows, blank_node, blanked}
use Rattle.rb_cursor.proofs.FieldLemmas.{Moved}
use Rattle.rb_cursor.proofs.cursors.Cursor.add_blank.Goals as goal

pub invariant_of-self : goal.invariant_of-self
invariant_of-self c = grind (arith, common_steps, grows)

pub returns-in_err-reserve-clause-unchanged : goal.returns-in_err-reserve-clause-unchanged
returns-in_err-reserve-clause-unchanged c =
    let m = grows c.self.inside c.reserve.new.self c.args.self.now c.self.invariant c.self.view_is
    c.reserve.ensures.rest_kept c.reserve.ensures.capacity in
    OnErr-from c.from_residual.result m.shows

pub invariant_of-self-then-key : goal.invariant_of-self-then-key
invariant_of-self-then-key c = grind (arith, common_steps, grows)

pub returns-then-key-clause-unchanged : goal.returns-then-key-clause-unchanged
returns-then-key-clause-unchanged c =
    (grows c.self.inside c.reserve.new.self c.args.self.now c.self.invariant c.self.view_is
    c.reserve.ensures.rest_kept c.reserve.ensures.capacity).shows

there : (c : goal.After-self-2-1) →
    Moved (record c.self.inside {
      nodes = c.insert_reserved.new.self;
      blank = c.vacant_key-key.result + 1;
      room = c.self.inside.room + 1;
    }) (record c.args.self.now { room = c.args.self.now.room + 1 })
there c =
    blanked c.self.inside c.reserve.new.self c.insert_reserved.new.self c.args.self.now
    c.vacant_key-key.result (blank_node c.self.inside.blank) c.self.invariant c.self.view_is
    c.reserve.ensures.rest_kept c.reserve.ensures.capacity c.in_ok-reserve.ensures.room
    (omega (arith, ap (λ (z : Slab Node). slab_len z) c.reserve.ensures.rest_kept))
    c.vacant_key-key.ensures.vacant
    (subst (λ (k : ℕ). Updates c.reserve.new.self c.insert_reserved.new.self k
    (Some (blank_node c.self.inside.blank))) (c.insert_reserved.ensures.key
    ∙ sym c.vacant_key-key.ensures.value) c.insert_reserved.ensures.updates) refl
    c.insert_reserved.ensures.len c.insert_reserved.ensures.capacity

pub invariant_of-self-2 : goal.invariant_of-self-2
invariant_of-self-2 c = (there c).is

pub returns-clause-more : goal.returns-clause-more
returns-clause-more c = (there c).shows
