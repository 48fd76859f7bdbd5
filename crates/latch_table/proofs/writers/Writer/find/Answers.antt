use Rattle.latch_table.proofs.Words.{rules, ◌≡◌, sym, ◌∙◌, subst, TableId, capacity_of}
use Rattle.latch_table.proofs.Words.{WriterKnowledge, IsLatched, writer_of, WriterState}
use Rattle.latch_table.proofs.Words.{writer_state, IsTied, Finds}
use Rattle.latch_table.proofs.WriterLemmas.{latched_now, tied_loads, finds_state}
use Rattle.latch_table.proofs.writers.Writer.find.Goals as goal

pub look_up-requires-clause-latched : goal.look_up-requires-clause-latched
look_up-requires-clause-latched g c =
    let w = c.self.inside in
    let p : WriterKnowledge = writer_of w.seat.me.0 in
    subst (λ n. IsLatched g.O.TreeOrder.order n p.base p.picture p.known)
    (sym c.layout-layout.ensures.capacity) (latched_now _ _ _ _ _ c.self.invariant.2)

pub invariant_of-self : goal.invariant_of-self
invariant_of-self g c =
    let w = c.self.inside in
    let m' = c.look_up.new.seat.me in
    let tied = tied_loads _ _ _ _ _ m' (writer_of m'.0).loads c.self.invariant.2
    c.look_up.ensures.view in (
      search rules,
      search rules,
      subst (λ (z : TableId). IsTied g.O.TreeOrder.order m' w.core
          (writer_state z w.readers m'.0 w.core)) (sym c.look_up.ensures.table) tied.0,
    )

pub returns : goal.returns
returns g c =
    let o = g.O.TreeOrder.order in
    let w = c.self.inside in
    let m' = c.look_up.new.seat.me in
    let tied =
    tied_loads _ _ _ _ _ m' (writer_of m'.0).loads c.self.invariant.2 c.look_up.ensures.view in
    let new : WriterState = writer_state c.look_up.new.seat.table_id w.readers m'.0 w.core in
    let same : new ≡ writer_state w.seat.table_id w.readers m'.0 w.core =
    λ i. writer_state (c.look_up.ensures.table i) w.readers m'.0 w.core in
    subst (λ (z : WriterState). Finds o z c.args.k new c.look_up.result) c.self.view_is
    (finds_state _ _ _ _ _ c.self.invariant.2 (capacity_of c.layout-layout.result) c.args.k
    (writer_of m'.0).loads c.look_up.result c.layout-layout.ensures.capacity
    c.look_up.ensures.found new (same ∙ tied.1))
