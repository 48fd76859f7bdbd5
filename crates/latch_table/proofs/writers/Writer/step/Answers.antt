use Rattle.latch_table.proofs.Words.{rules, ◌≡◌, Some, sym, subst, arc_value, words_for, Me}
use Rattle.latch_table.proofs.Words.{TableId, WriterView, Knowledge, WriterState, writer_state}
use Rattle.latch_table.proofs.Words.{IsTied, Steps, kind_of_store}
use Rattle.latch_table.proofs.WriterLemmas.{allows_next, tied_after, steps_next, did_flip}
use Rattle.latch_table.proofs.WriterLemmas.{did_store}
use Rattle.latch_table.proofs.writers.Writer.step.Goals as goal

pub store-requires : goal.store-requires
store-requires g c =
    let w = c.self.inside in
    let s = c.in_ok-store.store in (
      search rules,
      search rules,
      allows_next _ _ _ _ _ c.self.invariant.2 s (sym c.in_ok-store.ensures.which) _ _ _ _,
    )

-- at the end of the update nothing has changed
pub invariant_of-self : goal.invariant_of-self
invariant_of-self g c =
    let w = c.self.inside in
    subst
    (λ (core : WriterView).
    (w.seat.table_id ≡ (arc_value w.table).shared.table_id)
    × (w.seat.table_id.words ≡ words_for core.capacity)
    × IsTied g.O.TreeOrder.order w.seat.me core
    (writer_state w.seat.table_id w.readers w.seat.me.0 core)) (sym c.in_err-store.ensures.none)
    c.self.invariant

pub invariant_of-self-2 : goal.invariant_of-self-2
invariant_of-self-2 g c =
    let w = c.self.inside in
    let next = sym c.in_ok-store.ensures.which in
    let tied = tied_after _ _ _ _ _ c.self.invariant.2 c.in_ok-store.store next in (
      search rules,
      search rules,
      subst (λ (z : TableId × Me (Unit {0}) Knowledge × WriterView).
          IsTied g.O.TreeOrder.order z.1 z.2 (writer_state z.0 w.readers z.1.0 z.2))
          (λ i. (
            sym c.store.ensures.0 i,
            sym c.store.ensures.2 i,
            sym (c.in_ok-store.ensures.stepped) i,
          )) tied,
    )

pub returns : goal.returns
returns g c =
    let w = c.self.inside in
    let s = c.in_ok-store.store in
    let next = sym c.in_ok-store.ensures.which in
    let did : c.if-store-eq0.result ≡ kind_of_store s = elim c.if-store-eq0.branch [
      | goal.then-store-eq0 b ↦ did_flip s c.if-store-eq0.result b.if-store-eq0.true b.result-is
      | goal.else-store-eq0 b ↦ did_store s c.if-store-eq0.result b.if-store-eq0.false b.result-is
    ] in
    let steps = steps_next _ _ _ _ _ c.self.invariant.2 s next c.if-store-eq0.result did in
    subst (λ (z : WriterState × WriterState). Steps z.0 z.1 (Some c.if-store-eq0.result))
    (λ i. (
      c.self.view_is i,
      writer_state (sym c.store.ensures.0 i) w.readers (sym c.store.ensures.2 i).0
          (sym (c.in_ok-store.ensures.stepped) i),
    )) steps
