use Rattle.latch_table.proofs.Words.{rules, ◌∙◌, refl, sym, subst, Me, TableId}
use Rattle.latch_table.proofs.Words.{Knowledge, WriterState, writer_state, IsTied, Begins}
use Rattle.latch_table.proofs.WriterLemmas.{tied_begun, begins}
use Rattle.latch_table.proofs.writers.Writer.begin.Goals as goal

pub invariant_of-self-2 : goal.invariant_of-self-2
invariant_of-self-2 g c =
    let w = c.self.inside in
    let of = c.in_ok-begin.ensures in
    let table = c.load_ahead.ensures.table ∙ c.take_update.ensures.table in
    let view = c.load_ahead.ensures.view ∙ c.take_update.ensures.view in (
      table ∙ c.self.invariant.0,
      search rules,
      subst (λ (z : TableId × Me (Unit {0}) Knowledge). IsTied g.O.TreeOrder.order z.1
          c.begin.new.self (writer_state z.0 w.readers z.1.0 c.begin.new.self))
          (λ i. (sym table i, sym view i))
          (tied_begun _ g.met.O.TreeOrder.lawful _ _ _ _ c.self.invariant.2 _ of.accepted _
          of.begun.1),
    )

pub returns : goal.returns
returns g c =
    let w = c.self.inside in
    let of = c.in_ok-begin.ensures in
    let table = c.load_ahead.ensures.table ∙ c.take_update.ensures.table in
    let view = c.load_ahead.ensures.view ∙ c.take_update.ensures.view in
    let begun =
    begins _ g.met.O.TreeOrder.lawful _ _ _ _ c.self.invariant.2 _ of.accepted _ of.begun.1 in
    let there = subst
    (λ (z : WriterState × WriterState). Begins g.O.TreeOrder.order z.0 c.args.u z.1)
    (λ i. (
      c.self.view_is i,
      writer_state (sym table i) w.readers (sym view i).0 c.begin.new.self,
    )) begun in (
      (refl, (λ v. refl), tt),
      record { rests = tt; same_reference = refl; begun = there; refused = tt },
    )
