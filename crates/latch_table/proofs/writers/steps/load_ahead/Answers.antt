use Rattle.latch_table.proofs.Words.{ap, subst, ◌∙◌, ◌<◌, List, arith, get_or, TableId, Store}
use Rattle.std.proofs.lemmas.List.Elements.{All-get_or}
use Rattle.latch_table.proofs.RuleLemmas.{allows_copy}
use Rattle.latch_table.proofs.writers.steps.load_ahead.Goals as goal

pub load-requires : goal.load-requires
load-requires g c =
    let inv = c.loop-place.invariant in
    let stores : List Store = c.args.stores.now in
    let within = All-get_or (λ (s : Store). s.word < c.args.seat.now.table_id.words) stores
    c.loop-place.place (record { word = 0; value = 0 })
    (omega (arith, c.loop-place-test.true, c.min-ahead.ensures)) c.requires.within in (
      inv.0 ∙ c.requires.table,
      subst (λ (t : TableId).
          (get_or stores c.loop-place.place (record { word = 0; value = 0 })).word < t.words)
          c.requires.table within,
      allows_copy g.O.TreeOrder.order _ _ _ _ _ _ _
          (ap (λ m. m.0.writer) (inv.1 ∙ c.requires.writes)),
    )
