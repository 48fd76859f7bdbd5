use Rattle.latch_steps.proofs.Definitions.{refl, ◌+◌, subst, sym, arith, Read, Lookup, Loaded}
use Rattle.latch_steps.proofs.Definitions.{Retried, Outcome, Goes, Retries}
use Rattle.latch_steps.proofs.ReportLemmas.{Loading, loads_more, load_ends, all_loaded}
use Rattle.latch_steps.proofs.lookups.Lookup.load_on.Goals as goal

pub loop-turn-preserved : goal.loop-turn-preserved
loop-turn-preserved g c = λ n limit w words is e.
    let o = g.O.TreeOrder.order in
    let reports = g.R.Report.reports c.args.report.now in
    let next = c.counted_up-events.result in
    let h = c.loop-turn.invariant n limit w words is e in
    let told = λ (x : Outcome g.row.O-Key.Denot).
    reports c.loop-turn.to (Read c.args.reader) x c.report-in-loop-turn.new.to in
    let made =
    λ (lk : Lookup g.row.O.Denot g.row.O-Key.Denot). Loading o n limit reports w c.args.reader
    c.args.most c.args.to.now (c.loop-turn._turn + 1) lk next c.report-in-loop-turn.new.to in
    elim c.match-load.branch [
      | goal.in-Going x ↦ subst made (sym x.lookup-is)
          (loads_more h c.counted_up-events.ensures words c.next_load.ensures c.word_at.ensures Goes
          Loaded (x.in-Going.ensures n) (λ l. refl) (λ v. refl)
          (subst told x.outcome-is c.report-in-loop-turn.ensures))
      | goal.in-Retrying x ↦ subst made (sym x.lookup-is)
          (loads_more h c.counted_up-events.ensures words c.next_load.ensures c.word_at.ensures
          Retries Retried (x.in-Retrying.ensures n) (λ l. refl) (λ v. refl)
          (subst told x.outcome-is c.report-in-loop-turn.ensures))
    ]

pub returns-in-Returned : goal.returns-in-Returned
returns-in-Returned g c = λ n limit w words is e.
    load_ends (c.loop-turn.invariant n limit w words is e) c.counted_up-events.ensures words
    c.next_load.ensures c.word_at.ensures c.in-Returned.returned (omega arith)
    (c.in-Returned.ensures n) c.report.ensures

pub returns : goal.returns
returns g c = λ n limit w words is e.
    all_loaded (c.loop-turn.invariant n limit w words is e) (omega arith)
