use Rattle.latch_steps.proofs.Definitions.{◌≡◌, ℕ, Some, get, Moment, IsPendingLookup}
use Rattle.latch_steps.proofs.ReportLemmas.{Loading}
use Rattle.latch_steps.proofs.lookups.Lookup.load_on.Given as goal

-- the reader has made as many loads as the loop has turned, and none returned
abbrev pub invariant-loop-turn : goal.invariant-loop-turn
invariant-loop-turn g l =
    (n limit : ℕ) (w : Moment g.row.O-Key.Denot) → w.latch.words ≡ l.words
    → IsPendingLookup g.O.TreeOrder.order n (Some l.initial.lookup) (get w.lookups l.reader)
    → l.initial.events ≡ w.events
    → Loading g.O.TreeOrder.order n limit (g.R.Report.reports l.report) w l.reader l.most
    l.initial.to l._turn l.lookup l.events l.to
