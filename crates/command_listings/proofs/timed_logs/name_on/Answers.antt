use Rattle.command_listings.proofs.Words.{◌∙◌, arith}
use Rattle.command_listings.proofs.TimedLemmas.{starved, too_long}
use Rattle.logs.proofs.PutLemmas.{is_handed}
use Rattle.command_listings.proofs.timed_logs.name_on.Goals as goal

pub returns-in_err-listing : goal.returns-in_err-listing
returns-in_err-listing g c = λ first begun n to.
    let (m, many, timed) = c.loop-turns.invariant.2 first begun n to in
    rw (is_handed c.from_residual.result c.from_residual.ensures.1)
    (starved _ _ _ _ _ _ _ _ _ _ _ _ _ timed.0)

pub returns-in_err-names : goal.returns-in_err-names
returns-in_err-names g c = λ first begun n to.
    let (m, many, timed) = c.loop-turns.invariant.2 first begun n to in
    rw (is_handed c.from_residual-in_err-names.result c.from_residual-in_err-names.ensures.1)
    (c.in_err-names.ensures.turn first begun m timed)

pub returns-in-Ended : goal.returns-in-Ended
returns-in-Ended g c = λ first begun n to.
    let (m, many, timed) = c.loop-turns.invariant.2 first begun n to in
    rw c.in-Ended.is at (c.in_ok-names.ensures.turn first begun m timed)

pub loop-turns-preserved : goal.loop-turns-preserved
loop-turns-preserved g c = (
  c.in_ok-listing.ensures.of,
  c.name_by_listing.ensures.room ∙ c.loop-turns.invariant.1,
  λ first begun n to.
      let (m, many, timed) = c.loop-turns.invariant.2 first begun n to in
      let (k, more, next) = rw c.in-Other.is at (c.in_ok-names.ensures.turn first begun m timed) in
      (k, omega (arith, many, more), next),
)

pub returns : goal.returns
returns g c = λ first begun n to.
    let (m, many, timed) = c.loop-turns.invariant.2 first begun n to in
    too_long _ _ _ _ _ _ _ _ _ _ _ _ _ (omega (arith, many, c.loop-turns-test.false)) timed.0
