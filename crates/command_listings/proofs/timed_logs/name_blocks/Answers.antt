use Rattle.command_listings.proofs.Words.{◌≡◌, ◌∙◌, ◌+◌, ◌≤◌, ap, arith, refl, sym}
use Rattle.command_listings.proofs.TimedLemmas.{at_end, block_named, block_stopped, read_stopped}
use Rattle.command_listings.proofs.TimedLemmas.{too_long, turn_less}
use Rattle.command_listings.specs.TimedLogs.{left_of}
use Rattle.logs.proofs.PutLemmas.{is_handed}
use Rattle.command_listings.proofs.timed_logs.name_blocks.Goals as goal

pub returns-in_err-count-clause-turn : goal.returns-in_err-count-clause-turn
returns-in_err-count-clause-turn g c = λ kernel rule are first begun n to.
    let on = c.loop-turn in
    let timed = on.invariant.3 kernel rule are first begun n to in
    rw (is_handed c.from_residual.result c.from_residual.ensures.1)
    (read_stopped _ _ _ _ _ _ _ _ on.log c.read.new.self _ c.read.new.reader _ timed.0
    on.invariant.1 c.in_err-count.field-0.0 c.in_err-count.ensures.read)

pub returns-then-count-eq0-clause-turn : goal.returns-then-count-eq0-clause-turn
returns-then-count-eq0-clause-turn g c = λ kernel rule are first begun n to.
    let on = c.loop-turn in
    let timed = on.invariant.3 kernel rule are first begun n to in
    let few : n + 0 ≤ n + on.turn = omega arith in
    let end = c.name_last in
    turn_less kernel rule c.args.history.now g.L.Read.remaining g.W.Write.contents first begun
    (n + 0)
    (n + on.turn) c.read.new.self end.result c.read.new.reader end.new.writer few
    (at_end _ _ _ _ _ _ _ c.args.listing.now.count (g.A.Answers.answering c.args.answers.now) are _
    on.log c.read.new.self _ c.read.new.reader _ c.in_ok-count.count timed on.invariant.1
    c.in_ok-count.ensures.read end.new.writer end.result c.if-count-eq0.true
    (rw on.invariant.0 at end.ensures))

pub returns-in_err-pending-clause-turn : goal.returns-in_err-pending-clause-turn
returns-in_err-pending-clause-turn g c = λ kernel rule are first begun n to.
    let on = c.loop-turn in
    let timed = on.invariant.3 kernel rule are first begun n to in
    rw (is_handed c.from_residual-in_err-pending.result c.from_residual-in_err-pending.ensures.1)
    (block_stopped _ _ _ _ _ _ _ c.args.listing.now.count
    (g.A.Answers.answering c.args.answers.now) are _ on.log c.read.new.self _ c.read.new.reader _
    c.in_ok-count.count timed on.invariant.1 c.in_ok-count.ensures.read c.name_run.new.lines
    c.name_run.new.writer c.in_err-pending.field-0.0
    (rw (on.invariant.0, c.deref.ensures.value, c.in_err-pending.was) at c.name_run.ensures.run))

pub returns-in-Some-clause-turn : goal.returns-in-Some-clause-turn
returns-in-Some-clause-turn g c = λ kernel rule are first begun n to.
    let on = c.loop-turn in
    let timed = on.invariant.3 kernel rule are first begun n to in
    let read = c.read.new.self in (
      n + on.turn + 1,
      omega arith,
      block_named _ _ _ _ _ _ _ c.args.listing.now.count
          (g.A.Answers.answering c.args.answers.now) are _ on.log read _ c.read.new.reader _
          c.in_ok-count.count timed on.invariant.1 c.in_ok-count.ensures.read
          (record read { lines = c.name_run.new.lines; left = c.in-Some.pending.left })
          c.name_run.new.writer c.in_ok-pending.field-0
          (λ zero. omega (arith, c.if-count-eq0.false, zero))
          (rw (on.invariant.0, c.deref.ensures.value) at c.in_ok-pending.ensures.run)
          (sym (ap left_of c.in-Some.is)) refl refl,
    )

pub loop-turn-preserved : goal.loop-turn-preserved
loop-turn-preserved g c = (
  c.name_run.ensures.answers ∙ c.loop-turn.invariant.0,
  c.in_ok-count.ensures.read.0.1 ∙ c.loop-turn.invariant.1,
  c.read.ensures.room ∙ c.loop-turn.invariant.2,
  λ kernel rule are first begun n to.
      let on = c.loop-turn in
      let timed = on.invariant.3 kernel rule are first begun n to in
      let read = c.read.new.self in
      let more : n + (on.turn + 1) ≡ n + on.turn + 1 = omega arith in
      rw more (block_named _ _ _ _ _ _ _ c.args.listing.now.count
      (g.A.Answers.answering c.args.answers.now) are _ on.log read _ c.read.new.reader _
      c.in_ok-count.count timed on.invariant.1 c.in_ok-count.ensures.read
      (record read { lines = c.name_run.new.lines }) c.name_run.new.writer
      c.in_ok-pending.field-0 (λ zero. omega (arith, c.if-count-eq0.false, zero))
      (rw (on.invariant.0, c.deref.ensures.value) at c.in_ok-pending.ensures.run)
      (c.in_ok-count.ensures.read.0.1 ∙ on.invariant.1 ∙ sym (ap left_of c.in-None.is)) refl refl),
)

pub returns-clause-turn : goal.returns-clause-turn
returns-clause-turn g c = λ kernel rule are first begun n to.
    let on = c.loop-turn in
    let timed = on.invariant.3 kernel rule are first begun n to in
    too_long _ _ _ _ _ _ _ _ _ _ _ _ _ (omega (arith, c.loop-turn-test.false)) timed.0
