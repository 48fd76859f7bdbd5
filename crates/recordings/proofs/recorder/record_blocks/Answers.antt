use Rattle.recordings.proofs.Words.{[], arith, inl, refl, IsOpen}
use Rattle.recordings.proofs.RecorderLemmas.{at_end, begun, not_ended, stopped, too_long, turned}
use Rattle.recordings.proofs.RecorderLemmas.{unread, untaken}
use Rattle.recordings.proofs.recorder.record_blocks.Goals as goal

nothing_open : IsOpen [] []
nothing_open = record { no_end = refl; none_kept = refl; kept = inl refl }

pub loop-turn-init : goal.loop-turn-init
loop-turn-init g c = (
  begun g.W.Write.contents (g.L.LastingLog.seen c.args.events.now) c.args.writer.now
      c.new-recording.result c.new-begun.result.items c.new-recording.ensures
      (rw c.new-begun.ensures.items nothing_open)
      c.requires.known,
  c.requires.room,
)

pub returns-in_err-count : goal.returns-in_err-count
returns-in_err-count g c = unread _ _ _ _ _ _ _ _ c.loop-turn.invariant.0 _ _ _ _
    c.from_residual.ensures.1 c.in_err-count.ensures.fault c.in_err-count.ensures.block

pub returns-then-count-eq0 : goal.returns-then-count-eq0
returns-then-count-eq0 g c =
    at_end _ _ _ _ _ _ _ _ c.loop-turn.invariant.0 _ _ _ _ c.in_ok-count.ensures.block _
    c.if-count-eq0.true (let some = c.loop-turn.invariant.1 in
    omega (arith, c.read_block.auto.room, some)) c.in_ok-put_lines.field-0
    (rw (c.deref.ensures.value, c.in_ok-put_lines.was) at c.put_lines.ensures)

pub returns-in_err-put_lines : goal.returns-in_err-put_lines
returns-in_err-put_lines g c =
    not_ended _ _ _ _ _ _ _ _ c.loop-turn.invariant.0 _ _ _ _ c.in_ok-count.ensures.block _
    c.if-count-eq0.true (let some = c.loop-turn.invariant.1 in
    omega (arith, c.read_block.auto.room, some)) _ _ c.from_residual-in_err-put_lines.ensures.1
    (rw (c.deref.ensures.value, c.in_err-put_lines.was) at c.put_lines.ensures)

pub returns-in_err-text : goal.returns-in_err-text
returns-in_err-text g c = untaken _ _ _ _ _ _ _ _ c.loop-turn.invariant.0 _ _ _ _
    c.from_residual-in_err-text.ensures.1 c.in_ok-count.ensures.block

pub returns-in_err-recording : goal.returns-in_err-recording
returns-in_err-recording g c =
    stopped _ _ _ _ _ _ _ _ c.loop-turn.invariant.0 _ _ _ _ c.in_ok-count.ensures.block _
    c.take_block.new.begun.items c.in_ok-text.text.items _ _
    c.from_residual-in_err-recording.ensures.1 c.in_ok-text.ensures
    (rw (c.deref-in-loop-turn.ensures.value, c.in_err-recording.was)
    at c.put_lines-in-loop-turn.ensures)

pub loop-turn-preserved : goal.loop-turn-preserved
loop-turn-preserved g c = (
  turned _ _ _ _ _ _ _ _ c.loop-turn.invariant.0 _ _ _ _ c.in_ok-count.ensures.block
      c.take_block.new.begun.items c.in_ok-text.text.items c.in_ok-recording.recording _
      c.in_ok-text.ensures
      (rw (c.deref-in-loop-turn.ensures.value, c.in_ok-recording.was)
      at c.put_lines-in-loop-turn.ensures),
  let some = c.loop-turn.invariant.1 in omega (arith, c.read_block.auto.room, some),
)

pub returns : goal.returns
returns g c =
    too_long _ _ _ _ _ _ _ _ c.loop-turn.invariant.0 (omega (arith, c.loop-turn-test.false))
