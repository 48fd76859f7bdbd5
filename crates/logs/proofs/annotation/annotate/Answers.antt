use Rattle.logs.proofs.Definitions.{◌∙◌, [], take, arith, refl, Consumes, length-take, device_of}
use Rattle.logs.proofs.Definitions.{EndsLog, Passes}
use Rattle.logs.proofs.AnnotationLemmas.{begun, cut_off, ended, not_more, not_put, not_read}
use Rattle.logs.proofs.AnnotationLemmas.{one_more, stopped, too_long}
use Rattle.logs.proofs.PutLemmas.{is_handed}
use Rattle.logs.proofs.annotation.annotate.Goals as goal

pub loop-turn-init : goal.loop-turn-init
loop-turn-init g c = (
  refl,
  begun c.new-annotator.ensures.context c.new-annotator.ensures.open c.new-head.ensures.items,
)

pub returns-in_default : goal.returns-in_default
returns-in_default g c = not_read c.loop-turn.invariant.1 c.read.new.self
    c.in_default.ensures.failed c.in_default.ensures.bytes

pub returns-then-count-eq0 : goal.returns-then-count-eq0
returns-then-count-eq0 g c =
    ended c.loop-turn.invariant.1 c.read.new.self c.end.new.writer c.in-Ok.ensures.counted
    (rw c.if-count-eq0.true at c.in-Ok.ensures.bytes.0)
    (c.in-Ok.ensures.bytes.1 c.if-count-eq0.true (omega (
      arith,
      c.loop-turn.auto.block,
      c.as_mut_slice-block.ensures.len,
      c.in_ok-resize.ensures.len,
      c.read.auto.buf,
    )))
    (record { names = c.in_ok-names.names; head = c.loop-turn.head }) refl
    (rw c.loop-turn.invariant.0 at c.in_ok-names.ensures)

pub returns-in_err-names : goal.returns-in_err-names
returns-in_err-names g c =
    let on = c.loop-turn.invariant.1 in
    let all = c.in-Ok.ensures.counted in
    let took : Consumes (g.R.Read.remaining (device_of c.loop-turn.reader))
    (g.R.Read.remaining (device_of c.read.new.self)) [] =
    rw c.if-count-eq0.true at c.in-Ok.ensures.bytes.0 in
    let at_end = c.in-Ok.ensures.bytes.1 c.if-count-eq0.true (omega (
      arith,
      c.loop-turn.auto.block,
      c.as_mut_slice-block.ensures.len,
      c.in_ok-resize.ensures.len,
      c.read.auto.buf,
    )) in
    rw (is_handed c.from_residual-in_err-names.result c.from_residual-in_err-names.ensures.1)
    (not_put on c.read.new.self c.end.new.writer [] all took
    (EndsLog (g.A.Answers.answering c.args.answers.now) c.loop-turn.annotator)
    c.in_err-names.field-0.0 (cut_off on c.read.new.self c.end.new.writer all took at_end)
    (rw (c.loop-turn.invariant.0, c.in_err-names.was) at c.end.ensures))

pub returns-in_err-keep_head : goal.returns-in_err-keep_head
returns-in_err-keep_head g c =
    rw (is_handed c.from_residual-in_err-keep_head.result
    c.from_residual-in_err-keep_head.ensures.1)
    (not_more c.loop-turn.invariant.1 c.read.new.self c.loop-turn.writer _
    c.in-Ok.ensures.counted c.in-Ok.ensures.bytes.0 refl)

pub returns-in_err-pass_block : goal.returns-in_err-pass_block
returns-in_err-pass_block g c =
    let on = c.loop-turn.invariant.1 in
    let all = c.in-Ok.ensures.counted in
    let took = c.in-Ok.ensures.bytes.0 in
    let block = take c.in-Ok.count c.read.new.buf in
    let after = c.pass_block.new in
    rw (is_handed c.from_residual-in_err-pass_block.result
    c.from_residual-in_err-pass_block.ensures.1)
    (not_put on c.read.new.self after.writer block all took (λ (u : Unit {0}).
    Passes (g.A.Answers.answering c.args.answers.now) c.loop-turn.annotator after.self block)
    c.in_err-pass_block.field-0.0
    (stopped on c.read.new.self after.writer block all took {a' = after.self})
    (rw (c.loop-turn.invariant.0, c.in_err-pass_block.was) at c.pass_block.ensures.put))

pub loop-turn-preserved : goal.loop-turn-preserved
loop-turn-preserved g c = (
  c.pass_block.ensures.answers ∙ c.loop-turn.invariant.0,
  one_more c.loop-turn.invariant.1 c.read.new.self c.pass_block.new.writer
      (take c.in-Ok.count c.read.new.buf) c.in-Ok.ensures.counted c.in-Ok.ensures.bytes.0
      c.in_ok-pass_block.field-0 (omega (
        arith,
        c.if-count-eq0.false,
        c.in-Ok.ensures.bound,
        length-take c.in-Ok.count c.read.new.buf,
      ))
      c.in_ok-keep_head.ensures
      (rw c.loop-turn.invariant.0 at c.in_ok-pass_block.ensures.put),
)

pub returns : goal.returns
returns g c = too_long c.loop-turn.invariant.1 (omega (arith, c.loop-turn-test.false))
