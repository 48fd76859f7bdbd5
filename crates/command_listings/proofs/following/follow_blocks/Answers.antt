use Rattle.command_listings.proofs.Words.{refl, arith, take}
use Rattle.command_listings.proofs.FollowingLemmas.{at_end, begun, cut_off, not_ended, too_long}
use Rattle.command_listings.proofs.FollowingLemmas.{turned, unkept, unread}
use Rattle.command_listings.proofs.following.follow_blocks.Goals as goal

pub loop-turn-init : goal.loop-turn-init
loop-turn-init g c = (
  begun g.W.Write.contents g.E.Write.contents c.args.request.sources.now c.args.request.job.now
      c.args.first.is_narrow (g.L.LastingLog.seen c.args.log.now) c.args.outputs.now.writer
      c.args.outputs.now.errors _ _ _ refl c.requires.told c.requires.known
      c.new-annotator.ensures.context c.new-annotator.ensures.open c.new-head.ensures.items,
  c.requires.room,
)

pub returns-in_err-count : goal.returns-in_err-count
returns-in_err-count g c = unread _ _ _ _ _ _ _ _ _ _ _ _ _ _ _ c.loop-turn.invariant.0 _ _ _ _
    c.from_residual.ensures.1 c.in_err-count.ensures.fault c.in_err-count.ensures.block

pub returns-in_err-names : goal.returns-in_err-names
returns-in_err-names g c =
    not_ended _ _ _ _ _ _ _ _ _ _ _ _ _ _ _ c.loop-turn.invariant.0 _ _ _ _
    c.in_ok-count.ensures.block c.put_part.new.annotator _ _ c.if-count-eq0.true
    (let some = c.loop-turn.invariant.1 in omega (arith, c.read_block.auto.room, some)) _ _
    c.from_residual-in_err-names.ensures.1 c.in_err-names.ensures

pub returns-then-count-eq0 : goal.returns-then-count-eq0
returns-then-count-eq0 g c =
    at_end _ _ _ _ _ _ _ _ _ _ _ _ _ _ _ c.loop-turn.invariant.0 _ _ _ _ c.in_ok-count.ensures.block
    c.put_part.new.annotator _ _ c.if-count-eq0.true (let some = c.loop-turn.invariant.1 in
    omega (arith, c.read_block.auto.room, some)) c.in_ok-names.field-0-0
    (record { names = c.in_ok-names.names; head = c.loop-turn.head }) refl c.in_ok-names.ensures

pub returns-in_err-keep_head : goal.returns-in_err-keep_head
returns-in_err-keep_head g c = unkept _ _ _ _ _ _ _ _ _ _ _ _ _ _ _ c.loop-turn.invariant.0 _ _ _ _
    c.from_residual-in_err-keep_head.ensures.1 c.in_ok-count.ensures.block

pub returns-in_err-now : goal.returns-in_err-now
returns-in_err-now g c = cut_off _ _ _ _ _ _ _ _ _ _ _ _ _ _ _ c.loop-turn.invariant.0 _ _ _ _
    c.in_ok-count.ensures.block c.put_part-in-loop-turn.new.annotator _ _
    (record { ref_ptr = (0, 0); now = take c.in_ok-count.count c.read_block.new.room }) _ _ refl
    c.from_residual-in_err-now.ensures.1 c.in_err-now.ensures

pub loop-turn-preserved : goal.loop-turn-preserved
loop-turn-preserved g c = (
  turned _ _ _ _ _ _ _ _ _ _ _ _ _ _ _ c.loop-turn.invariant.0 _ _ _ _ c.in_ok-count.ensures.block
      (record { ref_ptr = (0, 0); now = take c.in_ok-count.count c.read_block.new.room })
      c.put_part-in-loop-turn.new.annotator _ c.in_ok-now.field-0-1 _ _ _ refl
      c.in_ok-keep_head.ensures c.in_ok-now.ensures,
  let some = c.loop-turn.invariant.1 in omega (arith, c.read_block.auto.room, some),
)

pub returns : goal.returns
returns g c = too_long _ _ _ _ _ _ _ _ _ _ _ _ _ _ _ c.loop-turn.invariant.0
    (omega (arith, c.loop-turn-test.false))
