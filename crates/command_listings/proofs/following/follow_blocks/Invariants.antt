use Rattle.command_listings.proofs.Words.{length, ◌<◌}
use Rattle.command_listings.proofs.FollowingLemmas.{IsOn}
use Rattle.command_listings.proofs.following.follow_blocks.Given as goal

abbrev pub invariant-loop-turn : goal.invariant-loop-turn
invariant-loop-turn g l =
    IsOn g.W.Write.contents g.E.Write.contents l.request.sources.now l.request.job.now
    l.fn.first.is_narrow
    (g.L.LastingLog.seen l.fn.log) (g.L.LastingLog.seen l.log) l.fn.outputs.writer l.outputs.writer
    l.fn.outputs.errors
    l.outputs.errors l.followed l.annotator l.head.items l.turn
    × (0 < length l.room)
