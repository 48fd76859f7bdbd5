use Rattle.shared_lookup.proofs.Words.{◌≡◌, length, take, Some, ForSome, with_log, FollowLog}
use Rattle.shared_lookup.proofs.Words.{HasOutcomes}
use Rattle.shared_lookup.proofs.threads.make_changes.Given as goal

abbrev pub invariant-loop-place : goal.invariant-loop-place
invariant-loop-place g l =
    record {
      same : length l.outcomes.items ≡ length l.changes;
      made : HasOutcomes (g.W.Changer.catalog l.changer) (take l.place l.changes)
          (take l.place l.outcomes.items);
      beside : g.W.Changer.table l.changer ≡ Some l.seat.place;
      follow : ForSome (g.W.Changer.opened l.changer)
          (λ o. FollowLog (g.W.Changer.catalog l.changer) (with_log l.seat.knowledge.known o) 0
          (take l.place l.changes) (take l.place l.outcomes.items));
    }
