use Rattle.follower.proofs.FollowingLemmas.{passes_on}
use Rattle.follower.proofs.follower.Follower.note.Goals as goal

pub invariant_of-self-2 : goal.invariant_of-self-2
invariant_of-self-2 c =
    passes_on _ _ _ _ _ _ c.in_ok-previous.ensures.begun c.finish.ensures
    (record { rests = c.self.invariant.rests; stands = c.self.invariant.stands })
