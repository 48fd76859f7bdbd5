use Rattle.follower.proofs.FollowingLemmas.{enlarged}
use Rattle.follower.proofs.follower.Follower.move_to.Goals as goal

pub invariant_of-self : goal.invariant_of-self
invariant_of-self c =
    enlarged c.self.inside.writer c.move_to.new.self c.args.l c.self.inside.catalogs.items
    c.move_to.result c.move_to.ensures.enlarged c.move_to.ensures.unchanged
    (record { rests = c.self.invariant.rests; stands = c.self.invariant.stands })
