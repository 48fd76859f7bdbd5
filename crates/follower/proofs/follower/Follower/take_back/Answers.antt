use Rattle.follower.proofs.Words.{◌-◌}
use Rattle.follower.proofs.FollowingLemmas.{other_readers}
use Rattle.follower.proofs.follower.Follower.take_back.Goals as goal

pub invariant_of-self : goal.invariant_of-self
invariant_of-self c =
    other_readers c.self.inside.writer c.take_back.new.self (c.self.inside.writer.readers - 1)
    c.self.inside.catalogs.items c.take_back.ensures
    (record { rests = c.self.invariant.rests; stands = c.self.invariant.stands })
