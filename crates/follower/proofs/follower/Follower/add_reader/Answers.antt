use Rattle.follower.proofs.FollowingLemmas.{reader_added}
use Rattle.follower.proofs.follower.Follower.add_reader.Goals as goal

pub invariant_of-self : goal.invariant_of-self
invariant_of-self c =
    reader_added c.self.inside.writer c.add_reader.new.self c.self.inside.catalogs.items
    c.add_reader.result c.add_reader.ensures.added c.add_reader.ensures.unchanged
    (record { rests = c.self.invariant.rests; stands = c.self.invariant.stands })
