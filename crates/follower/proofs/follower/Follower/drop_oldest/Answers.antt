use Rattle.follower.proofs.FollowingLemmas.{without_oldest}
use Rattle.follower.proofs.follower.Follower.drop_oldest.Goals as goal

pub invariant_of-self : goal.invariant_of-self
invariant_of-self c = without_oldest c.self.inside.writer c.self.inside.catalogs.items
    c.drop_oldest.new.self.items c.drop_oldest.result c.drop_oldest.ensures c.self.invariant
