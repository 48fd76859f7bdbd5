use Rattle.follower.proofs.FollowingLemmas.{forgotten}
use Rattle.follower.proofs.follower.Follower.forget.Goals as goal

pub invariant_of-self : goal.invariant_of-self
invariant_of-self c = forgotten c.self.inside.writer c.args.moment c.self.inside.catalogs.items
    c.forget-2.new.self.items c.forget-2.result c.forget-2.ensures c.self.invariant
