use Rattle.follower.proofs.Words.{rules, subst, ◌∙◌, IsSoundCatalog, Followed, RefusesToShow}
use Rattle.follower.proofs.Words.{dated_as}
use Rattle.follower.proofs.FollowingLemmas.{follows_on}
use Rattle.follower.proofs.follower.Follower.show.Goals as goal

pub returns-in_err-begin_to_show-clause-refused : goal.returns-in_err-begin_to_show-clause-refused
returns-in_err-begin_to_show-clause-refused c =
    let refused =
    subst (λ (f : Followed). RefusesToShow c.args.catalog.now c.args.since f.writer f.catalogs
    c.in_err-begin_to_show.field-0.0) c.self.view_is c.in_err-begin_to_show.ensures.refused in
    search rules

pub invariant_of-self-2 : goal.invariant_of-self-2
invariant_of-self-2 c =
    let sound : IsSoundCatalog c.args.catalog.now =
    subst IsSoundCatalog (c.catalog.ensures ∙ c.indexed.ensures) c.stays_sound.ensures in
    record {
      rests = c.finish.ensures.1;
      stands = follows_on c.self.inside.writer c.begin_to_show.new.writer c.finish.new.self
          (dated_as c.args.catalog.now c.args.since c.args.tag c.self.inside.writer)
          c.self.inside.catalogs.items c.begin_to_show.new.catalogs.items c.finish.result sound
          c.in_ok-begin_to_show.ensures.begun c.finish.ensures c.self.invariant.stands;
    }
