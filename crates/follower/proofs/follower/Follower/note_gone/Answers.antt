use Rattle.follower.proofs.Words.{◌≡◌, Some, slice_set, refl, subst, sym, ap, NotesGone, NotedTime}
use Rattle.follower.proofs.Words.{Followed, time_as}
use Rattle.follower.proofs.FollowingLemmas.{passes_moment, passes_on}
use Rattle.follower.proofs.NotedLemmas.{some_at}
use Rattle.follower.proofs.follower.Follower.note_gone.Goals as goal

pub invariant_of-self-2 : goal.invariant_of-self-2
invariant_of-self-2 c =
    passes_on _ _ _ _ _ _ c.in_ok-previous.ensures.begun c.finish.ensures
    (record { rests = c.self.invariant.rests; stands = c.self.invariant.stands })

pub returns-clause-gone : goal.returns-clause-gone
returns-clause-gone c =
    let (code, is) = some_at c.self.inside.codes.items c.in-Some.place c.in-Some.ensures.within in
    let new : Followed = record {
      writer = c.finish.new.self;
      catalogs = c.self.inside.catalogs.items;
      noted = c.end.new.self.items;
    } in
    let time : NotedTime = record { previous = c.in_ok-previous.previous; since = c.args.since } in
    let same : time ≡ time_as c.self.inside.writer c.args.since =
    ap (λ n. record { previous = n; since = c.args.since })
    c.in_ok-previous.ensures.begun.before in
    subst (λ (f : Followed). NotesGone c.args.start c.args.since f new c.finish.result)
    c.self.view_is
    (record {
      passed = passes_moment _ _ _ _ _ c.in_ok-previous.ensures.begun c.finish.ensures;
      ended = record {
        place = c.in-Some.place;
        code = code;
        newest = sym c.in-Some.ensures.place;
        is = is;
        ended = subst (λ (t : NotedTime). c.end.new.self.items ≡ slice_set c.self.inside.codes.items
            c.in-Some.place (record code { gone = Some t })) same (c.end.ensures code is);
      };
      catalogs = refl;
    })
