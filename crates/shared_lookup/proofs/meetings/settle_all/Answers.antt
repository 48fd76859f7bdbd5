use Rattle.shared_lookup.proofs.Words.{◌≡◌, ◌∙◌, ◌++◌, ◌∷◌, [], length, take, sym, subst, arith}
use Rattle.shared_lookup.proofs.Words.{Some, IfSome, into_iter_items, IsPrefix, EachFollowsLog}
use Rattle.shared_lookup.proofs.Words.{LedgerState, known_by, EachHasOutcome, AreAllMade}
use Rattle.shared_lookup.proofs.FollowingLemmas.{beside_here, follow_met}
use Rattle.shared_lookup.proofs.PairedLemmas.{here, so_far}
use Rattle.shared_lookup.proofs.ThreadLemmas.{next_yielded, one_yielded, room_left}
use Rattle.shared_lookup.proofs.meetings.settle_all.Goals as goal

pub settled-ledger-requires : goal.settled-ledger-requires
settled-ledger-requires c =
    let i = c.loop-made.invariant in
    let done = c.loop-made.yielded in
    let rest = into_iter_items c.next.new.self in
    let m = c.in-Some.made in
    let l = c.args.ledger in
    let changes = c.args.changes.now in
    let all = next_yielded c.args.all.items done (into_iter_items c.loop-made.made-iterator) rest m
    i.gone c.in-Some.ensures.steps.0 in
    let these =
    subst (AreAllMade (Some l.place) (Some l) c.args._c.now changes) all c.requires.made in
    let made = here _ changes done rest m these in
    subst (λ (k : LedgerState). IfSome m.seat (λ r. r.place ≡ k.place)) (sym i.same)
    (beside_here l.place (Some l) c.args._c.now _ m.outcomes.items m.seat made.follow)

pub loop-made-preserved : goal.loop-made-preserved
loop-made-preserved c =
    let i = c.loop-made.invariant in
    let done = c.loop-made.yielded in
    let rest = into_iter_items c.next.new.self in
    let left = into_iter_items c.loop-made.made-iterator in
    let m = c.in-Some.made in
    let l = c.args.ledger in
    let catalog = c.args._c.now in
    let changes = c.args.changes.now in
    let step = c.in-Some.ensures.steps.0 in
    let all = next_yielded c.args.all.items done left rest m i.gone step in
    let these = subst (AreAllMade (Some l.place) (Some l) catalog changes) all c.requires.made in
    let made = here _ changes done rest m these in
    let known : IsPrefix (known_by m.seat) l.log =
    subst (λ (k : LedgerState). IsPrefix (known_by m.seat) k.log) i.same
    c.settled-ledger.ensures.known in
    let outcomes = so_far _ changes done rest m these _ c.loop-made.outcomes.items m.outcomes
    i.outcomes made.outcomes_of in
    let follow = so_far _ changes done rest m these _ c.loop-made.outcomes.items m.outcomes i.follow
    (follow_met catalog l _ m.outcomes.items m.seat made.follow known) in
    record {
      gone = one_yielded c.args.all.items done left rest m i.gone step;
      same = c.settled-ledger.ensures.same ∙ i.same;
      outcomes = subst (EachHasOutcome catalog (take (length (done ++ m ∷ [])) changes))
          (sym c.push_reserved.ensures.items) outcomes;
      follow = subst (EachFollowsLog catalog l (take (length (done ++ m ∷ [])) changes))
          (sym c.push_reserved.ensures.items) follow;
      long = let k = i.long in let n = c.push_reserved.ensures.capacity in omega (arith, k, n);
    }

pub push_reserved-requires : goal.push_reserved-requires
push_reserved-requires c =
    let i = c.loop-made.invariant in
    room_left c.args.changes.now _ c.loop-made.yielded _ _ _ c.loop-made.outcomes i.gone
    c.in-Some.ensures.steps.0 c.requires.made.same i.outcomes.same i.long
