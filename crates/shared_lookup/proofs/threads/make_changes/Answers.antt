use Rattle.shared_lookup.proofs.Words.{◌∙◌, Some, ap, refl, sym, length-set}
use Rattle.shared_lookup.proofs.FollowingLemmas.{all_made, none_made, one_follows, one_made}
use Rattle.shared_lookup.proofs.threads.make_changes.Goals as goal

pub loop-place-init : goal.loop-place-init
loop-place-init g c = record {
  same = c.requires.room;
  made = none_made (g.W.Changer.catalog c.args.changer.now);
  beside = c.requires.seat;
  follow = λ o e. refl;
}

pub loop-place-preserved : goal.loop-place-preserved
loop-place-preserved g c =
    let catalog = g.W.Changer.catalog c.args.changer.now in
    let changes = c.args.changes.now in
    let outcomes = c.loop-place.outcomes.items in
    let i = c.loop-place.place in
    let v = c.loop-place.invariant in
    let r = c.change-outcome.result.0 in
    let made = c.change-outcome.ensures in
    record {
      same = length-set outcomes i r ∙ v.same;
      made =
          one_made catalog changes outcomes i _ r c.loop-place-test.true v.same v.made made.outcome;
      beside = v.beside ∙ ap Some (sym made.place);
      follow = one_follows catalog changes outcomes i _ r c.loop-place-test.true v.same
          (g.W.Changer.opened c.args.changer.now) c.loop-place.seat.knowledge.known
          c.change-outcome.result.1.knowledge.known v.follow made.made;
    }

pub returns : goal.returns
returns g c =
    let v = c.loop-place.invariant in
    all_made (g.W.Changer.table c.args.changer.now) (g.W.Changer.opened c.args.changer.now)
    (g.W.Changer.catalog c.args.changer.now) c.args.changes.now c.loop-place.outcomes.items
    c.loop-place.place c.loop-place.seat c.loop-place-test.false v.same v.made v.beside v.follow
