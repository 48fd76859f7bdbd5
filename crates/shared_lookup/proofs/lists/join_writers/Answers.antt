use Rattle.shared_lookup.proofs.Words.{◌++◌, ◌∷◌, [], length, take, sym, subst, arith}
use Rattle.shared_lookup.proofs.Words.{into_iter_items, AreAllMade, AreChanging}
use Rattle.shared_lookup.proofs.ThreadLemmas.{made_more, next_yielded, one_yielded, room_left}
use Rattle.shared_lookup.proofs.lists.join_writers.Goals as goal

pub loop-writer-preserved : goal.loop-writer-preserved
loop-writer-preserved g c =
    let i = c.loop-writer.invariant in
    let done = c.loop-writer.yielded in
    let rest = into_iter_items c.next.new.self in
    let w = c.in-Some.writer in
    let changes = c.args.changes.now in
    let all = next_yielded _ done _ rest w i.gone c.in-Some.ensures.steps.0 in
    let more = made_more g.W.Changer.table g.W.Changer.opened g.W.Changer.catalog c.args.changer.now
    changes done rest w c.loop-writer.made.items c.join_writer.result
    (subst (AreChanging c.args.changer.now changes) all c.requires.changing) i.made
    c.join_writer.ensures in
    record {
      gone = one_yielded _ done _ rest w i.gone c.in-Some.ensures.steps.0;
      made = subst
          (AreAllMade (g.W.Changer.table c.args.changer.now) (g.W.Changer.opened c.args.changer.now)
          (g.W.Changer.catalog c.args.changer.now) (take (length (done ++ w ∷ [])) changes))
          (sym c.push_reserved.ensures.items) more;
      long = let l = i.long in let k = c.push_reserved.ensures.capacity in omega (arith, l, k);
    }

pub push_reserved-requires : goal.push_reserved-requires
push_reserved-requires g c =
    let i = c.loop-writer.invariant in
    room_left c.args.changes.now _ c.loop-writer.yielded _ _ _ c.loop-writer.made i.gone
    c.in-Some.ensures.steps.0 c.requires.changing.same i.made.same i.long
