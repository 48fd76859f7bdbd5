use Rattle.shared_lookup.proofs.Words.{◌≡◌, Some, ◌++◌, ◌∷◌, [], length, take, sym, subst, arith}
use Rattle.shared_lookup.proofs.Words.{All-pop, ReaderState, into_iter_items, AreChanging, HaveRoom}
use Rattle.shared_lookup.proofs.ThreadLemmas.{changing_more, next_yielded, one_yielded, room_left}
use Rattle.shared_lookup.proofs.lists.start_writers.Goals as goal

pub loop-list-preserved : goal.loop-list-preserved
loop-list-preserved g c =
    let i = c.loop-list.invariant in
    let done = c.loop-list.yielded in
    let rest = into_iter_items c.next.new.self in
    let l = c.in-Some.list in
    let changes = c.args.changes.now in
    let all = next_yielded _ done _ rest l i.gone c.in-Some.ensures.steps.0 in
    let w = c.start_writer.result in
    let e = c.start_writer.ensures in
    let more = changing_more c.args.changer.now changes done rest l c.loop-list.writers.items w
    (subst (HaveRoom changes) all c.requires.room) i.started e.0 e.1 in
    record {
      gone = one_yielded _ done _ rest l i.gone c.in-Some.ensures.steps.0;
      started = subst (AreChanging c.args.changer.now (take (length (done ++ l ∷ [])) changes))
          (sym c.push_reserved.ensures.items) more;
      seats = (All-pop (λ (r : ReaderState). g.W.Changer.table c.args.changer.now ≡ Some r.place)
          c.loop-list.seats.items c.pop-seat.new.self.items c.pop-seat.result
          c.pop-seat.ensures.items i.seats).0;
      long = let l = i.long in let k = c.push_reserved.ensures.capacity in omega (arith, l, k);
    }

pub push_reserved-requires : goal.push_reserved-requires
push_reserved-requires g c =
    let i = c.loop-list.invariant in
    room_left c.args.changes.now _ c.loop-list.yielded _ _ _ c.loop-list.writers i.gone
    c.in-Some.ensures.steps.0 c.requires.room.same i.started.same i.long

pub start_writer-requires-clause-beside : goal.start_writer-requires-clause-beside
start_writer-requires-clause-beside g c κs lives =
    (All-pop (λ (r : ReaderState). g.W.Changer.table c.args.changer.now ≡ Some r.place)
    c.loop-list.seats.items c.pop-seat.new.self.items c.pop-seat.result c.pop-seat.ensures.items
    c.loop-list.invariant.seats).1
