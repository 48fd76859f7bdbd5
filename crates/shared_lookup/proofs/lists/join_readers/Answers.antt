use Rattle.shared_lookup.proofs.Words.{◌++◌, ◌∷◌, [], length, take, sym, subst, arith}
use Rattle.shared_lookup.proofs.Words.{into_iter_items, AreHeard, AreReading}
use Rattle.shared_lookup.proofs.ThreadLemmas.{heard_more, next_yielded, one_yielded, room_left}
use Rattle.shared_lookup.proofs.lists.join_readers.Goals as goal

pub loop-reader-preserved : goal.loop-reader-preserved
loop-reader-preserved g c =
    let i = c.loop-reader.invariant in
    let done = c.loop-reader.yielded in
    let rest = into_iter_items c.next.new.self in
    let r = c.in-Some.reader in
    let keys = c.args.keys.now in
    let changer = c.args.changer.now in
    let table = g.W.Changer.table in
    let all = next_yielded _ done _ rest r i.gone c.in-Some.ensures.steps.0 in
    let more =
    heard_more table changer keys done rest r c.loop-reader.heard.items c.join_reader.result
    (subst (AreReading changer keys) all c.requires.reading) i.heard c.join_reader.ensures in
    record {
      gone = one_yielded _ done _ rest r i.gone c.in-Some.ensures.steps.0;
      heard = subst (AreHeard (table changer) (take (length (done ++ r ∷ [])) keys))
          (sym c.push_reserved.ensures.items) more;
      long = let l = i.long in let k = c.push_reserved.ensures.capacity in omega (arith, l, k);
    }

pub push_reserved-requires : goal.push_reserved-requires
push_reserved-requires g c =
    let i = c.loop-reader.invariant in
    room_left c.args.keys.now _ c.loop-reader.yielded _ _ _ c.loop-reader.heard i.gone
    c.in-Some.ensures.steps.0 c.requires.reading.same i.heard.same i.long
