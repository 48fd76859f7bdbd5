use Rattle.shared_lookup.proofs.Words.{◌≡◌, ◌∙◌, ◌+◌, length, take, Some, sym, subst, arith}
use Rattle.shared_lookup.proofs.Words.{length-take-le, All-pop, IsNewReaderOf, AreReading}
use Rattle.shared_lookup.proofs.PairedLemmas.{pair_taken}
use Rattle.shared_lookup.proofs.lists.start_readers.Goals as goal

pub start_reader-thread-requires-clause-reads : goal.start_reader-thread-requires-clause-reads
start_reader-thread-requires-clause-reads g c κs lives =
    (All-pop (IsNewReaderOf (g.W.Changer.table c.args.changer.now)) c.loop-list.seats.items
    c.pop.new.self.items (Some c.in-Some.seat) c.in-Some.ensures.items
    c.loop-list.invariant.seats).1

pub loop-list-preserved : goal.loop-list-preserved
loop-list-preserved g c =
    let keys = c.args.keys.now in
    let i = c.loop-list.list-index in
    let less = c.loop-list-test.true in
    let all = c.loop-list.invariant.reading in
    let some : length (take i keys) ≡ i = length-take-le i keys (omega (arith, less)) in
    let count : length c.loop-list.readers.items ≡ i = all.same ∙ some in
    let place : c.len-reader.result ≡ i = c.len-reader.ensures ∙ c.loop-list.readers.ok.0 ∙ count in
    let started = c.start_reader-thread.ensures in
    record {
      seats = (All-pop (IsNewReaderOf (g.W.Changer.table c.args.changer.now))
          c.loop-list.seats.items c.pop.new.self.items (Some c.in-Some.seat) c.in-Some.ensures.items
          c.loop-list.invariant.seats).0;
      left = omega (arith, c.in-Some.ensures.len, c.loop-list.invariant.left);
      reading =
          subst (AreReading c.args.changer.now (take (i + 1) keys))
          (sym c.push_reserved.ensures.items)
          (pair_taken _ keys i _ c.list-item.result c.loop-list.readers.items
          c.start_reader-thread.result less c.list-item.is all
          (started.0, started.1 ∙ place, started.2 ∙ c.as_slice.ensures.value));
      long = omega (arith, c.loop-list.invariant.long, c.push_reserved.ensures.capacity);
    }

pub push_reserved-requires : goal.push_reserved-requires
push_reserved-requires g c =
    let i = c.loop-list.list-index in
    let less = c.loop-list-test.true in
    let some : length (take i c.args.keys.now) ≡ i =
    length-take-le i c.args.keys.now (omega (arith, less)) in
    let same = c.loop-list.invariant.reading.same in
    let long = c.loop-list.invariant.long in
    let k = c.loop-list.readers.ok.0 in
    omega (arith, less, some, same, long, k)
