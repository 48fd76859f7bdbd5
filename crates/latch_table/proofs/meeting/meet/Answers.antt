use Rattle.latch_table.proofs.Words.{rules, ◌≡◌, ap, sym, subst, ◌∙◌, Met, ReaderState, reader_at}
use Rattle.latch_table.proofs.Words.{reader_of, writer_of, shown_updates}
use Rattle.latch_table.proofs.ReaderLemmas.{met}
use Rattle.latch_table.proofs.RuleLemmas.{allows_sequence, joins_meeting, splits_meeting}
use Rattle.latch_table.proofs.MemoryLemmas.{remembers_more}
use Rattle.latch_table.proofs.meeting.meet.Given as given
use Rattle.latch_table.proofs.meeting.meet.Goals as goal

pub join_seat-requires : goal.join_seat-requires
join_seat-requires g c = (
  search rules,
  search rules,
  ap (λ m. m.1) c.into_parts-its.ensures.reads,
  search rules,
  joins_meeting g.O.TreeOrder.order _ _ _ _ _ _,
)

pub load-sequence-requires : goal.load-sequence-requires
load-sequence-requires g c = (
  search rules,
  search rules,
  allows_sequence g.O.TreeOrder.order _ _ g.met.O.TreeOrder.lawful _ _ _ _ (ap (λ m. m.0.reader)
      c.join_seat.ensures.2 ∙ ap (λ m. m.0.reader) c.into_parts-its.ensures.reads),
)

pub split_seat-back-requires : goal.split_seat-back-requires
split_seat-back-requires g c =
    (search rules, search rules, splits_meeting g.O.TreeOrder.order _ _ _ _)

pub returns-clause-reader : goal.returns-clause-reader
returns-clause-reader g c =
    let its = c.into_parts-its.result.1 in
    let own = c.writer.inside.seat.me.0 in
    let back = c.split_seat-back.result in
    let shown = shown_updates c.args.writer in
    let IsMet : ReaderState → ReaderState → Type 0 =
    λ a b. (b.place ≡ a.place) × Met a.knowledge b.knowledge shown in
    let place : back.table_id ≡ its.table_id = search rules in
    let alone : reader_of back.me.0 ≡ reader_of c.load-sequence.new.seat.me.0 =
    ap (λ m. reader_of m.0) c.split_seat-back.ensures.4 in
    let known : (writer_of own).known ≡ shown =
    c.writer.invariant.2.known ∙ ap shown_updates c.writer.view_is in
    let core = met g.O.TreeOrder.order own its.me.0 c.join_seat.new.seat.me
    c.load-sequence.new.seat.me c.load-sequence.result (writer_of own)
    (ap (λ m. m.0) c.join_seat.ensures.2) (ap (λ m. m.0.writer) c.writer.invariant.2.alone)
    c.load-sequence.ensures.2 in
    subst (IsMet c.args.reader) (sym c.new.ensures)
    (subst (λ a. IsMet a (reader_at back.table_id back.me.0 c.into_parts-its.result.3))
    (sym c.into_parts-its.ensures.is)
    (place, rw (alone, sym known) core))

-- what the reader knew, and knows once it has met the writer
met_now : (g : given.Over) (c : goal.After-split_seat-back g)
    → Met (reader_of c.into_parts-its.result.1.me.0) (reader_of c.split_seat-back.result.me.0)
    (writer_of c.writer.inside.seat.me.0).known
met_now g c =
    let alone : reader_of c.split_seat-back.result.me.0 ≡ reader_of c.load-sequence.new.seat.me.0 =
    ap (λ m. reader_of m.0) c.split_seat-back.ensures.4 in
    rw alone (met g.O.TreeOrder.order c.writer.inside.seat.me.0 c.into_parts-its.result.1.me.0
    c.join_seat.new.seat.me c.load-sequence.new.seat.me c.load-sequence.result
    (writer_of c.writer.inside.seat.me.0)
    (ap (λ m. m.0) c.join_seat.ensures.2) (ap (λ m. m.0.writer) c.writer.invariant.2.alone)
    c.load-sequence.ensures.2)

pub new-requires-clause-memory : goal.new-requires-clause-memory
new-requires-clause-memory g c =
    remembers_more g.O.TreeOrder.order (reader_of c.into_parts-its.result.1.me.0)
    (reader_of c.split_seat-back.result.me.0) c.into_parts-its.result.3
    (met_now g c).3 c.into_parts-its.ensures.memory
