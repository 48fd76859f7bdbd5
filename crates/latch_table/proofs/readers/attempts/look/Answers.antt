use Rattle.latch_table.proofs.Words.{◌≡◌, refl, sym, ◌∙◌, ap, subst, inl, inr}
use Rattle.latch_table.proofs.Words.{generation_of, outcome_of, reader_of, Tried, IsRecalled}
use Rattle.latch_table.proofs.Words.{Recalled, MemoryHolds, IsPrefix, ◌++◌, ◌∷◌, []}
use Rattle.latch_table.proofs.MemoryLemmas.{recalls_now, remembers_tried}
use Rattle.latch_table.proofs.WalkLemmas.{outcome_of_try, ready_now, walk_now}
use Rattle.latch_table.proofs.readers.attempts.look.Given as given
use Rattle.latch_table.proofs.readers.attempts.look.Goals as goal

pub returns-in-Some-clause-looked : goal.returns-in-Some-clause-looked
returns-in-Some-clause-looked g c =
    inl (
      (c.in-Some.item, c.in-Some.generation),
      refl,
      subst (Recalled g.O.TreeOrder.order c.args.k c.args.memory.now
          (reader_of c.args.seat.now.me.0) (reader_of c.sequence-begun.new.seat.me.0)) c.in-Some.is
          (recalls_now g.O.TreeOrder.order c.args.seat.now.me c.sequence-begun.new.seat.me
          c.sequence-begun.result c.sequence-begun.ensures.1 g.met.O.TreeOrder.lawful c.args.k
          c.args.memory.now c.requires.memory c.recalled.result c.recalled.ensures),
    )

pub attempt_from-requires-clause-ready : goal.attempt_from-requires-clause-ready
attempt_from-requires-clause-ready g c =
    ready_now (λ s. s.table_id) (λ s. s.me) _ _ c.args.k _ _ c.requires.capacity _
    c.sequence-begun.new.seat (c.sequence-begun.ensures.0 ∙ c.requires.table)
    c.sequence-begun.ensures.1

-- what the attempt came to
came_to : (g : given.Over) (c : goal.After-remember g)
    → outcome_of_try c.match-attempt_from.tried ≡ outcome_of c.attempt_from.result.0
came_to g c =
    elim c.match-attempt_from.branch [
      | goal.in-Answered w ↦ ap outcome_of_try w.tried-is ∙ sym (ap outcome_of w.in-Answered.is)
      | goal.in-Failed w ↦ ap outcome_of_try w.tried-is ∙ sym (ap outcome_of w.in-Failed.is)
    ]

-- what the attempt says
walk : (g : given.Over) (c : goal.After-remember g)
    → (c.attempt_from.new.seat.table_id ≡ c.args.words.words.now.table_id)
    × IsPrefix ((reader_of c.args.seat.now.me.0).seen ++ c.sequence-begun.result ∷ [])
    (reader_of c.attempt_from.new.seat.me.0).seen
    × Tried g.O.TreeOrder.order c.args.k (reader_of c.args.seat.now.me.0)
    (reader_of c.attempt_from.new.seat.me.0) c.match-attempt_from.tried
walk g c =
    let now = walk_now (λ s. s.table_id) (λ s. s.me) _ _ c.args.k _ _ c.requires.capacity _
    c.sequence-begun.new.seat (c.sequence-begun.ensures.0 ∙ c.requires.table)
    c.sequence-begun.ensures.1 c.attempt_from.new.seat _ _ c.attempt_from.ensures in
    (now.0, now.1, now.2 c.match-attempt_from.tried (came_to g c))

pub returns-clause-looked : goal.returns-clause-looked
returns-clause-looked g c =
    inr (
      c.sequence-begun.result,
      (walk g c).1,
      subst (IsRecalled g.O.TreeOrder.order c.args.k (generation_of c.sequence-begun.result)
          c.args.memory.now) c.in_default.is c.recalled.ensures,
      (walk g c).2,
    )

pub returns-clause-still : goal.returns-clause-still
returns-clause-still g c =
    subst (MemoryHolds g.O.TreeOrder.order (reader_of c.attempt_from.new.seat.me.0))
    (sym c.remember.ensures)
    (remembers_tried g.O.TreeOrder.order c.args.k (reader_of c.args.seat.now.me.0)
    (reader_of c.attempt_from.new.seat.me.0) c.args.memory.now c.match-attempt_from.tried
    (walk g c).2 c.requires.memory)

pub returns-clause-table : goal.returns-clause-table
returns-clause-table g c = (walk g c).0 ∙ sym c.requires.table
