use Rattle.latch_table.proofs.Words.{◌≡◌, sym, ◌∙◌, ap, outcome_of, Answered, Retry}
use Rattle.latch_table.proofs.Words.{IsPrefix, ◌++◌, ◌∷◌, [], Try, Tried, reader_of}
use Rattle.latch_table.proofs.WalkLemmas.{outcome_of_try, ready_now, walk_now}
use Rattle.latch_table.proofs.readers.attempts.attempt.Given as given
use Rattle.latch_table.proofs.readers.attempts.attempt.Goals as goal
use Rattle.latch_table.proofs.readers.attempts.attempt.Goals.{After-attempt_from}

pub attempt_from-requires-clause-ready : goal.attempt_from-requires-clause-ready
attempt_from-requires-clause-ready g c =
    ready_now (λ s. s.table_id) (λ s. s.me) _ _ c.args.k _ _ c.requires.capacity _
    c.sequence-first.new.seat (c.sequence-first.ensures.0 ∙ c.requires.table)
    c.sequence-first.ensures.1

-- what the attempt says
walk : (g : given.Over) (c : After-attempt_from g)
    → (c.attempt_from.new.seat.table_id ≡ c.args.words.words.now.table_id)
    × IsPrefix ((reader_of c.args.seat.now.me.0).seen ++ c.sequence-first.result ∷ [])
    (reader_of c.attempt_from.new.seat.me.0).seen
    × ((t : Try) → outcome_of_try t ≡ outcome_of c.attempt_from.result.0
    → Tried g.O.TreeOrder.order c.args.k (reader_of c.args.seat.now.me.0)
    (reader_of c.attempt_from.new.seat.me.0) t)
walk g c =
    walk_now (λ s. s.table_id) (λ s. s.me) _ _ c.args.k _ _ c.requires.capacity _
    c.sequence-first.new.seat (c.sequence-first.ensures.0 ∙ c.requires.table)
    c.sequence-first.ensures.1 c.attempt_from.new.seat _ _ c.attempt_from.ensures

pub returns-in-Answered-clause-tried : goal.returns-in-Answered-clause-tried
returns-in-Answered-clause-tried g c =
    (walk g (goal.at.returns-in-Answered-clause-tried g c).After-attempt_from).2
    (Answered c.in-Answered.answer c.in-Answered.generation) (sym (ap outcome_of c.in-Answered.is))

pub returns-in-Failed-clause-tried : goal.returns-in-Failed-clause-tried
returns-in-Failed-clause-tried g c =
    (walk g (goal.at.returns-in-Failed-clause-tried g c).After-attempt_from).2 Retry
    (sym (ap outcome_of c.in-Failed.is))

pub returns-in-Answered-clause-table : goal.returns-in-Answered-clause-table
returns-in-Answered-clause-table g c =
    (walk g (goal.at.returns-in-Answered-clause-table g c).After-attempt_from).0
    ∙ sym c.requires.table

pub returns-in-Failed-clause-table : goal.returns-in-Failed-clause-table
returns-in-Failed-clause-table g c =
    (walk g (goal.at.returns-in-Failed-clause-table g c).After-attempt_from).0
    ∙ sym c.requires.table
