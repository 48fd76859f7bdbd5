use Rattle.latch_table.proofs.Words.{◌≡◌, ℕ, [], Option, sym, ◌∙◌, ap, Item, capacity_of}
use Rattle.latch_table.proofs.Words.{Answer, Again, outcome_of, writer_of, writer_knowledge}
use Rattle.latch_table.proofs.Words.{with_loads, FindsIn}
use Rattle.latch_table.proofs.WalkLemmas.{own_ready_now, own_walk_now}
use Rattle.latch_table.proofs.writers.lookups.look_up.Given as given
use Rattle.latch_table.proofs.writers.lookups.look_up.Goals as goal
use Rattle.latch_table.proofs.writers.lookups.look_up.Goals.{After-attempt_from}

pub attempt_from-requires-clause-ready : goal.attempt_from-requires-clause-ready
attempt_from-requires-clause-ready g c =
    own_ready_now (λ s. s.table_id) (λ s. s.me) g.O.TreeOrder.order (capacity_of c.args.l) c.args.k
    c.begin-first.result.0.words.now.table_id (writer_of c.args.seat.now.me.0)
    c.begin-first.result.1 c.begin-first.new.seat (c.begin-first.ensures.table ∙ c.requires.table
    ∙ sym c.begin-first.ensures.words) c.begin-first.ensures.value c.begin-first.ensures.view

-- what the attempt says
walk : (g : given.Over) (c : After-attempt_from g)
    → (c.attempt_from.new.seat.table_id ≡ c.begin-first.result.0.words.now.table_id)
    × (c.attempt_from.new.seat.me ≡ (
      writer_knowledge (with_loads (writer_of
          c.attempt_from.new.seat.me.0).loads (writer_of c.args.seat.now.me.0)),
      [],
    ))
    × ((a : Option Item) (n : ℕ) → outcome_of c.attempt_from.result.0 ≡ Answer a n
    → FindsIn g.O.TreeOrder.order (capacity_of c.args.l) c.args.k (writer_of c.args.seat.now.me.0)
    (writer_of c.attempt_from.new.seat.me.0).loads (a, n))
    × (outcome_of c.attempt_from.result.0 ≡ Again → ⊥)
walk g c =
    own_walk_now (λ s. s.table_id) (λ s. s.me) g.O.TreeOrder.order (capacity_of c.args.l) c.args.k
    c.begin-first.result.0.words.now.table_id (writer_of c.args.seat.now.me.0)
    c.begin-first.result.1 c.begin-first.new.seat (c.begin-first.ensures.table ∙ c.requires.table
    ∙ sym c.begin-first.ensures.words) c.begin-first.ensures.value c.begin-first.ensures.view
    c.attempt_from.new.seat _ _ c.attempt_from.ensures g.met.O.TreeOrder.lawful c.requires.latched

pub returns-clause-table : goal.returns-clause-table
returns-clause-table g c =
    (walk g (goal.at.returns-clause-table g c).After-attempt_from).0 ∙ c.begin-first.ensures.words
    ∙ sym c.requires.table

pub returns-clause-view : goal.returns-clause-view
returns-clause-view g c = (walk g (goal.at.returns-clause-view g c).After-attempt_from).1

pub returns-clause-found : goal.returns-clause-found
returns-clause-found g c =
    (walk g (goal.at.returns-clause-found g c).After-attempt_from).2 _ _
    (ap outcome_of c.in-Answered.is)

pub unreachable-requires : goal.unreachable-requires
unreachable-requires g c =
    (walk g (goal.at.unreachable-requires g c).After-attempt_from).3 (ap outcome_of c.in-Failed.is)
