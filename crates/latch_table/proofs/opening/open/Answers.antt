use Rattle.latch_table.proofs.Words.{rules, [], ◌∙◌, capacity_of}
use Rattle.latch_table.proofs.WriterLemmas.{opens_first, tied_opening}
use Rattle.latch_table.proofs.opening.open.Goals as goal

pub build-requires-clause-rule : goal.build-requires-clause-rule
build-requires-clause-rule g c =
    opens_first g.O.TreeOrder.order (capacity_of c.args.l) c.args.start c.in_ok-core.ensures.may.0
    c.deref.result.now [] (c.deref.ensures.value ∙ c.in_ok-words.ensures)

pub invariant_of-writer : goal.invariant_of-writer
invariant_of-writer g c = (
  search rules,
  search rules,
  tied_opening g.O.TreeOrder.order c.args.l c.args.start c.in_ok-core.ensures.may.0
      c.in_ok-built.built.seat.table_id c.args.readers c.in_ok-built.built.seat.me c.in_ok-core.core
      c.in_ok-built.ensures.seat.2 c.in_ok-core.ensures.opened c.in_ok-core.ensures.pictures,
)
