use Rattle.shared_lookup.proofs.Words.{◌∙◌, ap, sym, LedgerState}
use Rattle.shared_lookup.proofs.FollowingLemmas.{held_after, held_opened, made_beside}
use Rattle.shared_lookup.proofs.shared.NamedLedger.change_beside.Goals as goal

pub returns-clause-made : goal.returns-clause-made
returns-clause-made g c =
    let l = c.meet-ledger.result.0 in
    let changed = c.change-outcome.ensures in
    let held =
    held_opened g.K.NamesTable.table g.K.NamesTable.opened c.self.inside.ledger c.in-Some.ledger
    l c.self.invariant (sym c.take.ensures.value ∙ c.in-Some.is) c.meet-ledger.ensures.ledger in
    let first = c.meet-ledger.ensures.reader.1 in
    let second = c.meet-ledger-2.ensures.reader.1 in
    made_beside c.args.c.now g.K.NamesTable.opened c.args.ch c.args.seat.knowledge.known
    c.meet-ledger.result.1.knowledge.known c.meet-ledger-2.result.1.knowledge.known l
    c.change-outcome.new.self c.change-outcome.result held.1 first.3.known
    (first.2 ∙ ap (λ (x : LedgerState). x.log) (sym c.meet-ledger.ensures.ledger))
    second.3.known second.2 changed.changed changed.refused changed.unchanged

pub invariant_of-self : goal.invariant_of-self
invariant_of-self g c =
    let l = c.meet-ledger.result.0 in
    let changed = c.change-outcome.ensures in
    let held =
    held_opened g.K.NamesTable.table g.K.NamesTable.opened c.self.inside.ledger c.in-Some.ledger
    l c.self.invariant (sym c.take.ensures.value ∙ c.in-Some.is) c.meet-ledger.ensures.ledger in
    held_after g.K.NamesTable.table g.K.NamesTable.opened c.args.c.now c.args.ch l
    c.change-outcome.new.self c.meet-ledger-2.result.0 c.change-outcome.result held
    changed.changed changed.unchanged c.meet-ledger-2.ensures.ledger
