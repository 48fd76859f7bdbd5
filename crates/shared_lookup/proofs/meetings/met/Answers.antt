use Rattle.shared_lookup.proofs.Words.{Option, subst, sym, IsPrefix, ReaderState, known_by}
use Rattle.shared_lookup.proofs.meetings.met.Goals as goal

pub returns-in-Some-clause-known : goal.returns-in-Some-clause-known
returns-in-Some-clause-known c =
    let log = c.args.ledger.log in
    subst (λ (seat : Option ReaderState). IsPrefix (known_by seat) log) (sym c.in-Some.is)
    (subst (IsPrefix c.in-Some.reader.knowledge.known) c.meet-ledger.ensures.reader.1.2
    c.meet-ledger.ensures.reader.1.3.known)
