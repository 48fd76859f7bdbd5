use Rattle.shared_lookup.proofs.Words.{◌≡◌, All}
use Rattle.shared_lookup.proofs.serving.readers_beside.Given as goal

abbrev pub invariant-loop : goal.invariant-loop
invariant-loop l =
    record {
      same : l.ledger ≡ record l.fn.ledger { readers = l.ledger.readers };
      beside : All (λ r. r.place ≡ l.fn.ledger.place) l.readers.items;
    }
