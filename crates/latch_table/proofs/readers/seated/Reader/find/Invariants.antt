use Rattle.latch_table.proofs.Words.{◌≡◌, Searches}
use Rattle.latch_table.proofs.readers.seated.Reader.find.Given as goal

abbrev pub invariant-loop : goal.invariant-loop
invariant-loop g l =
    (l.self.place ≡ l.fn.self.place) × Searches l.fn.self.knowledge l.self.knowledge
    × (l.self.memory ≡ l.fn.self.memory)
