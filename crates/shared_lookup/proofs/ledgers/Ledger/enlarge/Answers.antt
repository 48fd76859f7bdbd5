use Rattle.shared_lookup.proofs.Words.{subst, sym, WriterState, IsLedger}
use Rattle.shared_lookup.proofs.EnlargingLemmas.{ledger_enlarged}
use Rattle.shared_lookup.proofs.ledgers.Ledger.enlarge.Goals as goal

pub invariant_of-self : goal.invariant_of-self
invariant_of-self c =
    subst (λ (w : WriterState). IsLedger w c.self.inside.log.items c.self.inside.layout
    c.self.inside.start) (sym c.in_err-readers.ensures.unchanged) c.self.invariant

pub invariant_of-self-2 : goal.invariant_of-self-2
invariant_of-self-2 c =
    ledger_enlarged _ _ _ _ c.in_ok-readers.ensures.enlarged c.self.invariant.rests
    c.generation-generation.ensures.sound _ _ _ c.self.invariant
