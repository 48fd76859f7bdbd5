use Rattle.shared_lookup.proofs.Words.{◌≡◌, ℕ, List, Ok, Err, Result, IfOk, OnErr, subst, sym}
use Rattle.shared_lookup.proofs.Words.{IsLedger, ReaderState, WriterState}
use Rattle.latch_table.specs.Adding.{AddsReader}
use Rattle.order_laws.specs.declared.refusals.Refusal.{Refusal}
use Rattle.table_updates.specs.declared.updates.Update.{Update}
use Rattle.word_layout.specs.declared.layouts.Layout.{Layout}
use Rattle.shared_lookup.proofs.ledgers.Ledger.add_reader.Goals as goal

-- a reader more, or none, changes nothing that the ledger keeps
stays : (w w' : WriterState) (log : List Update) (l : Layout) (start : ℕ)
    (result : Result ReaderState Refusal) → IfOk result (AddsReader w w')
    → OnErr result (w' ≡ w) → IsLedger w log l start → IsLedger w' log l start
stays w w' log l start (Ok r) added same is =
    subst (λ (x : WriterState). IsLedger x log l start) (sym added.writer) (record {
      rests = record {
        rests = is.rests.rests;
        shown = is.rests.shown;
        accepted = is.rests.accepted;
      };
      logged = is.logged;
      capacity = is.capacity;
      limit = is.limit;
      base = is.base;
      opened = is.opened;
    })
stays w w' log l start (Err e) added same is =
    subst (λ (x : WriterState). IsLedger x log l start) (sym same) is

pub invariant_of-self : goal.invariant_of-self
invariant_of-self c =
    stays _ _ _ _ _ c.add_reader.result c.add_reader.ensures.added c.add_reader.ensures.unchanged
    c.self.invariant
