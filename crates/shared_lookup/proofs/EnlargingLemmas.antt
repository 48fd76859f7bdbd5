-- A writer at rest that goes on with more nodes.
use Rattle.shared_lookup.proofs.Words.{◌≡◌, ℕ, ◌*◌, List, sym, ◌∙◌, ap, subst, arith, half_open}
use Rattle.shared_lookup.proofs.Words.{Layout, Update, IsSound, ReaderState, WriterState}
use Rattle.shared_lookup.proofs.Words.{shown_updates, LedgerState, AreAccepted, HasNothingPending}
use Rattle.shared_lookup.proofs.Words.{IsLedger, ledger_of}
use Rattle.word_layout.specs.Layouts.{capacity_of, limit_of}
use Rattle.latch_core.proofs.TestLemmas.{none_wider}
use Rattle.latch_table.specs.Enlarging.{Enlarges}
use Rattle.shared_lookup.specs.Enlarging.{enlarged_ledger}

module _ (w : WriterState) (l : Layout) (w' : WriterState) (readers : List ReaderState)
    (e : Enlarges w l w' readers) (resting : HasNothingPending w)
    (sound : IsSound half_open w.capacity (2 * w.base) w.history w.latch) where
  -- the ledger is the same, but for its words
  pub same_ledger : ledger_of w' ≡ enlarged_ledger w'.place l (ledger_of w)
  same_ledger = ap ledger_of e.state

  all_shown : shown_updates w' ≡ w'.history
  all_shown = e.shown ∙ resting.shown ∙ sym (ap (λ (v : WriterState). v.history) e.state)

  -- and rests again
  rests_enlarged : HasNothingPending w'
  rests_enlarged =
      record {
        rests = ap (λ (v : WriterState). v.latch.pending) e.state ∙ resting.rests;
        shown = all_shown;
        accepted = subst AreAccepted (sym same_ledger)
            (λ j u is. none_wider half_open w.capacity (capacity_of l) w.limit (limit_of l) _ _ u
            e.may.1.0 e.may.1.1 (sound.tables j).1 (resting.accepted j u is));
      }

  -- so does what a ledger keeps of it
  pub ledger_enlarged : (log : List Update) (was : Layout) (start : ℕ) → IsLedger w log was start
      → IsLedger w' log l start
  ledger_enlarged log was start is =
      record {
        rests = rests_enlarged;
        logged = is.logged ∙ sym (ap (λ (v : LedgerState). v.log) same_ledger);
        capacity = ap (λ (v : LedgerState). v.capacity) same_ledger;
        limit = ap (λ (v : LedgerState). v.limit) same_ledger;
        base = ap (λ (v : LedgerState). v.base) same_ledger ∙ is.base;
        opened = (is.opened.0, omega (arith, is.opened.1, is.limit, e.may.1.1));
      }
