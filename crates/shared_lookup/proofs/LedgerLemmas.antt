-- A writer at rest, before an update and after it.
use Rattle.shared_lookup.proofs.Words.{◌≡◌, ℕ, ◌+◌, ◌*◌, List, [], ◌∷◌, ◌++◌, length, take, Option}
use Rattle.shared_lookup.proofs.Words.{None, sym, ◌∙◌, ap, subst, ⊎_elim, arith, IfOk, OnErr}
use Rattle.shared_lookup.proofs.Words.{is_some, Result, Ok, Err, take-append-le, take_all, Refusal}
use Rattle.shared_lookup.proofs.Words.{half_open, slice_get-push_cases, Update, refusal_for}
use Rattle.shared_lookup.proofs.Words.{IsSound, IsPendingOf, WriterState, writer_refusal}
use Rattle.shared_lookup.proofs.Words.{LedgerState, AreAccepted, CarriesOut, HasNothingPending}
use Rattle.shared_lookup.proofs.Words.{ledger_of, ledger_sequence, refusal_at, with_entry}
use Rattle.word_layout.specs.Words.{at}
use Rattle.latch_core.specs.Latches.{PendingUpdate}

-- a log stays accepted with an update that nothing stands against
pub accepted_entry : (l : LedgerState) (u : Update) → AreAccepted l → refusal_at l u ≡ None
    → AreAccepted (with_entry u l)
accepted_entry l u all none j v e =
    ⊎_elim
    (λ k.
    let first : take j (l.log ++ u ∷ []) ≡ take j l.log =
    take-append-le j l.log (u ∷ []) (let h = k.0 in omega arith) in
    subst (λ (us : List Update). refusal_at (record l { log = us }) v ≡ None) (sym first)
    (all j v k.1))
    (λ k.
    let first : take j (l.log ++ u ∷ []) ≡ l.log =
    take-append-le j l.log (u ∷ []) (let h = k.0 in omega arith)
    ∙ take_all j l.log (let h = k.0 in omega arith) in
    subst (λ (us : List Update). refusal_at (record l { log = us }) v ≡ None) (sym first)
    (subst (λ (x : Update). refusal_at l x ≡ None) k.1 none))
    (slice_get-push_cases l.log u v j e)

module _ (w : WriterState) (resting : HasNothingPending w)
    (sound : IsSound half_open w.capacity (2 * w.base) w.history w.latch) where
  sequence_is : at w.latch.words 0 ≡ ledger_sequence (ledger_of w)
  sequence_is =
      let there : at w.latch.words 0 ≡ 2 * w.base + 2 * length w.history =
      subst (λ (h : Option PendingUpdate). IsPendingOf half_open (2 * w.base) (at w.latch.words 0)
      w.history h) resting.rests sound.in_hand in
      omega arith

  -- what stands against an update, of the writer and of its log
  pub same_why : (u : Update) → writer_refusal half_open w u ≡ refusal_at (ledger_of w) u
  same_why u = λ i.
      refusal_for half_open w.capacity w.limit (is_some (resting.rests i)) (sound.table_is i)
      (sequence_is i) u

  -- a writer at rest that makes an update rests again
  pub rests_after : (w' : WriterState) (u : Update) (r : Result ℕ Refusal)
      → IfOk r (CarriesOut w u w') → OnErr r (w' ≡ w) → HasNothingPending w'
  rests_after w' u (Ok g) ok err =
      record {
        rests = ok.2;
        shown = ok.3;
        accepted = subst AreAccepted (sym (ap ledger_of ok.1))
            (accepted_entry (ledger_of w) u resting.accepted (sym (same_why u) ∙ ok.0));
      }
  rests_after w' u (Err e) ok err = subst HasNothingPending (sym err) resting
