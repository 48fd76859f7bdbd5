use Rattle.shared_lookup.proofs.Words.{◌≡◌, ◌+◌, take, with_log, HasNothingPending, ledger_of}
use Rattle.shared_lookup.proofs.replays.replay_up_to.Given as goal

abbrev pub invariant-loop-update : goal.invariant-loop-update
invariant-loop-update l =
    record {
      rests : HasNothingPending l.table;
      made : ledger_of l.table
          ≡ with_log (take (l.done + l.update-index) l.log) (ledger_of l.fn.table);
    }
