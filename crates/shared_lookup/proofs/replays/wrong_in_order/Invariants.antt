use Rattle.shared_lookup.proofs.Words.{◌≡◌, ◌<◌, length, take, get_or, count_by, is_wrong_answer}
use Rattle.shared_lookup.proofs.Words.{no_reference, with_log, HasNothingPending, ledger_of}
use Rattle.std.proofs.Common.{◌≤◌}
use Rattle.shared_lookup.proofs.replays.wrong_in_order.Given as goal

abbrev pub invariant-loop-answer : goal.invariant-loop-answer
invariant-loop-answer l =
    record {
      within : l.done ≤ length l.log;
      rests : HasNothingPending l.table;
      table : ledger_of l.table ≡ with_log (take l.done l.log) (ledger_of l.fn.table);
      further : (k : _) → l.answer-index ≤ k → k < length l.answers
          → l.done ≤ (get_or l.answers k no_reference).now.generation;
      count : l.wrong ≡ count_by (λ a. is_wrong_answer l.log a.now) (take l.answer-index l.answers);
    }
