use Rattle.shared_lookup.proofs.Words.{◌≡◌, length, Some, None, slice_get, Answer, AreLookedUp}
use Rattle.shared_lookup.proofs.Words.{IsReaderOf, AreFoundIn, IsAnswerTo}
use Rattle.shared_lookup.proofs.LookedLemmas.{found_last}
use Rattle.shared_lookup.proofs.threads.look_up.Given as goal

abbrev pub invariant-loop-index : goal.invariant-loop-index
invariant-loop-index g l =
    record {
      few : length l.answers.items ≡ l.index;
      each : (place key : _) (a : Answer) → slice_get l.keys place ≡ Some key
          → slice_get l.answers.items place ≡ Some a → IsAnswerTo l.reader place key a;
      reads : IsReaderOf (g.W.Changer.table l._changer) l.seat;
      found : AreFoundIn l.seat.knowledge.known l.answers.items;
      looked : AreLookedUp None l.answers.items l.seat.knowledge.seen;
      memory : l.seat.memory ≡ found_last None l.answers.items;
    }
