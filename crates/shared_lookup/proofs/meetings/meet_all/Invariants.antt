use Rattle.shared_lookup.proofs.Words.{◌≡◌, ◌++◌, length, take, vec_capacity, into_iter_items}
use Rattle.shared_lookup.proofs.Words.{EachHasLooked, EachIsAnswered, EachIsFoundIn}
use Rattle.std.proofs.Common.{◌≤◌}
use Rattle.shared_lookup.proofs.meetings.meet_all.Given as goal

abbrev pub invariant-loop-found : goal.invariant-loop-found
invariant-loop-found l =
    record {
      gone : l.fn.heard.items ≡ l.yielded ++ into_iter_items l.found-iterator;
      same : l.ledger ≡ l.fn.ledger;
      answered : EachIsAnswered (take (length l.yielded) l.keys) l.answers.items l.ended.items;
      found : EachIsFoundIn l.fn.ledger.log l.answers.items;
      looked : EachHasLooked l.fn.ledger.log l.answers.items l.readers.items;
      long : length l.keys ≤ vec_capacity l.answers;
      told : length l.keys ≤ vec_capacity l.ended;
      back : length l.keys ≤ vec_capacity l.readers;
    }
