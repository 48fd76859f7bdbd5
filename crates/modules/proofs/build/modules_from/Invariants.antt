use Rattle.modules.proofs.Words.{◌≡◌, ◌++◌, length, drop, into_iter_items}
use Rattle.modules.specs.Building.{EachMade}
use Rattle.modules.proofs.build.modules_from.Given as goal

abbrev pub invariant-loop-symbols : goal.invariant-loop-symbols
invariant-loop-symbols l =
    record {
      can_next : (goal.iterator-loop-symbols).can_next l.symbols-iterator;
      finite : (goal.iterator-loop-symbols).is_finite l.symbols-iterator;
      gone : l.fn.tables.items ≡ l.yielded ++ into_iter_items l.symbols-iterator;
      left : into_iter_items l.rest ≡ drop (length l.yielded) l.fn.places.items;
      count : length l.modules.items ≡ length l.yielded;
      each : EachMade l.fn.places.items l.yielded l.modules.items;
    }
