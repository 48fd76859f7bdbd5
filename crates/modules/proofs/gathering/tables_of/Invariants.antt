use Rattle.modules.proofs.Words.{◌≡◌, ◌++◌, map, into_iter_items}
use Rattle.modules.specs.Gathering.{gathered_in}
use Rattle.modules.proofs.gathering.tables_of.Given as goal

abbrev pub invariant-loop-list : goal.invariant-loop-list
invariant-loop-list l = record {
  can_next : (goal.iterator-loop-list).can_next l.list-iterator;
  finite : (goal.iterator-loop-list).is_finite l.list-iterator;
  gone : l.fn.lists.items ≡ l.yielded ++ into_iter_items l.list-iterator;
  made : l.tables.items ≡ map gathered_in l.yielded;
}
