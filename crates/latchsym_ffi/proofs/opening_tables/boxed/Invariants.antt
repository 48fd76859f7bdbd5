use Rattle.latchsym_ffi.proofs.Words.{◌≡◌, ◌++◌, map, into_iter_items, Reader}
use Rattle.latchsym_ffi.proofs.opening_tables.boxed.Given as goal

abbrev pub invariant-loop-inner : goal.invariant-loop-inner
invariant-loop-inner l = record {
  can_next : (goal.iterator-loop-inner).can_next l.inner-iterator;
  finite : (goal.iterator-loop-inner).is_finite l.inner-iterator;
  gone : l.fn.readers.items ≡ l.yielded ++ into_iter_items l.inner-iterator;
  made : map (λ b. b.value) l.boxes.items ≡ map Reader l.yielded;
}
