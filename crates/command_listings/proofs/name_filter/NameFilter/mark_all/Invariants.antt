use Rattle.command_listings.proofs.Words.{◌≡◌, ℕ, List, true, take}
use Rattle.command_listings.specs.NameFilters.{HaveMarks, has_mark}
use Rattle.command_listings.proofs.name_filter.NameFilter.mark_all.Given as goal

abbrev pub invariant-loop-symbol : goal.invariant-loop-symbol
invariant-loop-symbol l = record {
  marked : HaveMarks l.self (take l.symbol-index l.symbols);
  kept : (name : List ℕ) → has_mark l.fn.self name ≡ true → has_mark l.self name ≡ true;
}
