use Rattle.command_listings.proofs.Words.{◌<◌, ℕ, IfSome, module_of}
use Rattle.command_listings.specs.NameFilters.{HaveMarks}
use Rattle.command_listings.proofs.name_filter.NameFilter.of.Given as goal

abbrev pub invariant-loop-number : goal.invariant-loop-number
invariant-loop-number l =
    (k : ℕ) → k < l.number → IfSome (module_of l.catalog k) (λ m. HaveMarks l.filter m.symbols)
