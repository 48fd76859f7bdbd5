use Rattle.command_listings.proofs.Words.{◌≡◌, ◌<◌, ◌^◌, length}
use Rattle.command_listings.specs.NameFilters.{bits_after}
use Rattle.command_listings.proofs.name_filter.number_of.Given as goal

abbrev pub invariant-loop-rest : goal.invariant-loop-rest
invariant-loop-rest l = record {
  is : bits_after 0 l.name ≡ bits_after l.bits l.rest;
  below : l.bits < 2 ^ 64;
}

abbrev pub decreases-loop-rest : goal.decreases-loop-rest
decreases-loop-rest l = length l.rest
