use Rattle.listing.proofs.Words.{length, module_causes, module_place, module_of_line}
use Rattle.listing.proofs.SkippingLemmas.{IsReadTo}
use Rattle.listing.proofs.module_listing.read_modules.Given as goal

abbrev pub invariant-loop-rest : goal.invariant-loop-rest
invariant-loop-rest l = IsReadTo module_place module_causes module_of_line l.text l.rest
    l.modules.items l.counts.by_place

abbrev pub decreases-loop-rest : goal.decreases-loop-rest
decreases-loop-rest l = length l.rest
