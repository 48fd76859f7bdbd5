use Rattle.listing.proofs.Words.{◌≡◌, List, length, ListedSymbol, symbol_causes, symbol_place}
use Rattle.listing.proofs.Words.{symbol_of, symbols_with}
use Rattle.listing.proofs.SkippingLemmas.{IsReadTo}
use Rattle.listing.proofs.symbol_listing.read_kallsyms.Given as goal

abbrev pub invariant-loop-rest : goal.invariant-loop-rest
invariant-loop-rest l =
    (taken : List ListedSymbol)
    × IsReadTo symbol_place symbol_causes symbol_of l.text l.rest taken l.skipped.by_place
    × (l.lines ≡ symbols_with l.with_mapping taken) × (l.listed ≡ length taken)

abbrev pub decreases-loop-rest : goal.decreases-loop-rest
decreases-loop-rest l = length l.rest
