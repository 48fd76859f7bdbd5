use Rattle.modules.proofs.Words.{sym, subst}
use Rattle.modules.specs.Index.{IsRising}
use Rattle.modules.proofs.OrderedLemmas.{rising}
use Rattle.modules.proofs.symbol_tables.SymbolTable.around_near.Goals as goal

pub around_in_order-requires : goal.around_in_order-requires
around_in_order-requires c =
    subst IsRising (sym c.as_slice-in-Some.ensures.value)
    (rising c.self.inside.symbols.items c.in-Some.ordered.items
    (c.self.invariant.ordered c.in-Some.ordered c.in-Some.is))
