use Rattle.modules.proofs.Words.{◌∙◌, List, ap, sym, subst}
use Rattle.modules.specs.AtAddress.{lists_symbol}
use Rattle.modules.specs.Index.{IsRising}
use Rattle.modules.proofs.AtAddressLemmas.{listed_in_order}
use Rattle.modules.proofs.Definitions.{SymbolEntry}
use Rattle.modules.proofs.OrderedLemmas.{rising}
use Rattle.modules.proofs.symbol_tables.SymbolTable.lists.Goals as goal

pub lists_in_order-requires : goal.lists_in_order-requires
lists_in_order-requires c =
    subst IsRising (sym c.as_slice.ensures.value)
    (rising c.self.inside.symbols.items c.in-Some.ordered.items
    (c.self.invariant.ordered c.in-Some.ordered c.in-Some.is))

pub returns-in-Some : goal.returns-in-Some
returns-in-Some c =
    let addr = c.args.addr in
    let name = c.args.name.now in
    c.lists_in_order.ensures
    ∙ ap (λ (symbols : List SymbolEntry). lists_symbol symbols addr name) c.as_slice.ensures.value
    ∙ listed_in_order c.self.inside.symbols.items c.in-Some.ordered.items addr name
    (c.self.invariant.ordered c.in-Some.ordered c.in-Some.is)
    ∙ ap (λ (symbols : List SymbolEntry). lists_symbol symbols addr name) c.self.view_is
