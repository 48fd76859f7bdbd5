use Rattle.command_listings.proofs.Words.{◌≡◌, ◌≤◌, ◌<◌, ◌∙◌, ap, arith, SymbolEntry, Found}
use Rattle.command_listings.proofs.Words.{ListedSymbol, end_of}
use Rattle.command_listings.proofs.AskedNameLemmas.{ends_in_item}
use Rattle.command_listings.proofs.kept_symbols.kept_in.Goals as goal

pub overflow_add-result : goal.overflow_add-result
overflow_add-result c =
    let f : Found = c.in_ok-found.found in
    let addr : c.symbol.inside.addr ≡ c.args.symbol.now.addr =
    ap (λ (s : ListedSymbol). s.addr) c.symbol.view_is in
    let below : c.symbol.inside.addr < c.args.item.b = omega (arith, addr, c.requires.below) in
    let end : end_of f ≤ c.args.item.b = ends_in_item c.args.catalog.now c.args.item
    c.symbol.inside.addr f below c.in_ok-found.ensures in
    let at : c.at.inside.addr ≡ f.symbol.addr = ap (λ (s : SymbolEntry). s.addr) c.at.view_is
    ∙ ap (λ (x : Found). x.symbol.addr) c.found.view_is in
    let size : c.found.inside.size ≡ f.size = ap (λ (x : Found). x.size) c.found.view_is in
    omega arith
