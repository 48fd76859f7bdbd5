use Rattle.modules.proofs.Words.{◌≡◌, ℕ, Some, ap, sym, ◌∙◌, arith}
use Rattle.modules.proofs.Definitions.{SymbolEntry, Found, symbol_at}
use Rattle.modules.proofs.AgainLemmas.{symbol_again}
use Rattle.modules.proofs.NearestLemmas.{found}
use Rattle.modules.proofs.finder.same_within.Goals as goal

pub returns : goal.returns
returns c =
    let catalog = c.args.catalog.now in
    let item = c.args.region.now.item in
    let addr : ℕ = c.args.addr in
    let s : SymbolEntry = c.found.inside.symbol.now in
    let f : Found = found s c.found.inside.offset c.found.inside.size in
    let own : c.symbol.inside.addr ≡ s.addr = ap (λ (e : SymbolEntry). e.addr) c.symbol.view_is in
    let is : symbol_at catalog item addr ≡ Some f =
    c.requires.symbol ∙ ap Some (sym c.found.view_is) in
    record {
      above = λ x from. omega (arith, own, c.max.ensures);
      items = λ x from below.
          c.requires.region.items x (omega (arith, c.max.ensures)) (omega (arith, c.min.ensures));
      symbols = λ x from below.
          symbol_again catalog item addr x f (omega (arith, own, c.max.ensures))
          (omega (arith, own, c.min.ensures, c.saturating_add.ensures)) is;
    }
