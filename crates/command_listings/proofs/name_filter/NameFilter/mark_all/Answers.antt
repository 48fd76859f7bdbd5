use Rattle.command_listings.proofs.Words.{◌∙◌, true, ap, arith, take_all, SymbolEntry}
use Rattle.command_listings.proofs.FilterLemmas.{one_more}
use Rattle.command_listings.proofs.name_filter.NameFilter.mark_all.Goals as goal

pub loop-symbol-preserved : goal.loop-symbol-preserved
loop-symbol-preserved c =
    let on = c.loop-symbol.invariant in
    record {
      marked = one_more c.loop-symbol.self c.mark.new.self c.mark.ensures.kept c.args.symbols.now
          c.loop-symbol.symbol-index c.symbol-item.result (omega (arith, c.loop-symbol-test.true))
          on.marked (rw (c.name.ensures
          ∙ ap (λ (s : SymbolEntry). s.name) c.symbol-item.is) at c.mark.ensures.marked);
      kept = λ name was. c.mark.ensures.kept name (on.kept name was);
    }

pub returns-clause-marked : goal.returns-clause-marked
returns-clause-marked c = rw (take_all c.loop-symbol.symbol-index
    c.args.symbols.now (omega (arith, c.loop-symbol-test.false))) at c.loop-symbol.invariant.marked
