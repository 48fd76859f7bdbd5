use Rattle.listing.proofs.Words.{◌∙◌, [], ◌++◌, ◌∷◌, ap, refl, sym, subst, arith, length-append}
use Rattle.listing.proofs.Words.{symbol_causes, symbol_place, symbol_of, symbols_with}
use Rattle.listing.proofs.SkippingLemmas.{IsReadTo, counts_low, one_skipped, one_taken, taken_low}
use Rattle.listing.proofs.SymbolLineLemmas.{with_joined}
use Rattle.listing.proofs.symbol_listing.read_kallsyms.Goals as goal

pub overflow_add-listed : goal.overflow_add-listed
overflow_add-listed c =
    let (taken, read, lines, listed) = c.loop-rest.invariant in
    omega (
      arith,
      listed,
      taken_low symbol_place symbol_causes symbol_of c.args.text.now c.loop-rest.rest.now
          c.cut_tabbed_line-tab.result.2.now c.cut_tabbed_line-tab.result.0.now taken _ read
          c.cut_tabbed_line-tab.ensures.line,
    )

pub add-requires : goal.add-requires
add-requires c =
    let (taken, read, lines, listed) = c.loop-rest.invariant in
    omega (
      arith,
      counts_low symbol_place symbol_causes symbol_of c.args.text.now c.loop-rest.rest.now
          c.cut_tabbed_line-tab.result.2.now c.cut_tabbed_line-tab.result.0.now taken _ read
          c.cut_tabbed_line-tab.ensures.line (symbol_place c.in-Err.cause),
    )

pub loop-rest-preserved-in_ok-put_symbol-in-Ok : goal.loop-rest-preserved-in_ok-put_symbol-in-Ok
loop-rest-preserved-in_ok-put_symbol-in-Ok c =
    let (taken, read, lines, listed) = c.loop-rest.invariant in
    let symbol = c.in-Ok.symbol in (
      taken ++ symbol ∷ [],
      one_taken symbol_place symbol_causes symbol_of c.args.text.now c.loop-rest.rest.now
          c.cut_tabbed_line-tab.result.2.now c.cut_tabbed_line-tab.result.0.now taken _ read
          c.cut_tabbed_line-tab.ensures.line 3 refl symbol (sym c.in-Ok.ensures),
      c.in_ok-put_symbol-in-Ok.ensures
          ∙ ap (λ l. l ++ symbols_with c.args.with_mapping (symbol ∷ [])) lines
          ∙ sym (with_joined c.args.with_mapping taken (symbol ∷ [])),
      omega (arith, listed, length-append taken (symbol ∷ [])),
    )

pub loop-rest-preserved : goal.loop-rest-preserved
loop-rest-preserved c =
    let (taken, read, lines, listed) = c.loop-rest.invariant in (
      taken,
      subst (IsReadTo symbol_place symbol_causes symbol_of c.args.text.now
          c.cut_tabbed_line-tab.result.2.now taken) (sym c.add.ensures)
          (one_skipped symbol_place symbol_causes symbol_of c.args.text.now c.loop-rest.rest.now
          c.cut_tabbed_line-tab.result.2.now c.cut_tabbed_line-tab.result.0.now taken _ read
          c.cut_tabbed_line-tab.ensures.line 3 refl c.in-Err.cause (sym c.in-Err.ensures)),
      lines,
      listed,
    )
