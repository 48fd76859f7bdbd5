use Rattle.command_listings.proofs.Words.{[], ◌∷◌, ◌++◌, ◌∙◌, length, map, refl, sym, moved_over}
use Rattle.command_listings.proofs.Words.{eqb-true, nil_from_length, lines_of, symbols_in}
use Rattle.command_listings.proofs.Words.{kept_symbols}
use Rattle.command_listings.proofs.SoughtLemmas.{line_more, whole_text}
use Rattle.command_listings.proofs.kept_symbols.symbols_sought.Goals as goal

pub loop-rest-init : goal.loop-rest-init
loop-rest-init c = ([], refl, c.in_ok-sought.ensures)

pub loop-rest-preserved : goal.loop-rest-preserved
loop-rest-preserved c =
    let words = map (λ w. w.now) c.args.words.now in
    let index = c.args.index.now in
    let line = c.cut_tabbed_line-tab.result.0.now in
    let (done, joined, holds) = c.loop-rest.invariant in (
      done ++ line ∷ [],
      moved_over (lines_of c.args.kallsyms.now) done (lines_of c.loop-rest.rest.now)
          (lines_of c.cut_tabbed_line-tab.result.2.now) line joined
          c.cut_tabbed_line-tab.ensures.line,
      rw (line_more index done line)
          (c.in_ok-take_line.ensures words (kept_symbols index (symbols_in done)) holds),
    )

pub returns : goal.returns
returns c =
    let (done, joined, holds) = c.loop-rest.invariant in
    rw (whole_text done c.loop-rest.rest.now c.args.kallsyms.now joined
    (nil_from_length c.loop-rest.rest.now (eqb-true (length c.loop-rest.rest.now) 0
    (sym c.is_empty.ensures ∙ c.loop-rest-test.false)))) at holds
