use Rattle.command_line.proofs.Words.{◌∙◌, ap, sym, take_all, filter_map, slice_get, conflict_of}
use Rattle.command_line.proofs.Words.{rows_in}
use Rattle.command_line.proofs.ConflictLemmas.{conflicts, first, still_none}
use Rattle.command_line.proofs.arguments.conflict_in.Goals as goal

pub returns-in-Some : goal.returns-in-Some
returns-in-Some c =
    let rows = rows_in c.args.found.now in
    first rows c.arguments_of-row-items.result.now c.loop-row.row-index _ c.loop-row-test.true
    c.loop-row.invariant.none c.in-Some.message.now c.in-Some.ensures
    ∙ ap (λ l. slice_get (filter_map (conflict_of rows) l) 0) c.arguments_of-row-items.ensures

pub loop-row-preserved : goal.loop-row-preserved
loop-row-preserved c = record {
  none = still_none (rows_in c.args.found.now) c.arguments_of-row-items.result.now
      c.loop-row.row-index _ c.loop-row-test.true c.loop-row.invariant.none c.in_default.ensures;
}

pub returns : goal.returns
returns c =
    let rows = rows_in c.args.found.now in
    ap (λ l. slice_get l 0) (sym c.loop-row.invariant.none ∙ ap (conflicts rows)
    (take_all c.loop-row.row-index c.arguments_of-row-items.result.now c.loop-row-test.false))
    ∙ ap (λ l. slice_get (filter_map (conflict_of rows) l) 0) c.arguments_of-row-items.ensures
