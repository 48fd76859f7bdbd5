use Rattle.modules.proofs.Words.{◌∙◌, ◌++◌, ◌∷◌, [], List, map, take, sym, ap, subst, arith}
use Rattle.modules.proofs.Words.{common_steps}
use Rattle.modules.proofs.Lemmas.{length-map, take_all, take_more}
use Rattle.modules.proofs.Definitions.{Accepted, Gathers, SharedRun}
use Rattle.modules.specs.Gathering.{gathered_in}
use Rattle.modules.specs.SharedRuns.{lines_of_shared}
use Rattle.modules.proofs.GatheringLemmas.{Gathers-nothing, Gathers-run}
use Rattle.modules.proofs.gathering.gather_runs.Goals as goal

pub keep_run-requires : goal.keep_run-requires
keep_run-requires c = grind (arith, common_steps, length-map)

pub loop-run-init : goal.loop-run-init
loop-run-init c =
    Gathers-nothing c.args.placed.now c.in_ok-lists.lists.items
    (c.in_ok-lists.ensures.0 ∙ c.len.ensures) c.in_ok-lists.ensures.1

pub loop-run-preserved : goal.loop-run-preserved
loop-run-preserved c =
    let a : Accepted = c.args.placed.now in
    let runs = c.args.runs.now in
    let run = c.run-item.result in
    let more = take_more runs c.loop-run.run-index run c.loop-run-test.true
    ∙ ap (λ (r : SharedRun). take c.loop-run.run-index runs ++ r ∷ []) (sym c.run-item.is) in
    subst (λ (rs : List SharedRun). Gathers a (lines_of_shared rs)
    (map gathered_in c.keep_run.new.lists.items)) (sym more)
    (Gathers-run a (take c.loop-run.run-index runs) run c.loop-run.lists.items
    c.keep_run.new.lists.items c.requires c.loop-run.invariant c.in_ok-keep_run.ensures)

pub returns : goal.returns
returns c = grind (arith, common_steps, take_all)
