use Rattle.modules.proofs.Words.{◌<◌, ◌∙◌, length, sym, ap, subst, arith, get_or}
use Rattle.std.proofs.lemmas.Result.{on_ok_weaker}
use Rattle.modules.proofs.Definitions.{Accepted}
use Rattle.modules.proofs.GatheringLemmas.{kept_at, place_within}
use Rattle.modules.specs.Gathering.{KeepsFor}
use Rattle.modules.proofs.Lemmas.{set}
use Rattle.modules.proofs.gathering.keep_run.Goals as goal

pub index_mut-requires : goal.index_mut-requires
index_mut-requires c =
    let at = sym c.place_of.ensures ∙ c.in-Some.is in
    let within = (place_within c.args.placed.now.modules c.args.run.now.module.now c.in-Some.place
    at).0 in
    omega (arith, within, c.requires, c.args.lists.now.ok.0)

pub index-requires : goal.index-requires
index-requires c =
    let at = sym c.place_of.ensures ∙ c.in-Some.is in
    let within = (place_within c.args.placed.now.modules c.args.run.now.module.now c.in-Some.place
    at).0 in
    omega (
      arith,
      within,
      c.placed.inside.modules.ok.0,
      ap (λ (a : Accepted). length a.modules) c.placed.view_is,
    )

pub returns-in-Some : goal.returns-in-Some
returns-in-Some c =
    let a : Accepted = c.args.placed.now in
    let run = c.args.run.now in
    let k = c.in-Some.place in
    let g = c.args.lists.now.items in
    let at = sym c.place_of.ensures ∙ c.in-Some.is in
    let there = (place_within a.modules run.module.now k at).0 in
    let within : k < length g = omega (arith, there, c.requires) in
    on_ok_weaker c.put.result
    (λ put. subst (λ o. KeepsFor a o run.symbols g (set g k c.put.new.self)) (sym at)
    (kept_at a k run.symbols g c.index_mut.result.now c.put.new.self c.index.result.now within there
    c.index_mut.ensures.value (c.index.ensures ∙ ap (λ (x : Accepted).
    get_or x.modules k c.index.result.now) c.placed.view_is) put))
    c.put.ensures
