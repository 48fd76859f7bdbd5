use Rattle.latch_steps.proofs.Definitions.{◌∙◌, refl, sym, arith, None-from_is_none}
use Rattle.latch_steps.proofs.AtOnceLemmas.{look_found, look_told, look_never, after_found}
use Rattle.latch_steps.proofs.worlds.World.find_now.Goals as goal

pub returns-in_default-clause-refusal : goal.returns-in_default-clause-refusal
returns-in_default-clause-refusal g c = λ start us h.
    absurd (look_never g.O.TreeOrder.order g.met.O.TreeOrder.lawful c.args.self.now c.args.reader
    c.args.key start us h c.in_default.ensures.none)

pub returns-clause-finds : goal.returns-clause-finds
returns-clause-finds g c =
    let free = None-from_is_none _ (sym c.is_looking-is_busy.ensures ∙ c.if-is_busy.false) in
    let fits = c.in-Some.ensures.fits in
    look_found g.O.TreeOrder.order g.met.O.TreeOrder.lawful c.args.self.now c.args.reader c.args.key
    c.in-Some.answer c.in-Some.generation c.in-Some.loads c.counted_up-first.result
    c.saturating_add-self.result
    (omega arith) free c.in-Some.ensures.found c.counted_up-first.ensures
    c.saturating_add-self.ensures

pub returns-clause-found : goal.returns-clause-found
returns-clause-found g c = λ start us h.
    (look_told g.O.TreeOrder.order g.met.O.TreeOrder.lawful c.args.self.now c.args.reader c.args.key
    start us h c.in-Some.answer c.in-Some.generation c.in-Some.loads
    c.counted_up-first.result c.saturating_add-self.result c.in-Some.ensures.found).0

pub returns-clause-near : goal.returns-clause-near
returns-clause-near g c = λ start us h.
    (look_told g.O.TreeOrder.order g.met.O.TreeOrder.lawful c.args.self.now c.args.reader c.args.key
    start us h c.in-Some.answer c.in-Some.generation c.in-Some.loads
    c.counted_up-first.result c.saturating_add-self.result c.in-Some.ensures.found).1

pub returns-clause-after : goal.returns-clause-after
returns-clause-after g c =
    after_found g.O.TreeOrder.order g.met.O.TreeOrder.lawful c.args.self.now c.args.reader
    c.args.key _ _ (returns-clause-finds g c) refl
