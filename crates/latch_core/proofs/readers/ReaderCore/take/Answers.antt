use Rattle.latch_core.proofs.Words.{◌∷◌, [], ◌++◌, ◌∙◌, ap, refl, ⊎_elim, Some, arith, Less, Equal}
use Rattle.latch_core.proofs.Words.{Greater, First, Root, WordA, WordB, Tag, Left, Right}
use Rattle.latch_core.proofs.Words.{common_steps}
use Rattle.latch_core.proofs.LoadingLemmas.{next_from, values_of_place, goes_on, follows, turned}
use Rattle.latch_core.proofs.LoadingLemmas.{again, again_none}
use Rattle.latch_core.proofs.WalkLemmas.{answers}
use Rattle.latch_core.proofs.readers.ReaderCore.take.Goals as goal

pub returns-in-First-clause-leads : goal.returns-in-First-clause-leads
returns-in-First-clause-leads g c = λ values leads.
    goes_on g.O.TreeOrder.order c.args.self First _ _ _ _ c.args.value values c.in-First.is refl
    leads refl

pub returns-in-Root-clause-leads : goal.returns-in-Root-clause-leads
returns-in-Root-clause-leads g c = λ values leads.
    let o = g.O.TreeOrder.order in
    let e = c.follow.ensures in
    follows o c.args.self.progress.capacity c.args.self.key c.follow.result _ _ e.capacity e.key
    (next_from o c.args.self Root _ _ c.args.value values c.in-Root.is refl leads) e.leads

pub returns-in-WordA-clause-leads : goal.returns-in-WordA-clause-leads
returns-in-WordA-clause-leads g c = λ values leads.
    goes_on g.O.TreeOrder.order c.args.self WordA _ _ _ _ c.args.value values c.in-WordA.is refl
    leads refl

pub returns-in-WordB-clause-leads : goal.returns-in-WordB-clause-leads
returns-in-WordB-clause-leads g c = λ values leads.
    goes_on g.O.TreeOrder.order c.args.self WordB _ _ _ _ c.args.value values c.in-WordB.is refl
    leads refl

pub returns-after-comp-clause-leads : goal.returns-after-comp-clause-leads
returns-after-comp-clause-leads g c = λ values leads.
    let o = g.O.TreeOrder.order in
    let s = c.args.self in
    let h = next_from o s Tag _ _ c.args.value values c.in-Tag.is refl leads in
    let progress = record s.progress { tag = c.args.value; awaited = c.match-comp.self } in
    let on = h ∙ ap Some (elim c.match-comp.branch [
      | goal.in-Less w ↦ turned o s.key progress _ Less _
          (w.in-Less.ensures ∙ ap (o.comp s.key) c.item.ensures) w.self-is
      | goal.in-Equal w ↦ turned o s.key progress _ Equal _
          (w.in-Equal.ensures ∙ ap (o.comp s.key) c.item.ensures) w.self-is
      | goal.in-Greater w ↦ turned o s.key progress _ Greater _
          (w.in-Greater.ensures ∙ ap (o.comp s.key) c.item.ensures) w.self-is
    ]) in (
      refl,
      refl,
      on,
      values_of_place o s.key progress c.match-comp.self (values ++ c.args.value ∷ []) on,
    )

pub returns-in-Left-clause-leads : goal.returns-in-Left-clause-leads
returns-in-Left-clause-leads g c = λ values leads.
    let o = g.O.TreeOrder.order in
    let e = c.follow-in-Left.ensures in
    ⊎_elim
    (λ is. follows o c.args.self.progress.capacity c.args.self.key c.follow-in-Left.result _ _
    e.capacity e.key (next_from o c.args.self Left _ _ c.args.value values is refl leads) e.leads)
    (λ is. follows o c.args.self.progress.capacity c.args.self.key c.follow-in-Left.result _ _
    e.capacity e.key (next_from o c.args.self Right _ _ c.args.value values is refl leads) e.leads)
    c.in-Left.is

pub returns-in-Found-clause-leads : goal.returns-in-Found-clause-leads
returns-in-Found-clause-leads g c = λ values leads. grind (arith, common_steps, next_from, answers)

pub returns-in-Missing-clause-leads : goal.returns-in-Missing-clause-leads
returns-in-Missing-clause-leads g c =
    λ values leads. grind (arith, common_steps, next_from, answers)

pub returns-in-Found-2-clause-leads : goal.returns-in-Found-2-clause-leads
returns-in-Found-2-clause-leads g c = λ values leads. grind (arith, common_steps, next_from, again)

pub returns-in-Missing-2-clause-leads : goal.returns-in-Missing-2-clause-leads
returns-in-Missing-2-clause-leads g c =
    λ values leads. grind (arith, common_steps, next_from, again_none)

pub returns-in-Stuck-clause-leads : goal.returns-in-Stuck-clause-leads
returns-in-Stuck-clause-leads g c = λ values leads. grind (arith, common_steps, next_from)
