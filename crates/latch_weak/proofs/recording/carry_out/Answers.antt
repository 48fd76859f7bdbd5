use Rattle.latch_weak.proofs.Words.{sym, ap, ◌∙◌, subst, ◌++◌, ◌∷◌, [], append_assoc, append-nil}
use Rattle.latch_weak.proofs.Words.{CarriesOut, HasMade}
use Rattle.latch_weak.proofs.RecordingLemmas.{made_begun, made_stored, carrying_begun}
use Rattle.latch_weak.proofs.RecordingLemmas.{carrying_stored, carried}
use Rattle.latch_weak.proofs.recording.carry_out.Goals as goal

pub loop-store-init : goal.loop-store-init
loop-store-init g c = (
  λ n limit start us made.
      made_begun g.O.TreeOrder.order n limit start us _ _ c.begin.new.self made c.args.update.now
      c.in_ok-begin.ensures.accepted c.begin.ensures.pictured
      c.in_ok-begin.ensures.begun.1 c.begin.ensures.same.0 c.begin.ensures.same.1,
  (
    [],
    carrying_begun _ _ _ _ c.in_ok-begin.ensures.begun.1,
    sym (append-nil _),
  ),
)

pub loop-store-preserved : goal.loop-store-preserved
loop-store-preserved g c =
    let o = g.O.TreeOrder.order in
    let next = sym c.step.ensures.which ∙ c.in-Some.is in
    let (made, carrying, all) = c.loop-store.invariant.1 in (
      λ n limit start us before.
          let us' = us ++ c.args.update.now ∷ [] in
          let more = made_stored o n limit start us' _ _ _
          (c.loop-store.invariant.0 n limit start us before) c.in-Some.store next
          c.in-Some.ensures.may c.step.ensures.pictures c.step.ensures.same.0
          c.step.ensures.same.1 in
          subst (λ ss. HasMade o n limit start us' ss c.step.new.self)
          (sym c.in_ok-push.ensures.items) more,
      (
        made ++ c.in-Some.store ∷ [],
        carrying_stored _ _ _ _ _ _ _ carrying next c.in-Some.ensures.stepped,
        c.in_ok-push.ensures.items ∙ ap (λ x. x ++ c.in-Some.store ∷ []) all
            ∙ append_assoc _ made (c.in-Some.store ∷ []),
      ),
    )

pub returns-clause-carried : goal.returns-clause-carried
returns-clause-carried g c =
    let o = g.O.TreeOrder.order in
    let (made, carrying, all) = c.loop-store.invariant.1 in
    let none = sym c.step.ensures.which ∙ c.in_default.is in (
      made,
      subst (CarriesOut o c.args.writer.now c.args.update.now made) (sym c.in_default.ensures.none)
          (carried o c.args.writer.now c.args.update.now made c.loop-store.writer carrying none),
      all,
    )
