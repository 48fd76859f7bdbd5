use Rattle.latch_core.proofs.Words.{Some, None, arith, sym, ◌∙◌, ap, capacity_of, generation_of}
use Rattle.latch_core.proofs.Words.{outcome, outcome_of, found_by}
use Rattle.latch_core.proofs.LoadingLemmas.{again, again_none, tries, few}
use Rattle.latch_core.proofs.WalkLemmas.{answers}
use Rattle.latch_core.proofs.attempts.attempt_from.Goals as goal

pub overflow_add-result : goal.overflow_add-result
overflow_add-result g c =
    let most = few (g.W.Loads.load_gives c.args.words.now) g.O.TreeOrder.order
    (capacity_of c.args.l) c.args.key c.args.first c.args.seat.now c.walk-walked.new.seat
    (found_by c.walk-walked.result.0) c.walk-walked.result.1 c.walk-walked.ensures in
    omega arith

pub returns : goal.returns
returns g c =
    let s = c.args.first in
    let t = c.sequence-last.result in
    tries (g.W.Loads.load_gives c.args.words.now) (g.W.Loads.end_gives c.args.words.now)
    g.O.TreeOrder.order (capacity_of c.args.l) c.args.key s c.args.seat.now
    c.walk-walked.new.seat c.sequence-last.new.seat
    (found_by c.walk-walked.result.0) c.walk-walked.result.1 t (outcome_of c.match-walked.came_to)
    c.walk-walked.ensures c.sequence-last.ensures
    (elim c.match-walked.branch [
      | goal.in-At w ↦
          let same = w.if-last-first.true in
          ap (λ f. outcome s t (found_by f)) w.in-At.is ∙ answers s t w.generation.result
          (Some w.in-At.item) (sym same) (w.generation.ensures ∙ ap generation_of (sym same))
          ∙ sym (ap outcome_of w.came_to-is)
      | goal.in-Nowhere w ↦
          let same = w.if-last-first-2.true in
          ap (λ f. outcome s t (found_by f)) w.in-Nowhere.is
          ∙ answers s t w.generation-in-Nowhere.result None (sym same)
          (w.generation-in-Nowhere.ensures ∙ ap generation_of (sym same))
          ∙ sym (ap outcome_of w.came_to-is)
      | goal.in_default-2 w ↦ ap (λ f. outcome s t (found_by f)) w.in-At.is
          ∙ again s t w.in-At.item (λ e. w.if-last-first.false (sym e))
          ∙ sym (ap outcome_of w.came_to-is)
      | goal.in_default-3 w ↦ ap (λ f. outcome s t (found_by f)) w.in-Nowhere.is
          ∙ again_none s t (λ e. w.if-last-first-2.false (sym e)) ∙ sym (ap outcome_of w.came_to-is)
      | goal.in_default w ↦ ap (λ f. outcome s t (found_by f)) w.in_default.is
          ∙ sym (ap outcome_of w.came_to-is)
    ])
