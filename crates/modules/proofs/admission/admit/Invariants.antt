use Rattle.modules.proofs.Words.{◌≡◌, fold, take}
use Rattle.modules.proofs.Definitions.{none_yet, after_module, admission_view, IsAdmission}
use Rattle.modules.proofs.Definitions.{placed_line}
use Rattle.modules.proofs.AdmissionLemmas.{total}
use Rattle.modules.proofs.admission.admit.Given as goal

abbrev pub invariant-loop-line : goal.invariant-loop-line
invariant-loop-line l =
    record {
      shows : admission_view l.admission ≡ fold (λ a x. after_module a (placed_line l.regions x))
          (none_yet l.fn.built_in.items) (take l.line-index l.lines);
      tied : IsAdmission l.admission;
      counted : total (admission_view l.admission) ≡ l.line-index;
    }
