use Rattle.modules.proofs.Words.{ℕ, ◌&&◌, ap, ◌∙◌, arith, list_all}
use Rattle.modules.proofs.AdmissionLemmas.{taking}
use Rattle.modules.proofs.admission.take_all.Goals as goal

pub loop-region-preserved : goal.loop-region-preserved
loop-region-preserved c =
    taking c.args.taken.now c.loop-region.taken c.insert.new.self c.loop-region.region-index
    c.args.regions.now c.region-item.result (omega arith) c.loop-region.invariant
    (λ p. c.in_ok-insert.ensures p
    ∙ ap (λ (x : ℕ × ℕ). p x && list_all p c.loop-region.taken) c.region-item.is)
