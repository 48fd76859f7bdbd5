use Rattle.modules.proofs.Words.{sym, subst, arith, length-append, common_steps}
use Rattle.modules.proofs.Definitions.{AreSoundModules}
use Rattle.modules.proofs.SoundnessLemmas.{accepted_beside, built_in_of_accepted, few_accepted}
use Rattle.modules.proofs.build.accept_lines.Goals as goal

pub returns-clause-sound : goal.returns-clause-sound
returns-clause-sound c =
    let good = subst AreSoundModules (sym c.in_ok-admission.ensures.admitted) (accepted_beside
    c.args.kernel.items c.args.modules.now c.args.regions.now c.requires.kernel c.requires.fit
    c.requires.regions_fit) in
    record { placed = good.placed; apart = good.apart; distinct = good.distinct }

pub returns-clause-few : goal.returns-clause-few
returns-clause-few c =
    grind (arith, common_steps, built_in_of_accepted, length-append, few_accepted)
