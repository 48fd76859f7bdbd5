use Rattle.texts.proofs.OutputLemmas.{kept_is_said}
use Rattle.texts.proofs.output.Output.put.Goals as goal

pub returns-then-has_room : goal.returns-then-has_room
returns-then-has_room g c = kept_is_said (c.has_room.ensures.sound c.if-has_room.true)
    (λ _. c.args.self.now.device) c.append.ensures
