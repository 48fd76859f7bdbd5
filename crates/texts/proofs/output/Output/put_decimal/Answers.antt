use Rattle.texts.proofs.Words.{rules, ap, take, ◌∙◌, ◌+◌, ◌-◌}
use Rattle.std.proofs.lemmas.Fmt.{length-decimal-le}
use Rattle.texts.proofs.OutputLemmas.{digits_kept, kept_is_said}
use Rattle.texts.proofs.output.Output.put_decimal.Goals as goal

pub write_digits-start-requires : goal.write_digits-start-requires
write_digits-start-requires g c = search (rules, length-decimal-le 20)

pub returns-then-has_room : goal.returns-then-has_room
returns-then-has_room g c =
    let old = c.args.self.now.kept in
    let start = c.write_digits-start.result in
    let written = c.write_digits-start.ensures in
    kept_is_said (c.has_room.ensures.sound c.if-has_room.true) (λ _. c.args.self.now.device)
    (c.truncate.ensures.items ∙ ap (take (c.len.result + (20 - start))) c.append.ensures
    ∙ digits_kept old.items _ _ _ c.len.result start (c.len.ensures ∙ old.ok.0) written.start
    written.written)
