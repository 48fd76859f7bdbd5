use Rattle.latchsym.proofs.Words.{◌≡◌, ◌∙◌, List, ℕ, [], Option, Some, None, ap, refl, subst}
use Rattle.std.specs.Borrow.{Bor}
use Rattle.std.specs.Option.{option_copied, unwrap_or}
use Rattle.std.specs.Prelude.{◌++◌, codes}
use Rattle.texts.proofs.OutputLemmas.{then}
use Rattle.texts.specs.Output.{Says}
use Rattle.latchsym.proofs.recorded_events.put_ended_line.Goals as goal

-- the text behind a reference, or nothing
copied_or : (text : Option (Bor (List ℕ))) (other : Bor (List ℕ)) → other.now ≡ []
    → (unwrap_or text other).now ≡ unwrap_or (option_copied text) []
copied_or None other none = none
copied_or (Some text) other none = refl

pub returns : goal.returns
returns g c =
    let text_is = ap (λ (b : Bor (List ℕ)). b.now) c.unwrap_or.ensures
    ∙ copied_or c.plain_text.result _ refl ∙ ap (λ o. unwrap_or o []) c.plain_text.ensures in
    let file_put = subst (λ (t : List ℕ). Says g.W.Write.contents c.put.new.self c.put-2.new.self t)
    c.as_bytes.ensures.value c.put-2.ensures in
    subst (λ (t : List ℕ). Says g.W.Write.contents c.args.writer.now c.put-5.new.self
    ((((codes "latchsym: " ++ c.args.file.now) ++ codes ": ") ++ t) ++ codes "\n")) text_is
    (then (then (then (then c.put.ensures file_put) c.put-3.ensures) c.put-4.ensures)
    c.put-5.ensures)
