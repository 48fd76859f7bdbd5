use Rattle.command_line.proofs.Words.{◌≡◌, ◌∙◌, List, None, Some, ap, codes, insert, map, Bor}
use Rattle.command_line.proofs.Words.{option_map_or, take_all, map-insert, Text, operand_place}
use Rattle.command_line.proofs.AddressLemmas.{texts}
use Rattle.command_line.proofs.operands.with_operands.Goals as goal

pub returns-in_default : goal.returns-in_default
returns-in_default g c =
    let words : List Text = map g.S.AsStr.text c.args.words.now in
    let are : texts c.loop-word.texts.items ≡ words =
    c.loop-word.invariant ∙ ap (map g.S.AsStr.text)
    (take_all c.loop-word.word-index c.args.words.now c.loop-word-test.false) in
    let none : None ≡ operand_place words =
    c.in_default.ensures.place ∙ ap operand_place (ap texts c.deref.ensures.value ∙ are) in
    are ∙ ap (λ o. option_map_or (λ place. insert words place (codes "--")) o words) none

pub returns : goal.returns
returns g c =
    let words : List Text = map g.S.AsStr.text c.args.words.now in
    let items = c.loop-word.texts.items in
    let place = c.in-Some.place in
    let are : texts items ≡ words = c.loop-word.invariant ∙ ap (map g.S.AsStr.text)
    (take_all c.loop-word.word-index c.args.words.now c.loop-word-test.false) in
    let some : Some place ≡ operand_place words =
    c.in-Some.ensures.place ∙ ap operand_place (ap texts c.deref.ensures.value ∙ are) in
    ap texts c.in_ok-insert.ensures.items ∙ map-insert (λ (w : Bor Text). w.now) items place _
    ∙ ap (λ ws. insert ws place (codes "--")) are
    ∙ ap (λ o. option_map_or (λ p. insert words p (codes "--")) o words) some
