use Rattle.logs.proofs.Definitions.{◌∙◌, sym}
use Rattle.logs.proofs.TextLemmas.{no_user}
use Rattle.logs.proofs.address_words.begins_user.Goals as goal

pub returns-else-has_p : goal.returns-else-has_p
returns-else-has_p c =
    c.if-has_p.false ∙ sym (no_user c.args.bytes.now (sym c.has_p.ensures ∙ c.if-has_p.false))
