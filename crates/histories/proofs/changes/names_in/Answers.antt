use Rattle.histories.proofs.Words.{◌≡◌, ◌∙◌, ℕ, List, [], sym, ap, length, lines, eqb-true}
use Rattle.histories.proofs.NameLemmas.{collected, with_names}
use Rattle.std.proofs.lemmas.List.{nil_from_length}
use Rattle.histories.proofs.changes.names_in.Goals as goal

pub returns : goal.returns
returns c =
    let names = c.loop-rest.names in
    let end : c.loop-rest.rest.now ≡ [] = nil_from_length c.loop-rest.rest.now (eqb-true
    (length c.loop-rest.rest.now) 0 (sym c.is_empty.ensures ∙ c.loop-rest-test.false)) in
    collected c.args.change.now names
    (sym (ap (λ (r : List ℕ). with_names names (lines r)) end) ∙ c.loop-rest.invariant)
