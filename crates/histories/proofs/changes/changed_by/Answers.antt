use Rattle.histories.proofs.Words.{◌∙◌, ◌++◌, Bool, List, ℕ, ap, lines, added_lines, is_among}
use Rattle.histories.proofs.Words.{kept_lines}
use Rattle.histories.proofs.changes.changed_by.Goals as goal

pub returns : goal.returns
returns c =
    let kept = λ (named : List ℕ → Bool). kept_lines named (lines c.args.listing.now) in
    let added = added_lines (lines c.args.change.now) in
    c.in_ok-put_added.ensures
    ∙ ap (λ (l : List ℕ). l ++ added) (c.in_ok-put_kept.ensures
    ∙ ap (λ (l : List ℕ). l ++ kept (is_among c.in_ok-names.names)) c.in_ok-text.ensures.items)
    ∙ ap (λ (named : List ℕ → Bool). kept named ++ added) c.in_ok-names.ensures
