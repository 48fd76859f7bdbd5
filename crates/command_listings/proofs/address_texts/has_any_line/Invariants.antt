use Rattle.command_listings.proofs.Words.{◌≡◌, [], false, has_line, list_any, map, take, unwrap_or}
use Rattle.command_listings.proofs.Words.{found_by}
use Rattle.command_listings.proofs.address_texts.has_any_line.Given as goal

-- no word so far has a line
abbrev pub invariant-loop-word : goal.invariant-loop-word
invariant-loop-word l = list_any (has_line l.form (λ name. unwrap_or (found_by l.sought name) []))
    (map (λ w. w.now) (take l.word-index l.words)) ≡ false
