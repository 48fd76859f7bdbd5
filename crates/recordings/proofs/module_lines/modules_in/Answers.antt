use Rattle.recordings.proofs.Words.{◌≡◌, ◌∙◌, ◌++◌, ◌∷◌, List, ℕ, None, Some, ap, sym, lines}
use Rattle.recordings.proofs.Words.{joined_if, modules_in, module_of, without_end, option_copied}
use Rattle.recordings.proofs.Words.{option_map, lines_of_module, SomeLines, Option, Bor}
use Rattle.recordings.proofs.module_lines.modules_in.Goals as goal

-- the modules of the rest, if its first line is of this module, or of none
first_of : (rest line : List ℕ) (more : List (List ℕ)) (name : Option (List ℕ))
    → lines rest ≡ line ∷ more → name ≡ module_of (without_end line)
    → modules_in (lines rest) ≡ joined_if (option_map (lines_of_module line) name) (modules_in more)
first_of rest line more name is named = ap modules_in is ∙ ap (λ (n : Option (List ℕ)).
    joined_if (option_map (lines_of_module line) n) (modules_in more)) (sym named)

pub loop-rest-preserved-in_ok-go_on : goal.loop-rest-preserved-in_ok-go_on
loop-rest-preserved-in_ok-go_on c =
    let rest = c.loop-rest.rest.now in
    let line = c.first_line.result.0.now in
    let more = lines c.first_line.result.1.now in
    let here = first_of rest line more (Some c.in-Some.name.now) c.first_line.ensures.line
    (c.in-Some.ensures ∙ ap module_of c.without_end.ensures) in
    sym (c.in_ok-go_on.ensures (modules_in more))
    ∙ ap (λ (l : List SomeLines). c.loop-rest.modules.items ++ joined_if c.loop-rest.last l)
    (sym here) ∙ c.loop-rest.invariant

pub loop-rest-preserved : goal.loop-rest-preserved
loop-rest-preserved c =
    let rest = c.loop-rest.rest.now in
    let line = c.first_line.result.0.now in
    let more = lines c.first_line.result.1.now in
    let here = first_of rest line more None c.first_line.ensures.line
    (sym (ap (λ (o : Option (Bor (List ℕ))). option_copied o) c.in_default.is)
    ∙ c.module_in.ensures ∙ ap module_of c.without_end.ensures) in
    ap (λ (l : List SomeLines). c.loop-rest.modules.items ++ joined_if c.loop-rest.last l)
    (sym here) ∙ c.loop-rest.invariant
