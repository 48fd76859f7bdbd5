use Rattle.command_listings.proofs.Words.{◌∙◌, ◌+◌, ℕ, List, Option, take, ap, sym, Bor, take_rest}
use Rattle.command_listings.proofs.Words.{Distance, distance_in}
use Rattle.std.specs.Option.{option_and_then, option_map}
use Rattle.command_listings.proofs.AskedNameLemmas.{last_here, no_last}
use Rattle.command_listings.proofs.asked_names.symbol_and_distance.Goals as goal

-- by the parts before and after the last `+`
abbrev by_cut : Option (List ℕ × List ℕ) → Option (List ℕ × Distance)
by_cut o = option_and_then (λ p. option_map (λ n. (p.0, n)) (distance_in p.1)) o

abbrev told : Option (Bor (List ℕ) × Distance) → Option (List ℕ × Distance)
told o = option_map (λ p. (p.0.now, p.1)) o

abbrev with : List ℕ → Option Distance → Option (List ℕ × Distance)
with symbol o = option_map (λ n. (symbol, n)) o

pub returns-in_err-plus : goal.returns-in_err-plus
returns-in_err-plus c = ap told c.from_residual.ensures
    ∙ sym (ap by_cut (no_last 43 c.args.text.now c.in_err-plus.ensures))

pub returns-in_err-above : goal.returns-in_err-above
returns-in_err-above c =
    let text = c.args.text.now in
    let plus = c.in_ok-plus.plus in
    let (last, found) = c.in_ok-plus.ensures in
    ap told c.from_residual-in_err-above.ensures
    ∙ ap (with (take plus text))
    (c.in_err-above.ensures ∙ ap distance_in (take_rest text (plus + 1)))
    ∙ sym (ap by_cut (last_here 43 text plus last.high found last.after))

pub returns : goal.returns
returns c =
    let text = c.args.text.now in
    let plus = c.in_ok-plus.plus in
    let (last, found) = c.in_ok-plus.ensures in
    ap (with (take plus text)) (c.in_ok-above.ensures ∙ ap distance_in (take_rest text (plus + 1)))
    ∙ sym (ap by_cut (last_here 43 text plus last.high found last.after))
