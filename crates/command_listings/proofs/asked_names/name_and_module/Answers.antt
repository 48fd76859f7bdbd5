use Rattle.command_listings.proofs.Words.{◌∙◌, ◌+◌, ℕ, List, Option, Some, drop, ap, sym, Bor}
use Rattle.command_listings.proofs.Words.{take_rest, parted_by, without_last}
use Rattle.std.specs.Option.{option_and_then, option_map}
use Rattle.command_listings.proofs.AskedNameLemmas.{last_here, no_last}
use Rattle.command_listings.proofs.asked_names.name_and_module.Goals as goal

-- a name and a module, where both are there
abbrev both : Option (List ℕ) → Option (List ℕ) → Option (List ℕ × List ℕ)
both owner name = option_and_then (λ n. option_map (λ o. (n, o)) owner) name

abbrev told : Option (Bor (List ℕ) × Bor (List ℕ)) → Option (List ℕ × List ℕ)
told o = option_map (λ p. (p.0.now, p.1.now)) o

pub returns-in_err-open : goal.returns-in_err-open
returns-in_err-open c = ap told c.from_residual.ensures
    ∙ sym (ap parted_by (no_last 91 c.args.word.now c.in_err-open.ensures))

pub returns-in_err-name : goal.returns-in_err-name
returns-in_err-name c =
    ap told c.from_residual-in_err-name.ensures
    ∙ ap (both (without_last 93 (drop (c.in_ok-open.open + 1) c.args.word.now)))
    c.in_err-name.ensures
    ∙ sym (ap parted_by (last_here 91 c.args.word.now c.in_ok-open.open c.in_ok-open.ensures.0.high
    c.in_ok-open.ensures.1 c.in_ok-open.ensures.0.after))

pub returns-in_err-owner : goal.returns-in_err-owner
returns-in_err-owner c =
    ap told c.from_residual-in_err-owner.ensures
    ∙ ap (λ o. both o (Some c.in_ok-name.name.now)) (c.in_err-owner.ensures
    ∙ ap (without_last 93) (take_rest c.args.word.now (c.in_ok-open.open + 1)))
    ∙ ap (both (without_last 93 (drop (c.in_ok-open.open + 1) c.args.word.now)))
    c.in_ok-name.ensures
    ∙ sym (ap parted_by (last_here 91 c.args.word.now c.in_ok-open.open c.in_ok-open.ensures.0.high
    c.in_ok-open.ensures.1 c.in_ok-open.ensures.0.after))

pub returns : goal.returns
returns c =
    ap (λ o. both o (Some c.in_ok-name.name.now)) (c.in_ok-owner.ensures
    ∙ ap (without_last 93) (take_rest c.args.word.now (c.in_ok-open.open + 1)))
    ∙ ap (both (without_last 93 (drop (c.in_ok-open.open + 1) c.args.word.now)))
    c.in_ok-name.ensures
    ∙ sym (ap parted_by (last_here 91 c.args.word.now c.in_ok-open.open c.in_ok-open.ensures.0.high
    c.in_ok-open.ensures.1 c.in_ok-open.ensures.0.after))
