use Rattle.listing.proofs.Words.{◌≡◌, ◌+◌, ℕ, List, Some, take, drop, sym, ap, subst, ◌∙◌}
use Rattle.listing.proofs.Words.{option_and_then, take_rest, IsFirstByte, is_byte, bracketed}
use Rattle.listing.proofs.Words.{cut_at, symbol_before, symbol_of_text}
use Rattle.std.proofs.Common.{Option}
use Rattle.listing.proofs.SymbolLineLemmas.{cut_here, cut_nowhere}
use Rattle.listing.proofs.symbol_listing.symbol_in_form.Goals as goal

-- the parts of a line before and after its first tab
parts_at : (line : List ℕ) (tab : Option ℕ) (place : ℕ) → IsFirstByte (is_byte 9) line tab
    → tab ≡ Some place → cut_at 9 line ≡ Some (take place line, drop (place + 1) line)
parts_at line tab place first is =
    let (low, found) = subst (λ t. IsFirstByte (is_byte 9) line t) is first in
    cut_here 9 line place low.high found low.before

pub returns-in-None : goal.returns-in-None
returns-in-None c =
    let line = c.args.line.now in
    c.named_symbol.ensures ∙ sym (ap (λ parts. symbol_before parts line)
    (cut_nowhere 9 line (subst (λ t. IsFirstByte (is_byte 9) line t) c.in-None.is c.requires)))

pub returns-in_ok-name_in_brackets-in-Some : goal.returns-in_ok-name_in_brackets-in-Some
returns-in_ok-name_in_brackets-in-Some c =
    let line = c.args.line.now in
    let tab : ℕ = c.in-Some.tab in
    c.named_symbol-in-Some.ensures
    ∙ ap (λ (o : Option (List ℕ)).
    option_and_then (λ owner. symbol_of_text (Some owner) (take tab line)) o)
    (c.in_ok-name_in_brackets-in-Some.ensures ∙ ap bracketed (take_rest line (tab + 1)))
    ∙ sym (ap (λ parts. symbol_before parts line)
    (parts_at line c.args.tab tab c.requires c.in-Some.is))

pub returns-in_err-name_in_brackets-in-Some : goal.returns-in_err-name_in_brackets-in-Some
returns-in_err-name_in_brackets-in-Some c =
    let line = c.args.line.now in
    let tab : ℕ = c.in-Some.tab in
    c.from_residual.ensures
    ∙ ap (λ (o : Option (List ℕ)).
    option_and_then (λ owner. symbol_of_text (Some owner) (take tab line)) o)
    (c.in_err-name_in_brackets-in-Some.ensures ∙ ap bracketed (take_rest line (tab + 1)))
    ∙ sym (ap (λ parts. symbol_before parts line)
    (parts_at line c.args.tab tab c.requires c.in-Some.is))
