use Rattle.command_line.proofs.Words.{◌≡◌, ◌∙◌, ◌&&◌, ap, sym, refl, nat_eq, List, [], ◌∷◌, length}
use Rattle.command_line.proofs.Words.{map, Option, Some, None, option_map, true, false, codes}
use Rattle.command_line.proofs.Words.{arith, rules, tests, is_none, is_some, Bor, false≢true}
use Rattle.command_line.proofs.Words.{nat_tests, common_steps, Text, found_of, rows_of}
use Rattle.command_parts.proofs.FaultLemmas.{is_handed}
use Rattle.command_line.proofs.arguments.lookup_in.Goals as goal

-- no word is an address, and there is no file of them
lacking : (words : List (Bor Text)) (file : Option (Bor Text)) (ws : List Text) (o : Option Text)
    → map (λ w. w.now) words ≡ ws → option_map (λ f. f.now) file ≡ o → length words ≡ 0
    → is_some file ≡ false
    → (nat_eq (length ws) 0 && is_none o) ≡ true
lacking [] None ws o words file empty none =
    ap (λ ws. nat_eq (length ws) 0 && is_none o) (sym words) ∙ ap is_none (sym file)
lacking [] (Some f) ws o words file empty none = absurd (false≢true (sym none))
lacking (w ∷ rest) file ws o words is empty none = absurd (omega (arith, empty))

pub returns-then-is_none : goal.returns-then-is_none
returns-then-is_none c =
    let empty : length c.values_of-words.result.now ≡ 0 =
    first_of (grind (arith, nat_tests), search (rules, tests)) in (
      refl,
      lacking c.values_of-words.result.now c.value_of-file.result _ _ c.values_of-words.ensures
          c.value_of-file.ensures empty (c.if-is_none.ensures),
    )

pub returns-in_err-offset : goal.returns-in_err-offset
returns-in_err-offset c =
    rw (is_handed c.from_residual.result c.from_residual.ensures.1)
    (c.in_err-offset.ensures (codes "lookup") refl)

pub returns-in_err-addresses : goal.returns-in_err-addresses
returns-in_err-addresses c =
    let rows = rows_of (found_of c.args.found.now) in
    rw (is_handed c.from_residual-in_err-addresses.result
    c.from_residual-in_err-addresses.ensures.1)
    (c.in_err-addresses.ensures rows c.values_of-words.ensures)

pub returns : goal.returns
returns c = record {
  some = first_of (search rules, grind (arith, common_steps), search (rules, tests));
  addresses =
      c.in_ok-addresses.ensures (rows_of (found_of c.args.found.now)) c.values_of-words.ensures;
  file = c.value_of-file.ensures;
  callers = c.is_given.ensures;
  lower = c.in_ok-offset.ensures (codes "lookup") refl;
  form = c.form_in.ensures;
}
