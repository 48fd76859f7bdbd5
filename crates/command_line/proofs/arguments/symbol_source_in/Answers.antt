use Rattle.command_line.proofs.Words.{◌≡◌, ◌∙◌, ap, sym, Bor, Option, None, Some, is_some, not}
use Rattle.command_line.proofs.Words.{option_map, true, false≢true, Text}
use Rattle.command_parts.proofs.FaultLemmas.{is_handed}
use Rattle.command_line.proofs.arguments.symbol_source_in.Goals as goal

-- what is given has a text
given : (word : Option (Bor Text)) (text : Option Text) → option_map (λ w. w.now) word ≡ text
    → is_some word ≡ true → is_some text ≡ true
given None text is some = absurd (false≢true some)
given (Some w) text is some = ap is_some (sym is)

pub returns-in_err-time : goal.returns-in_err-time
returns-in_err-time c = λ name.
    rw (is_handed c.from_residual.result c.from_residual.ensures.1) (c.in_err-time.ensures name)

pub returns : goal.returns
returns c = λ name. (
  given c.value_of.result _ c.value_of.ensures (c.is_none.ensures ∙ ap not c.if-is_none.false),
  c.in_ok-time.ensures name,
)
