use Rattle.logs.proofs.Definitions.{◌∙◌, ◌||◌, ap, sym}
use Rattle.logs.proofs.UnnamedLemmas.{by_opened, none_opened}
use Rattle.logs.specs.Unnamed.{ends_address}
use Rattle.logs.proofs.annotator.Annotator.ends_address.Goals as goal

pub returns-in-None : goal.returns-in-None
returns-in-None c = λ line is_open.
    sym (none_opened c.args.is_narrow line c.args.bytes.now is_open.no_end c.in-None.ensures.none)

pub returns-then-here : goal.returns-then-here
returns-then-here c = λ line is_open.
    c.if-here.true
    ∙ sym (by_opened c.args.is_narrow line c.args.bytes.now is_open.no_end _ c.in-Some.line.now
    c.in-Some.more.now c.in-Some.ensures.parts c.in-Some.ensures.line
    (c.in_ok-here-in-Some.ensures line is_open)
    ∙ ap (λ b. b || ends_address c.args.is_narrow c.in-Some.more.now) c.if-here.true)

pub returns-else-here : goal.returns-else-here
returns-else-here c = λ line is_open.
    c.ends_address.ensures
    ∙ sym (by_opened c.args.is_narrow line c.args.bytes.now is_open.no_end _ c.in-Some.line.now
    c.in-Some.more.now c.in-Some.ensures.parts c.in-Some.ensures.line
    (c.in_ok-here-in-Some.ensures line is_open)
    ∙ ap (λ b. b || ends_address c.args.is_narrow c.in-Some.more.now) c.if-here.false)
