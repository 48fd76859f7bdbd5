use Rattle.logs.proofs.Definitions.{◌∙◌, ◌||◌, ap, sym}
use Rattle.logs.proofs.UnnamedLemmas.{by_first, none_has_address}
use Rattle.logs.specs.Unnamed.{ends_address}
use Rattle.logs.proofs.unnamed.ends_address.Goals as goal

pub returns-in-None : goal.returns-in-None
returns-in-None c = sym (sym c.loop-line.invariant
    ∙ none_has_address c.args.is_narrow c.loop-line.rest.now c.in-None.ensures.none)

pub returns-then-has_address : goal.returns-then-has_address
returns-then-has_address c =
    sym (sym c.loop-line.invariant
    ∙ by_first c.args.is_narrow _ _ c.in-Some.line.now c.in-Some.more.now c.in-Some.ensures.parts
    c.in-Some.ensures.line c.has_address.ensures
    ∙ ap (λ b. b || ends_address c.args.is_narrow c.in-Some.more.now) c.if-has_address.true)

pub loop-line-preserved : goal.loop-line-preserved
loop-line-preserved c =
    sym (by_first c.args.is_narrow _ _ c.in-Some.line.now c.in-Some.more.now c.in-Some.ensures.parts
    c.in-Some.ensures.line c.has_address.ensures
    ∙ ap (λ b. b || ends_address c.args.is_narrow c.in-Some.more.now) c.if-has_address.false)
    ∙ c.loop-line.invariant
