use Rattle.std.proofs.Common.{◌≡◌, ◌∙◌, ◌∷◌, ap, sym, subst, arith, All}
use Rattle.follower.specs.declared.noted.DatedCode.{DatedCode}
use Rattle.follower.specs.Code.{LiesWithin}
use Rattle.follower.proofs.NotedLemmas.{given, one_more_within}
use Rattle.follower.proofs.noted.NotedCodes.keep_reserved.Goals as goal

pub invariant_of-self : goal.invariant_of-self
invariant_of-self c =
    let here : c.insert.new.self.items ≡ c.args.dated ∷ c.self.inside.dated.items =
    c.insert.ensures.items ∙ given c.insert.result (c.args.dated ∷ c.self.inside.dated.items)
    c.self.inside.dated.items (sym c.is_err.ensures.value ∙ c.if-is_err.false) in
    let start = ap (λ (d : DatedCode). d.code.start) c.dated.view_is in
    let len = ap (λ (d : DatedCode). d.code.len) c.dated.view_is in
    subst (All (λ (d : DatedCode).
    LiesWithin c.min-self-inside.result c.max-self-inside.result d.code)) (sym here)
    (one_more_within c.self.inside.lowest c.self.inside.highest c.min-self-inside.result
    c.max-self-inside.result c.args.dated c.self.inside.dated.items
    (omega (arith, c.min-self-inside.ensures)) (omega (arith, c.max-self-inside.ensures))
    (omega (arith, c.min-self-inside.ensures, start))
    (omega (arith, c.max-self-inside.ensures, c.saturating_add.ensures, start, len))
    c.self.invariant)
