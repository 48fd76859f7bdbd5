use Rattle.std.proofs.Common.{All, rules, ◌≡◌, ◌∙◌, ap, not, subst, sym}
use Rattle.std.proofs.lemmas.Fn.{filter_same}
use Rattle.follower.specs.declared.noted.DatedCode.{DatedCode}
use Rattle.follower.specs.Code.{LiesWithin}
use Rattle.follower.specs.Noted.{AreSameFrom, is_gone_by, without_gone}
use Rattle.follower.proofs.NotedLemmas.{rest_within, same_without_gone}
use Rattle.follower.proofs.noted.NotedCodes.forget.Goals as goal

left : (c : goal.After-retain)
    → c.retain.new.self.items ≡ without_gone c.args.moment c.self.inside.dated.items
left c = filter_same _ (λ (d : DatedCode). not (is_gone_by c.args.moment d)) _
    (λ x b f' k. search rules) _ _ c.retain.ensures.filtered

left_of_all : (c : goal.After-retain)
    → c.retain.new.self.items ≡ without_gone c.args.moment c.args.self.now.items
left_of_all c = left c ∙ ap (λ v. without_gone c.args.moment v.items) c.self.view_is

pub returns-clause-left : goal.returns-clause-left
returns-clause-left c = left_of_all c

pub returns-clause-same : goal.returns-clause-same
returns-clause-same c = subst (AreSameFrom c.args.moment c.args.self.now.items)
    (sym (left_of_all c)) (same_without_gone c.args.moment c.args.self.now.items)

pub invariant_of-self : goal.invariant_of-self
invariant_of-self c =
    subst (All (λ (d : DatedCode). LiesWithin c.self.inside.lowest c.self.inside.highest d.code))
    (sym (left c))
    (rest_within c.self.inside.lowest c.self.inside.highest (λ (d : DatedCode).
    not (is_gone_by c.args.moment d)) c.self.inside.dated.items c.self.invariant)
