use Rattle.std.proofs.Common.{ap, sym, ◌∙◌, inl, inr}
use Rattle.follower.specs.Noted.{noted_at}
use Rattle.follower.proofs.NotedLemmas.{none_there}
use Rattle.follower.proofs.noted.NotedCodes.at.Goals as goal
use Rattle.follower.proofs.noted.NotedCodes.at.Goals.{then-addr-self-via-then-addr-self}
use Rattle.follower.proofs.noted.NotedCodes.at.Goals.{then-addr-self-via-else-addr-self+then-self-addr}

pub returns-then-addr-self : goal.returns-then-addr-self
returns-then-addr-self c =
    sym (ap (λ v. noted_at v.items c.args.moment c.args.addr) (sym c.self.view_is)
    ∙ none_there c.self.inside.lowest c.self.inside.highest c.self.inside.dated.items
    c.self.invariant c.args.moment c.args.addr c.ranges.addr.fits
    (elim c.then-addr-self.branch [
      | then-addr-self-via-then-addr-self w ↦ inl w.if-addr-self.true
      | then-addr-self-via-else-addr-self+then-self-addr w ↦ inr w.if-self-addr.true
    ]))
