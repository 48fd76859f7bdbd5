use Rattle.latchsym_ffi.proofs.Words.{◌≡◌, rules, subst, Followed, RefusesNodes}
use Rattle.latchsym_ffi.proofs.enlarging.latchsym_follower_enlarge_nonnull.Goals as goal
use Rattle.latchsym_ffi.proofs.enlarging.latchsym_follower_enlarge_nonnull.Goals.{in-Follower}
use Rattle.latchsym_ffi.proofs.enlarging.latchsym_follower_enlarge_nonnull.Goals.{in_default}

pub returns-after-deref_mut-clause-why : goal.returns-after-deref_mut-clause-why
returns-after-deref_mut-clause-why c f held refused =
    elim c.match-deref_mut.branch [
      | in-Follower b ↦
          let is : b.in-Follower.open ≡ f = search rules in
          subst (λ (x : Followed).
          RefusesNodes c.args.nodes x.writer c.args.readers.now c.match-deref_mut.result) is
          (let why = b.enlarge_following-result.ensures.why in search rules)
      | in_default b ↦ search rules
    ]
