use Rattle.latchsym_ffi.proofs.Words.{◌≡◌, rules, subst, RefusesNodes}
use Rattle.latchsym_ffi.proofs.enlarging.latchsym_table_enlarge_nonnull.Goals as goal
use Rattle.latchsym_ffi.proofs.enlarging.latchsym_table_enlarge_nonnull.Goals.{in-Writer}
use Rattle.latchsym_ffi.proofs.enlarging.latchsym_table_enlarge_nonnull.Goals.{in_default}

pub returns-after-deref_mut-clause-why : goal.returns-after-deref_mut-clause-why
returns-after-deref_mut-clause-why c w held refused =
    elim c.match-deref_mut.branch [
      | in-Writer b ↦
          let is : b.in-Writer.inner ≡ w = search rules in
          subst (λ x. RefusesNodes c.args.nodes x c.args.readers.now c.match-deref_mut.result) is
          (let why = b.enlarge-result.ensures.why in search rules)
      | in_default b ↦ search rules
    ]
