use Rattle.latchsym_ffi.proofs.Words.{◌≡◌, map, rules, subst, RefusesReplacingAs, item_from}
use Rattle.latchsym_ffi.proofs.replacing.latchsym_writer_begin_replace_nonnull.Goals as goal
use Rattle.latchsym_ffi.proofs.replacing.latchsym_writer_begin_replace_nonnull.Goals.{in-Writer}
use Rattle.latchsym_ffi.proofs.replacing.latchsym_writer_begin_replace_nonnull.Goals.{in_default}

pub returns-after-deref_mut-clause-refused : goal.returns-after-deref_mut-clause-refused
returns-after-deref_mut-clause-refused c w held refused =
    elim c.match-deref_mut.branch [
      | in-Writer b ↦
          let is : b.in-Writer.inner ≡ w = search rules in
          subst (λ x.
          RefusesReplacingAs x (map item_from c.args.items.now) c.match-deref_mut.result) is
          (let why = b.begin_replace-result.ensures.refused in search rules)
      | in_default b ↦ search rules
    ]
