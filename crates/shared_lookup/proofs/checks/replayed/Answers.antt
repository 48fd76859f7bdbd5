use Rattle.shared_lookup.proofs.Words.{◌≡◌, subst, IfOk, count_by, is_wrong_answer, entries}
use Rattle.shared_lookup.proofs.checks.replayed.Goals as goal

pub returns : goal.returns
returns c =
    record {
      count =
          subst (λ us. IfOk c.wrong_answers.result
          (λ n. n ≡ count_by (is_wrong_answer us) (entries c.args.answers.now)))
          c.log.ensures.log c.wrong_answers.ensures.count;
    }
