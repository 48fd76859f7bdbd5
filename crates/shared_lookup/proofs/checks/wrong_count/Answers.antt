use Rattle.shared_lookup.proofs.Words.{◌≡◌, length, arith, subst, sym, zip, range_with_len, Counts}
use Rattle.shared_lookup.proofs.Words.{CountsUpTo, IsWrongAnswer, IsWrongChange, IsWrongEntry}
use Rattle.shared_lookup.proofs.Words.{entries}
use Rattle.shared_lookup.proofs.CheckLemmas.{counted_or_none}
use Rattle.shared_lookup.proofs.checks.wrong_count.Goals as goal

pub returns : goal.returns
returns c =
    let log = c.args.ledger.now.log in
    let is : c.log-log.result.now ≡ log = c.log-log.ensures.log in
    let pairs = zip (entries c.args.changes.now) (entries c.args.outcomes.now) in
    let outcomes = entries c.args.outcomes.now in
    let answers = c.args.answers.now in
    let a = subst (λ n. Counts (IsWrongAnswer log) (entries answers) n)
    (sym c.unwrap_or-of_answers.ensures)
    (counted_or_none log answers c.replayed.result c.replayed.ensures.count c.requires.found) in
    let b = subst
    (λ us. CountsUpTo (IsWrongChange c.args.c.now us) pairs c.wrong_changes-of_changes.result)
    is c.wrong_changes-of_changes.ensures in
    let d = subst (λ us. CountsUpTo (IsWrongEntry outcomes) (range_with_len 0 (length us))
    c.wrong_entries-of_entries.result) is c.wrong_entries-of_entries.ensures in
    let first = c.saturating_add.ensures in
    let second = c.saturating_add-2.ensures in
    let third = b.2 in
    let fourth = d.2 in (
      c.unwrap_or-of_answers.result,
      a,
      (b.0, b.1, (d.0, d.1, omega (arith, first, second, third, fourth))),
    )
