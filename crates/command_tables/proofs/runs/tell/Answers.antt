use Rattle.command_tables.proofs.Words.{rules, ◌≡◌, ◌∙◌, false, sym, list_any, all_delivered}
use Rattle.command_tables.proofs.Words.{part_written}
use Rattle.command_tables.proofs.runs.tell.Goals as goal

pub returns : goal.returns
returns g c =
    let whole : list_any (λ e. e) c.args.served.now.ended.items ≡ false = search rules in (
      whole,
      c.status_of.ensures,
      all_delivered c.put_run.ensures (sym c.has_failed.ensures ∙ c.if-has_failed.false),
    )

pub returns-then-has_failed : goal.returns-then-has_failed
returns-then-has_failed g c =
    let whole : list_any (λ e. e) c.args.served.now.ended.items ≡ false = search rules in
    (whole, part_written c.put_run.ensures.0 (sym c.has_failed.ensures ∙ c.if-has_failed.true))
