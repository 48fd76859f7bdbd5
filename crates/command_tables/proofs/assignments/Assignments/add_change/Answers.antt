use Rattle.command_tables.proofs.Words.{◌∷◌, ◌++◌, [], subst, AreListed, most_writers}
use Rattle.std.proofs.Common.{IfOk}
use Rattle.facts.proofs.Options.{IfOk-Ok}
use Rattle.command_tables.proofs.assignments.Assignments.add_change.Goals as goal

pub returns-clause-changes : goal.returns-clause-changes
returns-clause-changes c = λ entries listed.
    IfOk-Ok _ c.enlist.result c.in_ok-enlist.field-0 c.enlist-2.result c.in_ok-enlist.was
    (c.enlist.ensures most_writers entries listed)

pub returns-clause-names : goal.returns-clause-names
returns-clause-names c = λ entries listed.
    subst (λ n. IfOk c.enlist-2.result (λ _. AreListed most_writers
    (entries ++ (c.args.writer, n) ∷ []) c.enlist-2.new.lists.items)) c.name.view_is
    (c.enlist-2.ensures most_writers entries listed)
