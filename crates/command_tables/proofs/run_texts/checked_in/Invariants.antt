use Rattle.command_tables.proofs.Words.{◌≡◌, take, count_of_answers}
use Rattle.command_tables.proofs.run_texts.checked_in.Given as goal

abbrev pub invariant-loop-list : goal.invariant-loop-list
invariant-loop-list l = l.checked ≡ count_of_answers (take l.list-index l.answers)
