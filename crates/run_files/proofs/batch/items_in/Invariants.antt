use Rattle.run_files.proofs.Words.{◌≡◌, ◌++◌, length, items_of_numbers}
use Rattle.run_files.proofs.batch.items_in.Given as goal

-- the items so far, and those of the numbers that are left
abbrev pub invariant-loop-rest : goal.invariant-loop-rest
invariant-loop-rest l = l.items.items ++ items_of_numbers l.rest ≡ items_of_numbers l.numbers

abbrev pub decreases-loop-rest : goal.decreases-loop-rest
decreases-loop-rest l = length l.rest
