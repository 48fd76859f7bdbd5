use Rattle.run_files.proofs.Words.{◌≡◌, ◌++◌, length, option_map, numbers_of, words_of}
use Rattle.run_files.proofs.batch.numbers_in.Given as goal

-- the numbers so far, and those that the words that are left may be
abbrev pub invariant-loop-n : goal.invariant-loop-n
invariant-loop-n l = option_map (λ ns. l.numbers.items ++ ns) (numbers_of (words_of l.rest))
    ≡ numbers_of (words_of l.line)

abbrev pub decreases-loop-n : goal.decreases-loop-n
decreases-loop-n l = length l.rest
