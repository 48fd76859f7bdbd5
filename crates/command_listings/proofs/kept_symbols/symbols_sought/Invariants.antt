use Rattle.command_listings.proofs.Words.{◌≡◌, ◌++◌, List, ℕ, length, map, lines_of, symbols_in}
use Rattle.command_listings.proofs.Words.{IsSought, kept_symbols}
use Rattle.command_listings.proofs.kept_symbols.symbols_sought.Given as goal

-- the symbols of the lines so far are there
abbrev pub invariant-loop-rest : goal.invariant-loop-rest
invariant-loop-rest l =
    (done : List (List ℕ)) × (done ++ lines_of l.rest ≡ lines_of l.kallsyms)
    × IsSought (map (λ w. w.now) l.words) (kept_symbols l.index (symbols_in done)) l.sought

abbrev pub decreases-loop-rest : goal.decreases-loop-rest
decreases-loop-rest l = length l.rest
