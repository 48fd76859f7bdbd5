use Rattle.command_listings.proofs.Words.{[], map, take, IsSought}
use Rattle.command_listings.proofs.kept_symbols.names_sought.Given as goal

-- the names of the words so far are there
abbrev pub invariant-loop-word : goal.invariant-loop-word
invariant-loop-word l = IsSought (map (λ w. w.now) (take l.word-index l.words)) [] l.sought
