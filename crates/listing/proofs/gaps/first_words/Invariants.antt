use Rattle.listing.proofs.Words.{◌≡◌, ◌++◌, length, runs_of}
use Rattle.std.proofs.Common.{map}
use Rattle.arrayvec.specs.ArrayVec.{array_vec_len}
use Rattle.listing.proofs.gaps.first_words.Given as goal

-- the words so far, and those that are left
abbrev pub invariant-loop : goal.invariant-loop
invariant-loop g l = record {
  cut : map (λ w. w.now) l.words.items ++ runs_of l.rest ≡ runs_of l.line;
  counted : array_vec_len l.words ≡ l.counter;
  all : length l.words.items ≡ l.counter;
}
