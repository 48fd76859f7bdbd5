use Rattle.texts.proofs.Words.{◌≡◌, ◌++◌, map, length, words_of}
use Rattle.arrayvec.specs.ArrayVec.{array_vec_len}
use Rattle.texts.proofs.lines.words_in.Given as goal

-- the words so far, and those that are left
abbrev pub invariant-loop : goal.invariant-loop
invariant-loop g l = record {
  cut : map (λ w. w.now) l.words.items ++ words_of l.rest ≡ words_of l.line;
  counted : array_vec_len l.words ≡ l.counter;
  all : length l.words.items ≡ l.counter;
}
