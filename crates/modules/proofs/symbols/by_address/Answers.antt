use Rattle.modules.proofs.Words.{arith}
use Rattle.modules.proofs.Lemmas.{take_at, IsPermutation-trans, answers_always, length_permutation}
use Rattle.modules.proofs.Lemmas.{is_lt-then}
use Rattle.modules.proofs.IndexLemmas.{comes_before_weak}
use Rattle.modules.proofs.symbols.by_address.Goals as goal

pub returns : goal.returns
returns c = grind (
  arith,
  take_at,
  length_permutation,
  comes_before_weak,
  answers_always,
  is_lt-then,
  IsPermutation-trans,
)
