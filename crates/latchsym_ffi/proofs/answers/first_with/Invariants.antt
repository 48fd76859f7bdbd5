use Rattle.latchsym_ffi.proofs.Words.{◌≡◌, None, find, take, has_number}
use Rattle.latchsym_ffi.proofs.answers.first_with.Given as goal

-- none of the answers gone through has the number
abbrev pub invariant-loop-answer : goal.invariant-loop-answer
invariant-loop-answer l = find (has_number l.number) (take l.answer-index l.answers) ≡ None
