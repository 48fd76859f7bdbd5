use Rattle.shared_lookup.proofs.Words.{◌≡◌, ◌++◌, take, answers_at}
use Rattle.shared_lookup.proofs.replays.refer_to.Given as goal

abbrev pub invariant-loop-answer : goal.invariant-loop-answer
invariant-loop-answer l =
    answers_at l.all.items ≡ answers_at l.fn.all.items ++ take l.answer-index l.list
