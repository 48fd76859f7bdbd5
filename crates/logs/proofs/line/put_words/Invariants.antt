use Rattle.logs.proofs.Definitions.{◌≡◌, ◌≤◌, ◌++◌, length, list_any, counted, annotated_from}
use Rattle.logs.proofs.Definitions.{framed, owed, tallied, taken_in, words_behind}
use Rattle.std.proofs.Common.{◌-◌}
use Rattle.logs.proofs.line.put_words.Given as goal

-- what is put, and what is still owed, is the line with what is inserted
abbrev pub invariant-loop-word : goal.invariant-loop-word
invariant-loop-word g l = record {
  text : l.out.items ++ owed (g.A.Answers.answering l.fn.answers) l.context l.line l.progress
      (words_behind l.line l.progress.at)
      ≡ l.fn.out.items ++ annotated_from (g.A.Answers.answering l.fn.answers) l.line 0
      (taken_in (g.A.Answers.answering l.fn.answers).is_narrow l.context l.line);
  frame : framed (g.A.Answers.answering l.fn.answers) l.context l.line l.progress
      (words_behind l.line l.progress.at) ≡ list_any (λ t. t.is_frame)
      (taken_in (g.A.Answers.answering l.fn.answers).is_narrow l.context l.line);
  names : tallied (g.A.Answers.answering l.fn.answers) l.context l.line l.progress
      (words_behind l.line l.progress.at) ≡ counted (g.A.Answers.answering l.fn.answers) l.line
      l.context.names (taken_in (g.A.Answers.answering l.fn.answers).is_narrow l.context l.line);
  within : l.progress.at ≤ length l.line;
  put : l.progress.put ≤ l.progress.at;
}

abbrev pub decreases-loop-word : goal.decreases-loop-word
decreases-loop-word g l = length l.line - l.progress.at
