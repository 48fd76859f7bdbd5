use Rattle.recordings.proofs.Words.{◌≡◌, ◌++◌, length, lines, joined_if, modules_in}
use Rattle.recordings.proofs.module_lines.modules_in.Given as goal

-- the modules so far, and those of the rest
abbrev pub invariant-loop-rest : goal.invariant-loop-rest
invariant-loop-rest l =
    l.modules.items ++ joined_if l.last (modules_in (lines l.rest)) ≡ modules_in (lines l.text)

abbrev pub decreases-loop-rest : goal.decreases-loop-rest
decreases-loop-rest l = length l.rest
