use Rattle.run_files.proofs.Words.{◌≡◌, ℕ, List, Command, entries_after}
use Rattle.run_files.proofs.command_lines.CommandLines.understand.Given as goal

-- these commands, and then those that the lines say which are left, are those of all lines
abbrev pub invariant-loop : goal.invariant-loop
invariant-loop l = (front : List (Command ℕ)) × (entries_after front l.left.said ≡ l.self.said)

abbrev pub decreases-loop : goal.decreases-loop
decreases-loop l = l.left.bytes
