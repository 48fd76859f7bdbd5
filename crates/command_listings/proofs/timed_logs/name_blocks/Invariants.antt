use Rattle.command_listings.proofs.Words.{◌≡◌, ◌+◌, [], ℕ, Option, length, Counted, Output}
use Rattle.modules.specs.Listed.{BoundNames}
use Rattle.listing.specs.declared.address_rules.LogRule.{LogRule}
use Rattle.command_listings.specs.TimedLogs.{AreAnswersAfter, IsTimedTo}
use Rattle.command_listings.proofs.timed_logs.name_blocks.Given as goal

-- each turn names one block
abbrev pub invariant-loop-turn : goal.invariant-loop-turn
invariant-loop-turn g l =
    (g.A.Answers.answering l.answers ≡ g.A.Answers.answering l.fn.answers)
    × (l.log.left.items ≡ [])
    × (length l.log.room.items ≡ length l.fn.log.room.items)
    × ((kernel : Option BoundNames) (rule : LogRule)
    → AreAnswersAfter kernel rule l.history l.listing.count (g.A.Answers.answering l.fn.answers)
    → (first : Counted g.row.L.Denot) (begun : Output g.row.W.Denot) (n : ℕ)
    → IsTimedTo kernel rule l.history g.L.Read.remaining g.W.Write.contents first begun n l.fn.log
    l.fn.reader l.fn.writer
    → IsTimedTo kernel rule l.history g.L.Read.remaining g.W.Write.contents first begun (n + l.turn)
    l.log l.reader l.writer)
