use Rattle.std.proofs.Common.{None}
use Rattle.logs.proofs.Definitions.{◌≡◌, ◌≤◌, length, first_context, taken_among, taken_in}
use Rattle.logs.proofs.Definitions.{words_behind}
use Rattle.std.proofs.Common.{◌-◌}
use Rattle.logs.proofs.unnamed.has_address_word.Given as goal

-- the words before the place are no addresses
abbrev pub invariant-loop-word : goal.invariant-loop-word
invariant-loop-word l =
    (l.at ≤ length l.line)
    × (taken_among l.is_narrow first_context l.line None (words_behind l.line l.at)
    ≡ taken_in l.is_narrow first_context l.line)

abbrev pub decreases-loop-word : goal.decreases-loop-word
decreases-loop-word l = length l.line - l.at
