use Rattle.command_parts.proofs.Words.{ℕ, ◌++◌, ◌≡◌, List, length, Says, escaped}
use Rattle.std.specs.Prelude.{flat_map}
use Rattle.command_parts.specs.Json.{text_of}
use Rattle.command_parts.proofs.json.put_text.Given as goal

-- what is written so far, and then the text of the rest, are the text
abbrev pub invariant-loop-fault : goal.invariant-loop-fault
invariant-loop-fault g l =
    (done : List ℕ)
    × (flat_map escaped (text_of l.bytes) ≡ done ++ flat_map escaped (text_of l.rest))
    × Says g.W.Write.contents l.fn.writer l.writer done

abbrev pub decreases-loop-fault : goal.decreases-loop-fault
decreases-loop-fault g l = length l.rest
