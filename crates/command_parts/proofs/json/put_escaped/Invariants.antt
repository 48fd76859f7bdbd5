use Rattle.command_parts.proofs.Words.{take, Says, escaped}
use Rattle.std.proofs.Common.{flat_map}
use Rattle.command_parts.proofs.json.put_escaped.Given as goal

-- the bytes so far were written
abbrev pub invariant-loop-byte : goal.invariant-loop-byte
invariant-loop-byte g l =
    Says g.W.Write.contents l.fn.writer l.writer (flat_map escaped (take l.byte-index l.text))
