use Rattle.logs.proofs.Definitions.{arith}
use Rattle.logs.proofs.PlaceLemmas.{other_end}
use Rattle.logs.proofs.places.ends_so.Goals as goal

pub returns-in-len1-up-len1-up : goal.returns-in-len1-up-len1-up
returns-in-len1-up-len1-up c =
    other_end c.args.bytes.now c.args.text.now
    (grind (arith, c.in-len1-up-len1-up.if-bytes-lt1-own.false))
    (grind (arith, c.in-len1-up-len1-up.if-this-lt1-own.false)) c.if-last-other.true
