use Rattle.modules.proofs.Words.{arith, common_steps}
use Rattle.modules.proofs.Lemmas.{ge_from_not_lt, Less-from_lt, lt-from_Less}
use Rattle.modules.proofs.SpreadLemmas.{apart_from_none, tested_by_last}
use Rattle.modules.proofs.regions.Regions.is_apart.Goals as goal

pub returns-in-Some : goal.returns-in-Some
returns-in-Some c =
    let m = c.self.inside.ends in
    let r = c.region.inside in
    let s = c.in-Some.field-0-0.now in
    let e = c.in-Some.last_end.now in
    let within = c.range.ensures.in_range tt in
    let last = within.3 (s, e) c.next_back.new.self c.in-Some.ensures.steps in
    rw (← c.self.view_is, ← c.region.view_is)
    (tested_by_last m c.range.ensures.ordered c.self.invariant r.start r.end s e last.1
    (lt-from_Less s r.end last.0.1)
    (λ q below found. ge_from_not_lt s q
    (within.4 (s, e) c.next_back.new.self c.in-Some.ensures.steps q (tt, Less-from_lt q r.end below)
    found)))

pub returns-in-None : goal.returns-in-None
returns-in-None c = grind (arith, common_steps, apart_from_none, Less-from_lt)
