use Rattle.latch_core.proofs.Words.{◌≡◌, ◌<◌, false, get_or, length, sym, ◌∙◌, arith, Item}
use Rattle.latch_core.proofs.Words.{Difference, is_same}
use Rattle.latch_core.proofs.ReplacementLemmas.{compared, met_at, gone_at, same_is_one}
use Rattle.latch_core.proofs.replacements.Difference.tell.Goals as goal

pub returns-then-eq : goal.returns-then-eq
returns-then-eq g c =
    λ more h.
    let o = g.O.TreeOrder.order in
    let none : Item = record { a = 0; b = 0; tag = 0 } in
    let s : Difference = c.pass_lesser.new.self in
    let same : get_or c.args.items.now s.place none ≡ c.args.item =
    sym (same_is_one c.args.item (get_or c.args.items.now s.place none) (sym (compared
    (get_or c.args.items.now s.place none) c.args.item) ∙ sym c.eq.ensures ∙ c.if-eq.true)) in
    met_at o g.met.O.TreeOrder.lawful s.erase.items s.insert.items c.args.items.now s.place none
    c.args.item more c.if-self-items.true same c.requires h
    ∙ c.in_ok-pass_lesser.ensures.same more h

pub returns : goal.returns
returns g c =
    λ more h.
    let o = g.O.TreeOrder.order in
    let none : Item = record { a = 0; b = 0; tag = 0 } in
    let s : Difference = c.pass_lesser.new.self in
    let differs : s.place < length c.args.items.now
    → is_same c.args.item (get_or c.args.items.now s.place none) ≡ false =
    λ lt.
    elim c.else-self-items.branch [
      | goal.else-self-items-via-then-self-items+else-eq w ↦ sym
          (compared (get_or c.args.items.now s.place none) c.args.item) ∙ sym w.eq.ensures
          ∙ w.if-eq.false
      | goal.else-self-items-via-else-self-items w ↦ absurd (omega (arith, w.if-self-items.false))
    ] in
    gone_at o g.met.O.TreeOrder.lawful s.erase.items s.insert.items c.args.items.now s.place none
    c.args.item more c.push.new.self.items c.in_ok-push.ensures.items
    c.in_ok-pass_lesser.ensures.stops differs c.requires
    ∙ c.in_ok-pass_lesser.ensures.same more h
