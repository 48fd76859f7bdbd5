use Rattle.latchsym_ffi.proofs.Words.{◌≡◌, ◌+◌, ◌<◌, ◌∙◌, List, [], ◌∷◌, Some, ap, length, subst}
use Rattle.latchsym_ffi.proofs.Words.{sym, arith, length-append, AllWithin, All-pop}
use Rattle.latchsym_ffi.proofs.Words.{AllWithin-more_set, Reader, Handle, HoldsReader}
use Rattle.latchsym_ffi.proofs.opening_tables.fill.Goals as goal
use Rattle.latchsym_ffi.proofs.opening_tables.fill.Goals.{in-Some, in_default}

pub loop-place-preserved : goal.loop-place-preserved
loop-place-preserved c =
    let i = c.loop-place.invariant in
    let n = c.loop-place.place in
    let handles = c.loop-place.handles in
    let within : n < length handles = let t = c.loop-place-test.true in
    let e = i.count in
    omega arith in
    elim c.match-pop.branch [
      | in-Some w ↦
          let new = w.open.result in
          let rest = c.pop.new.self.items in
          let content = w.in-Some.content in
          let taken = w.in-Some.ensures.items in
          record {
            count = c.match-pop.auto.handles ∙ i.count;
            left = omega (
              arith,
              ap length taken,
              length-append rest (content ∷ []),
              i.left,
              c.match-pop.auto.handles,
            );
            each = λ r all. (All-pop (λ b. b.value ≡ Reader r) c.loop-place.readers.items rest
                (Some content) taken (i.each r all)).0;
            filled = λ r all.
                let is = (All-pop (λ b. b.value ≡ Reader r) c.loop-place.readers.items rest
                (Some content) taken (i.each r all)).1 in
                subst (λ (l : List Handle). AllWithin (HoldsReader r) l 0 (n + 1))
                (sym w.handles-is)
                (AllWithin-more_set handles n new within (HoldsReader r) (i.filled r all)
                (w.open.ensures ∙ ap Some is));
          }
      | in_default w ↦ absurd
          (omega (arith, w.in_default.ensures.cases.0, c.loop-place.readers.ok.0, i.left, within))
    ]

pub returns-clause-each : goal.returns-clause-each
returns-clause-each c r all k d lt =
    c.loop-place.invariant.filled r all k d (omega arith)
    (let e = c.loop-place.invariant.count in let f = c.loop-place-test.false in omega arith)
