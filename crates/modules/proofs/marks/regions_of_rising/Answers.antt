use Rattle.modules.proofs.Words.{◌≡◌, ◌-◌, ◌^◌, ◌<◌, ◌≤◌, length, get_or, arith, rules}
use Rattle.modules.proofs.Words.{get_or_default}
use Rattle.modules.specs.declared.marks.Mark.{Mark}
use Rattle.modules.proofs.SweepLemmas.{exact_with, exact_none, from_first, from_next, from_same}
use Rattle.modules.proofs.SweepLemmas.{is_above, reached_before, reached_last}
use Rattle.modules.proofs.marks.regions_of_rising.Goals as goal
use Rattle.modules.proofs.marks.regions_of_rising.Goals.{then-from-mark+in_ok-cover, else-from-mark}

pub loop-mark-init : goal.loop-mark-init
loop-mark-init c =
    let from : Mark = get_or c.args.marks.now 0 (record { addr = 0; owner = 0 }) in
    let some : 0 < length c.args.marks.now = search rules in
    let listed : get_or c.args.marks.now 0 from ≡ from =
    get_or_default c.args.marks.now 0 from (record { addr = 0; owner = 0 }) some in
    record {
      laid = search rules;
      ends = search rules;
      exact = exact_none c.args.marks.now c.new-items.result.items from c.requires listed
          (search rules);
      head = from_first c.args.marks.now from some listed;
    }

pub loop-mark-preserved : goal.loop-mark-preserved
loop-mark-preserved c =
    let marks = c.args.marks.now in
    let i = c.loop-mark.invariant in
    let k = c.loop-mark.mark-index in
    let next : Mark = get_or marks k (record { addr = 0; owner = 0 }) in
    let listed : get_or marks k next ≡ next =
    get_or_default marks k next (record { addr = 0; owner = 0 }) c.loop-mark-test.true in
    elim c.if-from-mark.branch [
      | then-from-mark+in_ok-cover w ↦
          rw (w.items-is, w.from-is) (record {
            laid = w.in_ok-cover.ensures.laid;
            ends = λ j d lt. (let e = w.in_ok-cover.ensures.ends j d lt in
                let b = w.end_before.ensures.bounds.1 in omega arith);
            exact = exact_with marks k c.loop-mark.from w.end_before.result next.addr
                c.loop-mark.items.items w.cover.new.items.items i.head
                (is_above marks k next c.requires listed) (omega (arith, w.if-from-mark.true))
                w.end_before.ensures.bounds.1
                (reached_before marks k c.loop-mark.from next w.end_before.result i.head
                (is_above marks k next c.requires listed) c.loop-mark-test.true listed
                w.end_before.ensures.exact)
                i.exact w.in_ok-cover.ensures.holds;
            head = from_next marks k c.loop-mark.from next c.requires i.head c.loop-mark-test.true
                listed w.if-from-mark.true;
          })
      | else-from-mark w ↦
          rw (w.items-is, w.from-is) (record {
            laid = i.laid;
            ends = i.ends;
            exact = i.exact;
            head = from_same marks k c.loop-mark.from next i.head listed
                (omega (arith, w.if-from-mark.false));
          })
    ]

pub returns : goal.returns
returns c =
    let marks = c.args.marks.now in
    let i = c.loop-mark.invariant in
    let k = c.loop-mark.mark-index in
    let all : length marks ≤ k = omega (arith, c.loop-mark-test.false) in
    let end = c.end_of_page.result in
    let bounds = c.end_of_page.ensures.bounds in
    record {
      laid = c.in_ok-cover-2.ensures.laid;
      exact = exact_with marks k c.loop-mark.from end (2 ^ 64 - 1) c.loop-mark.items.items
          c.cover-2.new.items.items i.head (λ j d le inside. absurd (omega arith))
          (omega (arith, bounds.0, bounds.1)) bounds.1
          (reached_last marks k c.loop-mark.from end i.head all c.end_of_page.ensures.exact)
          i.exact c.in_ok-cover-2.ensures.holds;
    }
