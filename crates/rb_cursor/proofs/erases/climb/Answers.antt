-- Each goal of the loop is one of the facts of EraseSteps at the values of the step.
use Rattle.rb_cursor.proofs.Words.{◌≡◌, ◌<◌, sym, ◌∙◌, ap, subst, arith, length, length-append}
use Rattle.rb_cursor.proofs.Words.{copy_number, closed_to, most_on_climb, common_steps}
use Rattle.rb_cursor.proofs.StepLemmas.{shorter, closed_room}
use Rattle.rb_cursor.proofs.EraseSteps.{EraseEnds, erase_filled, fill_fits, relink_fits, there_is}
use Rattle.rb_cursor.proofs.EraseSteps.{erase_stays, erase_arrived}
use Rattle.rb_cursor.proofs.erases.climb.Goals as goal
use Rattle.rb_cursor.proofs.erases.climb.Goals.{else-loop-copy-test}
use Rattle.rb_cursor.proofs.erases.climb.Goals.{then-loop-copy-test+in-Some+then-not-short}

pub fill-short-requires-clause-list : goal.fill-short-requires-clause-list
fill-short-requires-clause-list c =
    let inv = c.loop-copy.invariant in
    let near = c.in-Some.ensures in
    let more : c.args.depth < length c.loop-copy.cursor.path =
    omega (arith, c.loop-copy-test.true, c.depth.ensures) in
    let full = c.if-not-short.false in
    let longer = simp length-append at (ap length c.relink.ensures.items) in
    let now = simp length-append at (ap length inv.rises.stores) in
    omega (
      arith,
      fill_fits inv.rises near more full c.rise.ensures,
      relink_fits inv.rises near more,
      ap most_on_climb (inv.rises.was_short full),
    )

pub loop-copy-preserved : goal.loop-copy-preserved
loop-copy-preserved c = grind (arith, common_steps, there_is, erase_filled, shorter)

-- the way ended at the depth, or where nothing is short
ends : (c : goal.After-close_to)
    → EraseEnds (copy_number c.args.copy) c.args.depth c.args.before c.args.short c.args.cursor.now
    c.args.out.now.items c.close_to.new.self c.loop-copy.short c.loop-copy-test.out.items
    × (c.loop-copy-test.cursor.room ≡ c.args.cursor.now.room)
ends c =
    let inv = c.loop-copy.invariant in
    elim c.loop-copy-test.branch [
      | else-loop-copy-test w ↦ (
        subst (λ ss. EraseEnds (copy_number c.args.copy) c.args.depth c.args.before c.args.short
            c.args.cursor.now c.args.out.now.items c.close_to.new.self c.loop-copy.short ss)
            (sym (ap (λ v. v.items) w.out-is))
            (erase_arrived inv.rises (omega (arith, w.loop-copy-test.false, c.depth.ensures))
            (c.close_to.ensures
            ∙ ap (λ z. closed_to c.args.depth z.tree z.path z.room) w.cursor-is)),
        ap (λ z. z.room) w.cursor-is ∙ inv.room,
      )
      | then-loop-copy-test+in-Some+then-not-short w ↦
          let more : c.args.depth < length c.loop-copy.cursor.path =
          omega (arith, w.loop-copy-test.true, c.depth.ensures) in
          let near = w.in-Some.ensures in
          let rises = w.cursor-is ∙ w.rise.ensures in (
            erase_stays inv.rises near more w.if-not-short.true rises
                (ap (λ v. v.items) w.out-is ∙ w.relink.ensures.items) c.close_to.ensures,
            ap (λ z. z.room) (there_is inv.rises near more rises) ∙ inv.room,
          )
    ]

pub returns-clause-climbs : goal.returns-clause-climbs
returns-clause-climbs c = (ends c).0

pub returns-clause-room : goal.returns-clause-room
returns-clause-room c = grind (arith, common_steps, closed_room, ends)
