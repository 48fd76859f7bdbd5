use Rattle.latch_table.proofs.Words.{rules, ◌≡◌, ℕ, List, ap, subst, ◌∙◌, arith, slice_set}
use Rattle.latch_table.proofs.Words.{capacity_of, at, words_for, writer_of, copy_next}
use Rattle.latch_table.proofs.RuleLemmas.{allows_copy}
use Rattle.latch_table.proofs.enlarging.copied.Goals as goal

pub load-requires : goal.load-requires
load-requires g c =
    let inv = c.loop-word.invariant in (
      inv.0 ∙ c.requires.table,
      search rules,
      allows_copy g.O.TreeOrder.order _ _ _ _ _ _ _
          (ap (λ m. m.0.writer) (inv.1 ∙ c.requires.writes)),
    )

pub loop-word-preserved : goal.loop-word-preserved
loop-word-preserved g c =
    let inv = c.loop-word.invariant in
    let words : List ℕ = (writer_of c.args.seat.now.me.0).picture in
    let w = c.loop-word.word in
    let k = words_for (capacity_of c.args.to) in
    let loaded : c.load.result ≡ at words w =
    subst (λ m. c.load.result ≡ at (writer_of m.0).picture w) inv.1 c.load.ensures.2.0 in (
      c.load.ensures.0 ∙ inv.0,
      c.load.ensures.2.1 ∙ inv.1,
      (λ i. slice_set (inv.2 i) w (loaded i)) ∙ copy_next k w words
          (omega (arith, c.loop-word-test.true, c.words-word-end.ensures, c.requires.picture))
          (omega (arith, c.requires.picture, c.requires.wider)),
    )
