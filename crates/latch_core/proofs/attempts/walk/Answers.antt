use Rattle.latch_core.proofs.Words.{◌≡◌, ◌≢◌, ℕ, ◌+◌, IsTrue, false, arith, inr, refl}
use Rattle.latch_core.proofs.Words.{sym, ◌∙◌, ap, subst, Less, Equal, Greater, capacity_of}
use Rattle.latch_core.proofs.Words.{root_word, a_word, b_word, tag_word, left_word, stable_copy_of}
use Rattle.latch_core.proofs.Words.{Load, after_item, after_a, after_b, visit, walk, last_load}
use Rattle.latch_core.proofs.Words.{attempt_after, AtItem, HasLoaded}
use Rattle.std.proofs.Common.{◌-◌}
use Rattle.latch_core.proofs.LoadingLemmas.{item_of, starts, may_load, loads_on, goes_aside}
use Rattle.latch_core.proofs.LoadingLemmas.{walk_starts, enters, turns, leaves}
use Rattle.latch_core.proofs.attempts.walk.Goals as goal
use Rattle.latch_core.proofs.attempts.walk.Given.{Over}
use Rattle.latch_core.proofs.attempts.walk.Goals.{After-a_of, After-load-a, After-load-b}
use Rattle.latch_core.proofs.attempts.walk.Goals.{After-load-tag}

pub load-link-requires-clause-can : goal.load-link-requires-clause-can
load-link-requires-clause-can g c =
    let copy = c.stable_copy-copy.ensures in
    let root = c.root_of.ensures in
    may_load (g.W.Loads.load_gives c.args.words.now) _ _ _ (root_word (stable_copy_of c.args.first))
    _ 1 _ (starts _ _ _) (omega arith) _ _ c.requires.ready (omega arith)

pub loop-link-init : goal.loop-link-init
loop-link-init g c =
    let o = g.O.TreeOrder.order in
    let n : ℕ = capacity_of c.args.l in
    let s = c.args.first in
    let gives = g.W.Loads.load_gives c.args.words.now in
    let root = c.root_of.ensures in
    record {
      left = c.left_of-left.ensures ∙ ap (λ p. left_word p 0) c.stable_copy-copy.ensures;
      on =
          walk_starts gives o n c.args.key s c.args.seat.now c.load-link.new.seat c.load-link.result
          (loads_on gives c.args.seat.now (attempt_after o n c.args.key s) c.args.seat.now
          (root_word (stable_copy_of s)) (c.root_of.result + 0) 1 (walk o n c.args.key s n)
          (starts gives c.args.seat.now (attempt_after o n c.args.key s)) (omega arith)
          c.load-link.result c.load-link.new.seat c.load-link.ensures);
    }

not_false : IsTrue false → ⊥
not_false h = cc

-- the walk stands at a node
node : (g : Over) (c : After-a_of g)
    → HasLoaded (g.W.Loads.load_gives c.args.words.now) c.args.seat.now
    (attempt_after g.O.TreeOrder.order (capacity_of c.args.l) c.args.key c.args.first)
    c.loop-link.seat
    (visit g.O.TreeOrder.order c.args.key c.args.first (c.loop-link.link - 1)
    (walk g.O.TreeOrder.order (capacity_of c.args.l) c.args.key c.args.first
    (c.loop-link.invariant.on.visits_left - 1))) c.loop-link.loads
node g c =
    let n : ℕ = capacity_of c.args.l in
    let link = c.loop-link.link in
    enters (g.W.Loads.load_gives c.args.words.now) g.O.TreeOrder.order n c.args.key c.args.first
    c.args.seat.now c.loop-link.seat c.loop-link.loads link c.loop-link.invariant.on
    (λ e. omega arith) (omega arith) (omega arith)

-- and has loaded its a
with_a : (g : Over) (c : After-load-a g)
    → HasLoaded (g.W.Loads.load_gives c.args.words.now) c.args.seat.now
    (attempt_after g.O.TreeOrder.order (capacity_of c.args.l) c.args.key c.args.first)
    c.load-a.new.seat
    (after_a g.O.TreeOrder.order c.args.key c.args.first (c.loop-link.link - 1)
    (walk g.O.TreeOrder.order (capacity_of c.args.l) c.args.key c.args.first
    (c.loop-link.invariant.on.visits_left - 1)) c.load-a.result) (c.loop-link.loads + 1)
with_a g c =
    loads_on (g.W.Loads.load_gives c.args.words.now) _ _ _ (a_word (c.loop-link.link - 1)) _ _ _
    (node g c.before) (omega (arith, c.a_of.ensures)) _ _ c.load-a.ensures

-- and its b
with_b : (g : Over) (c : After-load-b g)
    → HasLoaded (g.W.Loads.load_gives c.args.words.now) c.args.seat.now
    (attempt_after g.O.TreeOrder.order (capacity_of c.args.l) c.args.key c.args.first)
    c.load-b.new.seat
    (after_b g.O.TreeOrder.order c.args.key c.args.first (c.loop-link.link - 1)
    (walk g.O.TreeOrder.order (capacity_of c.args.l) c.args.key c.args.first
    (c.loop-link.invariant.on.visits_left - 1)) c.load-a.result c.load-b.result)
    (c.loop-link.loads + 1 + 1)
with_b g c =
    loads_on (g.W.Loads.load_gives c.args.words.now) _ _ _ (b_word (c.loop-link.link - 1)) _ _ _
    (with_a g c.before.before.before) (omega (arith, c.b_of.ensures)) _ _ c.load-b.ensures

-- and its tag
with_tag : (g : Over) (c : After-load-tag g)
    → HasLoaded (g.W.Loads.load_gives c.args.words.now) c.args.seat.now
    (attempt_after g.O.TreeOrder.order (capacity_of c.args.l) c.args.key c.args.first)
    c.load-tag.new.seat
    (after_item c.args.first (c.loop-link.link - 1) (item_of c.load-a.result c.load-b.result
    c.load-tag.result) (walk g.O.TreeOrder.order (capacity_of c.args.l) c.args.key c.args.first
    (c.loop-link.invariant.on.visits_left - 1)) (g.O.TreeOrder.order.comp c.args.key
    (item_of c.load-a.result c.load-b.result c.load-tag.result)))
    (c.loop-link.loads + 1 + 1 + 1)
with_tag g c =
    loads_on (g.W.Loads.load_gives c.args.words.now) _ _ _ (tag_word (c.loop-link.link - 1)) _ _ _
    (with_b g c.before.before.before) (omega (arith, c.tag_of.ensures)) _ _ c.load-tag.ensures

pub load-b-requires-clause-can : goal.load-b-requires-clause-can
load-b-requires-clause-can g c =
    may_load (g.W.Loads.load_gives c.args.words.now) _ _ _ (b_word (c.loop-link.link - 1)) _ _ _
    (with_a g (goal.at.load-b-requires-clause-can g c).After-load-a)
    (omega (arith, c.b_of.ensures)) _ _ c.requires.ready (omega arith)

pub load-tag-requires-clause-can : goal.load-tag-requires-clause-can
load-tag-requires-clause-can g c =
    may_load (g.W.Loads.load_gives c.args.words.now) _ _ _ (tag_word (c.loop-link.link - 1)) _ _ _
    (with_b g (goal.at.load-tag-requires-clause-can g c).After-load-b)
    (omega (arith, c.tag_of.ensures)) _ _ c.requires.ready (omega arith)

-- and goes on from an item that the key is not in
go_on : (g : Over) (c : After-load-tag g) (aside : ℕ) → (g.O.TreeOrder.order.comp c.args.key
    (item_of c.load-a.result c.load-b.result c.load-tag.result) ≢ Equal) → (g.O.TreeOrder.order.comp
    c.args.key (item_of c.load-a.result c.load-b.result c.load-tag.result) ≡ Less → aside ≡ 0)
    → (g.O.TreeOrder.order.comp c.args.key
    (item_of c.load-a.result c.load-b.result c.load-tag.result) ≡ Greater → aside ≡ 1)
    → HasLoaded (g.W.Loads.load_gives c.args.words.now) c.args.seat.now
    (attempt_after g.O.TreeOrder.order (capacity_of c.args.l) c.args.key c.args.first)
    c.load-tag.new.seat
    (Load (left_word (stable_copy_of c.args.first) (c.loop-link.link - 1) + aside)
    (walk g.O.TreeOrder.order (capacity_of c.args.l) c.args.key c.args.first
    (c.loop-link.invariant.on.visits_left - 1))) (c.loop-link.loads + 1 + 1 + 1)
go_on g c aside not less greater =
    subst (λ r. HasLoaded (g.W.Loads.load_gives c.args.words.now) c.args.seat.now
    (attempt_after g.O.TreeOrder.order (capacity_of c.args.l) c.args.key c.args.first)
    c.load-tag.new.seat r (c.loop-link.loads + 1 + 1 + 1))
    (goes_aside c.args.first (c.loop-link.link - 1) (item_of c.load-a.result c.load-b.result
    c.load-tag.result) _ (g.O.TreeOrder.order.comp c.args.key
    (item_of c.load-a.result c.load-b.result c.load-tag.result)) aside not less greater)
    (with_tag g c)

pub load-link-requires-in-loop-link-clause-can : goal.load-link-requires-in-loop-link-clause-can
load-link-requires-in-loop-link-clause-can g c =
    let h = c.loop-link.invariant.left in
    let some : c.loop-link.link ≢ 0 = λ e. omega arith in
    let compares = c.comp-compared.ensures in
    let aside = c.words_aside.ensures in
    may_load (g.W.Loads.load_gives c.args.words.now) c.args.seat.now
    (attempt_after g.O.TreeOrder.order (capacity_of c.args.l) c.args.key c.args.first)
    c.load-tag.new.seat
    (left_word (stable_copy_of c.args.first) (c.loop-link.link - 1) + c.words_aside.result) _
    (c.loop-link.loads + 1 + 1 + 1) _
    (go_on g (goal.at.load-link-requires-in-loop-link-clause-can g c).After-load-tag
    c.words_aside.result (λ e. not_false (c.if-is_equal.ensures.1 (compares ∙ e)))
    (λ e. aside.less (compares ∙ e)) (λ e. aside.other (inr (compares ∙ e))))
    (omega arith) _ _ c.requires.ready (omega arith)

pub loop-link-preserved : goal.loop-link-preserved
loop-link-preserved g c =
    let o = g.O.TreeOrder.order in
    let n : ℕ = capacity_of c.args.l in
    let k = c.args.key in
    let s = c.args.first in
    let gives = g.W.Loads.load_gives c.args.words.now in
    let link = c.loop-link.link in
    let kept = c.loop-link.invariant in
    let h = kept.left in
    let compares = c.comp-compared.ensures in
    let aside = c.words_aside.ensures in
    let p4 = loads_on gives c.args.seat.now (attempt_after o n k s) c.load-tag.new.seat
    (left_word (stable_copy_of s) (link - 1) + c.words_aside.result) _
    (c.loop-link.loads + 1 + 1 + 1) _
    (go_on g (goal.at.loop-link-preserved g c).After-load-tag c.words_aside.result
    (λ e. not_false (c.if-is_equal.ensures.1 (compares ∙ e))) (λ e. aside.less (compares ∙ e))
    (λ e. aside.other (inr (compares ∙ e)))) (omega arith) c.load-link-in-loop-link.result
    c.load-link-in-loop-link.new.seat c.load-link-in-loop-link.ensures in
    record {
      left = kept.left;
      on = leaves gives o n k s c.args.seat.now c.loop-link.seat c.loop-link.loads link kept.on
          (λ e. omega arith) (omega arith) c.load-link-in-loop-link.new.seat
          c.load-link-in-loop-link.result p4;
    }

pub returns-then-is_equal : goal.returns-then-is_equal
returns-then-is_equal g c =
    let o = g.O.TreeOrder.order in
    let three : c.loop-link.loads + 1 + 1 + 1 ≡ c.loop-link.loads + 4 - 1 = omega arith in
    let within : o.comp c.args.key (item_of c.load-a.result c.load-b.result c.load-tag.result)
    ≡ Equal = sym c.comp-compared.ensures ∙ c.if-is_equal.ensures.0 refl in
    subst (HasLoaded (g.W.Loads.load_gives c.args.words.now) c.args.seat.now
    (attempt_after o (capacity_of c.args.l) c.args.key c.args.first) c.load-tag.new.seat
    (last_load c.args.first (AtItem (item_of c.load-a.result c.load-b.result c.load-tag.result))))
    three
    (turns (g.W.Loads.load_gives c.args.words.now) o _ c.args.key c.args.first c.args.seat.now _ _
    (c.loop-link.link - 1) (item_of c.load-a.result c.load-b.result c.load-tag.result) _ _ Equal
    within
    (with_tag g (goal.at.returns-then-is_equal g c).After-load-tag))
