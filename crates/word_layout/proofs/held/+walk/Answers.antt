use Rattle.word_layout.proofs.Words.{◌≡◌, ◌+◌, ◌-◌, ◌<◌, [], ◌∷◌, ◌++◌, length, suc, ◌∙◌, ap, subst}
use Rattle.std.proofs.Common.{rules}
use Rattle.word_layout.proofs.Words.{length-append, arith, IfSome, IfNone, Item, capacity_of}
use Rattle.word_layout.proofs.Words.{copy_number, at, item_at, Nodes, fork, listed, items, Leads}
use Rattle.facts.proofs.Options.{IfNone-weaker, IfSome-weaker}
use Rattle.word_layout.proofs.HeldLemmas.{past_no_tree, some_visit, left_too_large, right_too_large}
use Rattle.word_layout.proofs.HeldLemmas.{three_parts}
use Rattle.word_layout.proofs.held.+walk.Goals as goal

pub returns-then-link-capacity-clause-none : goal.returns-then-link-capacity-clause-none
returns-then-link-capacity-clause-none t c =
    elim c.then-link-capacity.branch [
      | goal.then-link-capacity-via-then-link-capacity w ↦ λ t' h.
          absurd (past_no_tree c.args.words.now (capacity_of c.args.l) (copy_number c.args.copy)
          c.args.link t' (omega (arith, w.if-link-capacity.true, c.capacity.ensures.is)) h)
      | goal.then-link-capacity-via-else-link-capacity+then-left-eq0 w ↦ λ t' h.
          omega (
            arith,
            some_visit c.args.words.now (capacity_of c.args.l) (copy_number c.args.copy) c.args.link
                t' c.if-link-eq0.false h,
            w.if-left-eq0.true,
          )
    ]

pub returns-in_default-clause-none : goal.returns-in_default-clause-none
returns-in_default-clause-none t c =
    let m = c.args.words.now in
    let n = capacity_of c.args.l in
    let copy = copy_number c.args.copy in
    let is_node : c.args.link ≡ suc (c.args.link - 1) = omega (arith, c.if-link-eq0.false) in
    let at_link : (u : Nodes) → Leads m n copy (at m c.left_of.result) u
    → c.args.left - 1 < length (listed u) =
    subst (λ o. IfNone o ((u : Nodes) → Leads m n copy (at m c.left_of.result) u
    → c.args.left - 1 < length (listed u))) c.in_default.is c.in_ok-rest.ensures.none in
    let large =
    subst (λ w. (u : Nodes) → Leads m n copy (at m w) u → c.args.left - 1 < length (listed u))
    c.left_of.ensures at_link in
    λ t' h. left_too_large m n copy c.args.link (c.args.link - 1) is_node c.args.left
    (omega (arith, c.if-left-eq0.false)) large t' h

pub returns : goal.returns
returns t c =
    let m = c.args.words.now in
    let n = capacity_of c.args.l in
    let copy = copy_number c.args.copy in
    let node = c.args.link - 1 in
    let is_node : c.args.link ≡ suc node = omega (arith, c.if-link-eq0.false) in
    let lt : node < n =
    omega (arith, c.if-link-eq0.false, c.if-link-capacity.false, c.capacity.ensures.is) in
    let less : (l : Nodes) × Leads m n copy (at m c.left_of.result) l
    × (c.walk.new.found.items ≡ c.args.found.now.items ++ items m l)
    × (c.in-Some.rest + length (listed l) ≡ c.args.left - 1) =
    subst (λ o. IfSome o (λ rest. (l : Nodes) × Leads m n copy (at m c.left_of.result) l
    × (c.walk.new.found.items ≡ c.args.found.now.items ++ items m l)
    × (rest + length (listed l) ≡ c.args.left - 1))) c.in-Some.is c.in_ok-rest.ensures.tree in
    let leads_left = subst (λ w. Leads m n copy (at m w) less.0) c.left_of.ensures less.1 in
    let item : Item =
    record { a = at m c.a_of.result; b = at m c.b_of.result; tag = at m c.tag_of.result } in
    let is_item : item ≡ item_at m node = λ d. record {
      a = at m (c.a_of.ensures d);
      b = at m (c.b_of.ensures d);
      tag = at m (c.tag_of.ensures d);
    } in
    let pushed : c.push.new.self.items ≡ c.walk.new.found.items ++ item_at m node ∷ [] =
    c.in_ok-push.ensures.items ∙ ap (λ i. c.walk.new.found.items ++ i ∷ []) is_item in
    let next_tree =
    IfSome-weaker c.walk-2.result
    (λ rest. (r : Nodes) × Leads m n copy (at m c.right_of.result) r
    × (c.walk-2.new.found.items ≡ c.push.new.self.items ++ items m r)
    × (rest + length (listed r) ≡ c.in-Some.rest))
    (λ rest. (u : Nodes) × Leads m n copy c.args.link u
    × (c.walk-2.new.found.items ≡ c.args.found.now.items ++ items m u)
    × (rest + length (listed u) ≡ c.args.left))
    (λ rest (r, leads, appended, count).
    let leads_right = subst (λ w. Leads m n copy (at m w) r) c.right_of.ensures leads in (
      fork less.0 node r,
      (is_node, lt, leads_left, leads_right),
      three_parts c.args.found.now.items (items m less.0) (items m r) (item_at m node)
          c.walk.new.found.items c.push.new.self.items c.walk-2.new.found.items less.2 pushed
          appended,
      omega (arith, length-append (listed less.0) (node ∷ listed r)),
    ))
    c.walk-2.ensures.tree in
    let next_none =
    IfNone-weaker c.walk-2.result
    ((u : Nodes) → Leads m n copy (at m c.right_of.result) u → c.in-Some.rest < length (listed u))
    ((u : Nodes) → Leads m n copy c.args.link u → c.args.left < length (listed u))
    (λ large u h.
    right_too_large m n copy c.args.link node is_node c.args.left c.in-Some.rest less.0
    (omega (arith, c.if-left-eq0.false)) leads_left less.3
    (subst (λ w. (v : Nodes) → Leads m n copy (at m w) v → c.in-Some.rest < length (listed v))
    c.right_of.ensures large) u h)
    c.walk-2.ensures.none in
    record { tree = next_tree; none = next_none; fewer = search rules }
