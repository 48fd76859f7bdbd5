use Rattle.modules.proofs.Words.{◌≡◌, ◌≢◌, ℕ, ◌+◌, true, false, cond, nat_eq, [], List, length}
use Rattle.modules.proofs.Words.{get_or, take, sym, ap, ◌∙◌, arith, Vec, list_any}
use Rattle.modules.proofs.Lemmas.{eqb-false, eqb-true, nil_from_length}
use Rattle.modules.proofs.Definitions.{is_kept_mark, kept_numbers, with_number, ranges_of, Mark}
use Rattle.modules.proofs.TakenLemmas.{kept_number, left_rising, left_taken, kept_numbers_more}
use Rattle.modules.proofs.TakenLemmas.{own_ranges, taken_before, taken_now}
use Rattle.modules.proofs.from_symbols.modules_in_order.Goals as goal
use Rattle.modules.proofs.from_symbols.modules_in_order.Goals.{then-not-is_empty+then-is_kept+in_ok-in_rising+in_ok-push}
use Rattle.modules.proofs.from_symbols.modules_in_order.Goals.{else-not-is_empty}
use Rattle.modules.proofs.from_symbols.modules_in_order.Goals.{else-not-is_empty-via-then-not-is_empty+else-is_kept}
use Rattle.modules.proofs.from_symbols.modules_in_order.Goals.{else-not-is_empty-via-else-not-is_empty}

pub name_of-name-requires-clause-some : goal.name_of-name-requires-clause-some
name_of-name-requires-clause-some c =
    let m : Mark =
    get_or c.args.marks.now c.loop-mark.mark-index (record { addr = 0; owner = 0 }) in
    (kept_number (length c.args.numbers.now) c.args.items.now m c.requires.numbered
    (sym c.is_kept.ensures ∙ c.if-is_kept.true)).0

pub in_rising-requires : goal.in_rising-requires
in_rising-requires c =
    let items = c.args.items.now in
    let m : Mark =
    get_or c.args.marks.now c.loop-mark.mark-index (record { addr = 0; owner = 0 }) in
    let within = c.requires.owned c.loop-mark.mark-index (record { addr = 0; owner = 0 })
    c.loop-mark-test.true in
    let taken : List ℕ = kept_numbers items (take c.loop-mark.mark-index c.args.marks.now) in
    left_rising m.owner items taken c.replace-regions.result.items c.requires.laid (ap
    (λ (v : Vec (ℕ × ℕ)). v.items) (c.replace-regions.ensures.value ∙ c.index_mut.ensures.value)
    ∙ c.loop-mark.invariant.left.1 m.owner c.index_mut.result.now (omega (arith, within)))

pub loop-mark-preserved : goal.loop-mark-preserved
loop-mark-preserved c =
    let numbers = c.args.numbers.now in
    let items = c.args.items.now in
    let marks = c.args.marks.now in
    let k = c.loop-mark.mark-index in
    let m : Mark = get_or marks k (record { addr = 0; owner = 0 }) in
    let within = c.requires.owned k (record { addr = 0; owner = 0 }) c.loop-mark-test.true in
    let i = c.loop-mark.invariant in
    let taken : List ℕ = kept_numbers items (take k marks) in
    let next : kept_numbers items (take (k + 1) marks)
    ≡ cond (is_kept_mark items m) (with_number taken m.owner) taken =
    kept_numbers_more items marks k (record { addr = 0; owner = 0 }) c.loop-mark-test.true in
    let own = c.index.result.now in
    let left : own.items ≡ cond (list_any (nat_eq m.owner) taken) [] (ranges_of m.owner items) =
    ap (λ (v : Vec (ℕ × ℕ)). v.items) c.index.ensures
    ∙ i.left.1 m.owner own (omega (arith, within)) in
    elim c.if-not-is_empty.branch [
      | then-not-is_empty+then-is_kept+in_ok-in_rising+in_ok-push w ↦
          let kept : is_kept_mark items m ≡ true = sym w.is_kept.ensures ∙ w.if-is_kept.true in
          let numbered : kept_numbers items (take (k + 1) marks) ≡ with_number taken m.owner =
          next ∙ ap (λ b. cond b (with_number taken m.owner) taken) kept in
          let some : own.items ≢ [] = λ none. eqb-false own.len 0
          (sym c.is_empty.ensures ∙ w.if-not-is_empty.true) (own.ok.0 ∙ ap length none) in
          rw (w.lists-is, w.modules-is, numbered) (record {
            modules = grind (
              arith,
              own_ranges numbers items taken m own.items left some,
              taken_now numbers items taken m own.items left some,
            );
            left = left_taken (length numbers + 1) m.owner items taken c.loop-mark.lists.items
                w.replace-regions.new.dest (omega (arith, within)) (grind arith) i.left;
          })
      | else-not-is_empty w ↦
          elim w.else-not-is_empty.branch [
            | else-not-is_empty-via-then-not-is_empty+else-is_kept v ↦
                let stray : is_kept_mark items m ≡ false =
                sym v.is_kept.ensures ∙ v.if-is_kept.false in
                let same : kept_numbers items (take (k + 1) marks) ≡ taken =
                next ∙ ap (λ b. cond b (with_number taken m.owner) taken) stray in
                rw (w.lists-is, w.modules-is, same) (record { modules = i.modules; left = i.left })
            | else-not-is_empty-via-else-not-is_empty v ↦
                let none : own.items ≡ [] = nil_from_length own.items (sym own.ok.0
                ∙ eqb-true own.len 0 (sym c.is_empty.ensures ∙ v.if-not-is_empty.false)) in
                let same =
                taken_before numbers items taken m own.items left c.requires.laid.valid none in
                rw (w.lists-is, w.modules-is, next, same)
                (record { modules = i.modules; left = i.left })
          ]
    ]
