use Rattle.modules.proofs.Words.{List, subst, sym, rules, IsNonDecreasingBy}
use Rattle.modules.proofs.Lemmas.{always_returns_same, IsNonDecreasingBy-from_sort_by_key}
use Rattle.modules.proofs.Definitions.{AreRegions, Mark}
use Rattle.modules.proofs.MarkOrderLemmas.{regions_moved}
use Rattle.modules.proofs.marks.regions_of_marks.Goals as goal

pub regions_of_rising-requires : goal.regions_of_rising-requires
regions_of_rising-requires c =
    subst (λ (l : List Mark). IsNonDecreasingBy (λ s. s.addr) l) (sym c.as_slice.ensures.value)
    (IsNonDecreasingBy-from_sort_by_key (λ (s : Mark). s.addr) c.sort_by_key.new.self.items
    c.in_ok-sort_by_key.ensures.sorted (λ a r q k. search rules))

pub returns : goal.returns
returns c =
    let stable = c.sort_by_key.ensures.stable (λ (s : Mark). s.addr)
    (always_returns_same _ _ _ (λ a r q called. search rules)) in
    regions_moved c.args.marks.items c.sort_by_key.new.self.items c.in_ok-items.items.items
    c.sort_by_key.ensures.permutation stable
    (subst (λ (l : List Mark). AreRegions l c.in_ok-items.items.items) c.as_slice.ensures.value
    c.in_ok-items.ensures)
