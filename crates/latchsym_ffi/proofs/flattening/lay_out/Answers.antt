use Rattle.latchsym_ffi.proofs.Words.{◌≡◌, rules, ap, ◌∙◌, is_lt, nat_cmp, ordering_then}
use Rattle.latchsym_ffi.proofs.Words.{answers_always, is_lt-then, comes_before, entry_of_row}
use Rattle.latchsym_ffi.proofs.FlatteningLemmas.{before_weak, indexed_rows}
use Rattle.latchsym_ffi.proofs.flattening.lay_out.Goals as goal

pub returns : goal.returns
returns c =
    let rises =
    c.sort_unstable_by.ensures.sorted (λ x y. comes_before (entry_of_row x) (entry_of_row y))
    before_weak (answers_always _ _ _ (λ f a r f' called. let is : r ≡ ordering_then (nat_cmp
    a.0.now.addr a.1.0.now.addr) (nat_cmp a.1.0.now.place a.0.now.place) = search rules in
    ap is_lt is ∙ is_lt-then a.0.now.addr a.0.now.place a.1.0.now.addr a.1.0.now.place)) in
    indexed_rows c.args.symbols.now _ _ c.list.ensures.listed c.sort_unstable_by.ensures.permutation
    rises _ c.list_addresses.ensures
