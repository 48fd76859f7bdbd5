use Rattle.modules.proofs.Words.{◌≡◌, nat_le, rules, sym, subst, IsAllAdjacentAnswer, SymbolEntry}
use Rattle.modules.proofs.Lemmas.{IsNonDecreasingBy-from_all_adjacent, always_returns_same}
use Rattle.modules.proofs.Lemmas.{leb-true}
use Rattle.modules.proofs.symbols.is_rising.Goals as goal

pub returns : goal.returns
returns c = λ yes.
    let in_order = λ (x : SymbolEntry) (y : SymbolEntry). nat_le x.addr y.addr in
    let told = c.is_sorted_by.ensures.cases in_order (always_returns_same _
    (λ a r. r ≡ nat_le a.0.now.addr a.1.0.now.addr) _ (λ a r q k. search rules)) in
    let all = subst (λ b. IsAllAdjacentAnswer (λ (x : SymbolEntry) (y : SymbolEntry) b.
    b ≡ nat_le x.addr y.addr) c.args.symbols.now b) yes told in
    IsNonDecreasingBy-from_all_adjacent (λ (s : SymbolEntry). s.addr) c.args.symbols.now
    (λ k d lt. leb-true _ _ (sym (all k d lt)))
