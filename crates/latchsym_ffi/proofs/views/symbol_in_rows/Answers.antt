use Rattle.latchsym_ffi.proofs.ViewLemmas.{none_without, with_letter}
use Rattle.latchsym_ffi.proofs.Words.{List, found_without_letter, without_letter, ◌≡◌, ◌∙◌, ℕ, ◌-◌}
use Rattle.latchsym_ffi.proofs.Words.{◌≤◌, Bor, None, Option, Some, ap, arith, min, rules, sym}
use Rattle.latchsym_ffi.proofs.Words.{unwrap_or, option_copied, option_map, address_above}
use Rattle.latchsym_ffi.proofs.Words.{symbol_below, SymbolEntry, symbol_found_at, symbols_from}
use Rattle.latchsym_ffi.proofs.Words.{found, found_is, before_within, none_within, reach_within}
use Rattle.latchsym_ffi.proofs.Words.{some_within, shown_row, symbol_of_row, ViewSymbol}
use Rattle.latchsym_ffi.proofs.views.symbol_in_rows.Goals as goal

abbrev shown : Option (Bor ViewSymbol) → Option SymbolEntry
shown o = option_map symbol_of_row (option_copied o)

-- the symbol of a row, with its letter
abbrev Lettered : List SymbolEntry → ℕ → ViewSymbol → Type 0
Lettered symbols addr row = (t : SymbolEntry) × (symbol_below symbols addr ≡ Some t)
    × (without_letter t ≡ symbol_of_row row)

pub returns-in_err-symbol-clause-found : goal.returns-in_err-symbol-clause-found
returns-in_err-symbol-clause-found c = λ symbols are.
    let start = c.args.region.now.a in
    let end = c.args.region.now.b in
    let addr = c.args.addr in
    let below : symbol_below symbols addr ≡ None = none_without _
    (sym (c.around-above.ensures.below symbols are) ∙ ap shown c.in_err-symbol.was) in
    let none : c.from_residual.result ≡ None = search rules in
    ap (option_map shown_row) none ∙ sym (ap (λ o. option_map found_without_letter
    (option_map (symbol_found_at (symbols_from symbols start end) end addr) o))
    (none_within symbols start end addr c.requires.from c.requires.below below))

pub returns-then-symbol-region-clause-found : goal.returns-then-symbol-region-clause-found
returns-then-symbol-region-clause-found c = λ symbols are.
    let start = c.args.region.now.a in
    let end = c.args.region.now.b in
    let addr = c.args.addr in
    let (s, below, bare) : Lettered symbols addr c.in_ok-symbol.symbol.now = with_letter _ _
    (sym (c.around-above.ensures.below symbols are) ∙ ap shown c.in_ok-symbol.was) in
    let own : s.addr ≡ c.in_ok-symbol.symbol.now.addr = ap (λ (e : SymbolEntry). e.addr) bare in
    sym (ap (λ o. option_map found_without_letter
    (option_map (symbol_found_at (symbols_from symbols start end) end addr) o))
    (before_within symbols start end addr s c.requires.from c.requires.below below
    (omega (arith, own, c.if-symbol-region.true))))

pub returns-clause-found : goal.returns-clause-found
returns-clause-found c = λ symbols are.
    let start = c.args.region.now.a in
    let end = c.args.region.now.b in
    let addr = c.args.addr in
    let own : ℕ = c.in_ok-symbol.symbol.now.addr in
    let row = symbol_of_row c.in_ok-symbol.symbol.now in
    let from = symbols_from symbols start end in
    let (s, below, bare) : Lettered symbols addr c.in_ok-symbol.symbol.now = with_letter _ _
    (sym (c.around-above.ensures.below symbols are) ∙ ap shown c.in_ok-symbol.was) in
    let same : own ≡ s.addr = sym (ap (λ (e : SymbolEntry). e.addr) bare) in
    let on : start ≤ s.addr = omega (arith, same, c.if-symbol-region.false) in
    let reach : c.min-end.result ≡ unwrap_or (address_above from addr) end =
    c.min-end.ensures ∙ ap (λ n. min n end) (c.unwrap_or.ensures
    ∙ ap (λ (o : Option ℕ). unwrap_or o end) (c.around-above.ensures.above symbols are))
    ∙ sym (reach_within symbols start end addr c.requires.from) in
    let is_offset : c.saturating_sub.result ≡ addr - own = search rules in
    let is_size : c.saturating_sub-2.result ≡ c.min-end.result - own = search rules in
    ap (λ (n : ℕ). Some (found row n c.saturating_sub-2.result)) is_offset
    ∙ ap (λ (n : ℕ). Some (found row (addr - own) n)) is_size
    ∙ ap (λ (e : SymbolEntry). Some (found e (addr - own) (c.min-end.result - own))) (sym bare)
    ∙ ap (option_map found_without_letter) (found_is from end addr s own c.min-end.result
    (some_within symbols start end addr s c.requires.from c.requires.below below on) same reach)
