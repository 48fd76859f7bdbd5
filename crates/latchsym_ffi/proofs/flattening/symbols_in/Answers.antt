use Rattle.latchsym_ffi.proofs.Words.{◌≡◌, ◌+◌, ◌<◌, ◌≤◌, ◌^◌, ◌∙◌, None, Option, Some, ℕ, ⊎_elim}
use Rattle.latchsym_ffi.proofs.Words.{ap, arith, length, rules, subst, sym, MatchOption, SomeIff}
use Rattle.latchsym_ffi.proofs.Words.{unwrap_or, cases_lt, symbols_below, symbols_of}
use Rattle.latchsym_ffi.proofs.FlatteningLemmas.{more_symbols, symbols_most}
use Rattle.latchsym_ffi.proofs.flattening.symbols_in.Goals as goal

too_many : (o : Option ℕ) (n : ℕ) → SomeIff o (n < 2 ^ 64) n → o ≡ None → 2 ^ 64 ≤ n
too_many None n said is = ⊎_elim (λ lt. absurd (said lt)) (λ le. le) (cases_lt n (2 ^ 64))
too_many (Some x) n said is = absurd (cc)

sum_is : (o : Option ℕ) (n m : ℕ) → SomeIff o (n < 2 ^ 64) n → o ≡ Some m → m ≡ n
sum_is None n m said is = absurd (cc)
sum_is (Some x) n m said is = ap (λ (o : Option ℕ). unwrap_or o 0) (sym is) ∙ said.1

pub returns-in_err-count : goal.returns-in_err-count
returns-in_err-count c =
    let entries = c.args.catalog.now in
    let none : c.from_residual.result ≡ None = search rules in
    let over = too_many c.checked_add.result (c.loop-number.count + c.symbols_at.result)
    c.checked_add.ensures c.in_err-count.was in
    let most = symbols_most entries c.loop-number.number (omega
    (arith, c.loop-number-test.true, c.len-number-end.ensures, c.loop-number.auto.number-end)) in
    subst (λ o. MatchOption o (2 ^ 64 ≤ length (symbols_of entries))
    (λ n. n ≡ length (symbols_of entries))) (sym none)
    (omega (arith, over, most, c.loop-number.invariant, c.symbols_at.ensures))

pub loop-number-preserved : goal.loop-number-preserved
loop-number-preserved c =
    let next = more_symbols c.args.catalog.now c.loop-number.number in
    let sum = sum_is c.checked_add.result (c.loop-number.count + c.symbols_at.result)
    c.in_ok-count.count c.checked_add.ensures c.in_ok-count.was in
    omega (arith, sum, next, c.loop-number.invariant, c.symbols_at.ensures)

pub returns-in_ok-count : goal.returns-in_ok-count
returns-in_ok-count c =
    let entries = c.args.catalog.now in
    let next = more_symbols entries c.loop-number.number in
    let sum = sum_is c.checked_add.result (c.loop-number.count + c.symbols_at.result)
    c.in_ok-count.count c.checked_add.ensures c.in_ok-count.was in
    let last : c.loop-number.number + 1 ≡ length entries.modules + 1 = omega
    (arith, c.loop-number-test.true, c.len-number-end.ensures, c.loop-number.auto.number-end) in
    let is : c.in_ok-count.count ≡ length (symbols_below entries (c.loop-number.number + 1)) =
    omega (arith, sum, next, c.loop-number.invariant, c.symbols_at.ensures) in
    is ∙ ap (λ n. length (symbols_below entries n)) last

pub returns : goal.returns
returns c = absurd (omega (arith, c.loop-number-test.false, c.loop-number.auto.number-end))
