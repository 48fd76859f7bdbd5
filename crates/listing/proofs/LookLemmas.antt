-- What the counts of a listing say of how it looks.
use Rattle.listing.proofs.Words.{◌≡◌, ℕ, zero, suc, ◌+◌, Bool, false, cond, nat_lt, List, [], ◌∷◌}
use Rattle.listing.proofs.Words.{length, Ok, Err, Result, refl, sym, ap, ◌∙◌, arith, count_by}
use Rattle.listing.proofs.Words.{cons_option, list_any, result_ok, or-false, lt-ltb, sum_by-cons}
use Rattle.listing.proofs.Words.{ListedModule, ListedSymbol, are_modules_hidden, are_symbols_hidden}
use Rattle.listing.proofs.Words.{is_hidden_module, is_hidden_symbol, is_shown_module}
use Rattle.listing.proofs.Words.{is_shown_symbol, module_of_line, module_place, modules_in}
use Rattle.listing.proofs.Words.{is_skipped_for, skipped_for, symbol_of, symbol_place, symbols_in}
use Rattle.listing.proofs.Words.{SkippedModule}
use Rattle.std.proofs.Common.{true, not, ◌&&◌, ◌||◌}
use Rattle.listing.specs.declared.module_listing.SkippedModule.TheVariants as module_cause
use Rattle.listing.specs.declared.symbol_listing.SkippedSymbol.{SkippedSymbol}
use Rattle.listing.specs.declared.symbol_listing.SkippedSymbol.TheVariants as symbol_cause

some_first : (b rest : Bool) (n : ℕ) → rest ≡ nat_lt 0 n → (b || rest) ≡ nat_lt 0 (cond b 1 0 + n)
some_first true rest n e = sym (lt-ltb 0 (1 + n) (omega arith))
some_first false rest n e =
    let same : n ≡ 0 + n = omega arith in
    e ∙ ap (nat_lt 0) same

-- some pass where their number is above 0
any_counted : {X : Type 0} (p : X → Bool) (xs : List X) → list_any p xs ≡ nat_lt 0 (count_by p xs)
any_counted p [] = refl
any_counted p (x ∷ xs) =
    some_first (p x) (list_any p xs) (count_by p xs) (any_counted p xs)
    ∙ ap (nat_lt 0) (sym (sum_by-cons (λ y. cond (p y) 1 0) x xs))

some_of_three : (a b c : ℕ) → nat_lt 0 (a + b + c) ≡ (nat_lt 0 a || (nat_lt 0 b || nat_lt 0 c))
some_of_three (suc a) b c =
    let some : nat_lt 0 (suc a) ≡ true = lt-ltb 0 (suc a) (omega arith) in
    lt-ltb 0 (suc a + b + c) (omega arith) ∙ sym (ap (λ t. t || (nat_lt 0 b || nat_lt 0 c)) some)
some_of_three zero (suc b) c =
    let some : nat_lt 0 (suc b) ≡ true = lt-ltb 0 (suc b) (omega arith) in
    lt-ltb 0 (zero + suc b + c) (omega arith) ∙ sym (ap (λ t. t || nat_lt 0 c) some)
some_of_three zero zero c =
    let same : zero + zero + c ≡ c = omega arith in
    ap (nat_lt 0) same

hidden_module : (r : Result ListedModule SkippedModule)
    → is_hidden_module r ≡ is_skipped_for module_place module_cause.Hidden r
hidden_module (Err module_cause.Malformed) = refl
hidden_module _ = refl

abbrev pub skipped_modules : SkippedModule → List (List ℕ) → ℕ
skipped_modules cause lines = skipped_for module_place module_of_line lines cause

shown_first : (r : Result ListedModule SkippedModule) (ms : List ListedModule)
    → cond (is_shown_module r) 1 0 + length ms
    ≡ length (cons_option (result_ok r) ms)
    + cond (is_skipped_for module_place module_cause.Empty r) 1 0
    + cond (is_skipped_for module_place module_cause.Wraps r) 1 0
shown_first (Err module_cause.Malformed) ms = omega arith
shown_first _ ms = omega arith

-- the lines that are shown are those of modules, the empty ones and those that wrap
shown_counted : (lines : List (List ℕ))
    → count_by (λ l. is_shown_module (module_of_line l)) lines
    ≡ length (modules_in lines) + skipped_modules module_cause.Empty lines
    + skipped_modules module_cause.Wraps lines
shown_counted [] = refl
shown_counted (line ∷ lines) =
    let shown = sum_by-cons (λ l. cond (is_shown_module (module_of_line l)) 1 0) line lines in
    let empty = sum_by-cons (λ l.
    cond (is_skipped_for module_place module_cause.Empty (module_of_line l)) 1 0) line lines in
    let wraps = sum_by-cons (λ l.
    cond (is_skipped_for module_place module_cause.Wraps (module_of_line l)) 1 0) line lines in
    omega (
      arith,
      shown,
      empty,
      wraps,
      shown_first (module_of_line line) (modules_in lines),
      shown_counted lines,
    )

pub modules_hidden : (lines : List (List ℕ)) (hidden listed empty wraps : ℕ)
    → hidden ≡ skipped_modules module_cause.Hidden lines
    → listed ≡ length (modules_in lines) → empty ≡ skipped_modules module_cause.Empty lines
    → wraps ≡ skipped_modules module_cause.Wraps lines
    → (nat_lt 0 hidden && not (nat_lt 0 listed || (nat_lt 0 empty || nat_lt 0 wraps)))
    ≡ are_modules_hidden lines
modules_hidden lines h l e w is_hidden is_listed is_empty is_wrapping =
    let hidden : list_any (λ l. is_hidden_module (module_of_line l)) lines
    ≡ nat_lt 0 (skipped_modules module_cause.Hidden lines) =
    (λ i. list_any (λ l. hidden_module (module_of_line l) i) lines)
    ∙ any_counted (λ l. is_skipped_for module_place module_cause.Hidden (module_of_line l)) lines in
    let shown : list_any (λ l. is_shown_module (module_of_line l)) lines
    ≡ (nat_lt 0 (length (modules_in lines)) || (nat_lt 0 (skipped_modules module_cause.Empty lines)
    || nat_lt 0 (skipped_modules module_cause.Wraps lines))) =
    any_counted (λ l. is_shown_module (module_of_line l)) lines
    ∙ ap (nat_lt 0) (shown_counted lines)
    ∙ some_of_three (length (modules_in lines)) (skipped_modules module_cause.Empty lines)
    (skipped_modules module_cause.Wraps lines) in
    (λ i. nat_lt 0 (is_hidden i)
    && not (nat_lt 0 (is_listed i) || (nat_lt 0 (is_empty i) || nat_lt 0 (is_wrapping i))))
    ∙ (λ i. sym hidden i && not (sym shown i))

hidden_symbol : (r : Result ListedSymbol SkippedSymbol)
    → is_hidden_symbol r ≡ is_skipped_for symbol_place symbol_cause.Hidden r
hidden_symbol (Err symbol_cause.Malformed) = refl
hidden_symbol _ = refl

first_taken : (r : Result ListedSymbol SkippedSymbol) (rest : Bool) (symbols : List ListedSymbol)
    → rest ≡ nat_lt 0 (length symbols)
    → (is_shown_symbol r || rest) ≡ nat_lt 0 (length (cons_option (result_ok r) symbols))
first_taken (Ok s) rest symbols e = sym (lt-ltb 0 (suc (length symbols)) (omega arith))
first_taken (Err cause) rest symbols e = e

some_taken : (lines : List (List ℕ))
    → list_any (λ l. is_shown_symbol (symbol_of l)) lines ≡ nat_lt 0 (length (symbols_in lines))
some_taken [] = refl
some_taken (line ∷ lines) = first_taken (symbol_of line)
    (list_any (λ l. is_shown_symbol (symbol_of l)) lines) (symbols_in lines) (some_taken lines)

pub symbols_hidden : (lines : List (List ℕ)) (hidden listed : ℕ)
    → hidden ≡ skipped_for symbol_place symbol_of lines symbol_cause.Hidden
    → listed ≡ length (symbols_in lines)
    → (nat_lt 0 hidden && not (nat_lt 0 listed || false)) ≡ are_symbols_hidden lines
symbols_hidden lines h l is_hidden is_listed =
    let hidden : list_any (λ l. is_hidden_symbol (symbol_of l)) lines
    ≡ nat_lt 0 (skipped_for symbol_place symbol_of lines symbol_cause.Hidden) =
    (λ i. list_any (λ l. hidden_symbol (symbol_of l) i) lines)
    ∙ any_counted (λ l. is_skipped_for symbol_place symbol_cause.Hidden (symbol_of l)) lines in
    (λ i. nat_lt 0 (is_hidden i) && not (or-false (nat_lt 0 l) i))
    ∙ (λ i. sym hidden i && not ((ap (nat_lt 0) is_listed ∙ sym (some_taken lines)) i))
