-- Where a note on a listing does not apply.
use Rattle.listing.proofs.Words.{◌≡◌, ◌<◌, ℕ, zero, suc, ◌+◌, Bool, false, true≢false, cond, nat_lt}
use Rattle.listing.proofs.Words.{List, [], ◌∷◌, length, take, Some, None, refl, sym, ap, ◌∙◌}
use Rattle.listing.proofs.Words.{⊎_elim, filter, arith, find, is_none, is_some, nat_eq, slice_get}
use Rattle.listing.proofs.Words.{unwrap_or, list_any, option_and_then, option_copied, option_map}
use Rattle.listing.proofs.Words.{bytes_eq, and-false, or_cases, or_left, or_parts, or_right}
use Rattle.listing.proofs.Words.{is_kernel_symbol, CatalogEntries, ModuleEntry, bounds_for}
use Rattle.listing.proofs.Words.{built_in_region, first_address, usual_bounds_of, BoundNames}
use Rattle.listing.proofs.Words.{ListedSymbol, is_mapping, symbols_with, HasBounds, has_symbols}
use Rattle.listing.proofs.Words.{lacks_symbols}
use Rattle.std.proofs.Common.{true, not, ◌&&◌, ◌||◌, Option}
use Rattle.std.specs.Borrow.{Bor}

-- ---- the bounds of the kernel

pub first_named : (name : List ℕ) (symbols : List ListedSymbol)
    → is_some (first_address name symbols) ≡ list_any (is_kernel_symbol name) symbols
first_named name [] = refl
first_named name (s ∷ symbols) =
    elim (is_none s.owner && bytes_eq s.name name) as (λ b.
    is_some (option_map (λ (l : ListedSymbol). l.addr) (cond b (Some s)
    (find (λ (l : ListedSymbol). is_none l.owner && bytes_eq l.name name) symbols)))
    ≡ (b || list_any (is_kernel_symbol name) symbols))
    [ true ↦ refl | false ↦ first_named name symbols ]

both_named : (start end : Option ℕ) → is_some {T = ℕ × ℕ}
    (option_and_then (λ s. option_and_then (λ e. cond (nat_lt s e) (Some (s, e)) None) end) start)
    ≡ true
    → (is_some start ≡ true) × (is_some end ≡ true)
both_named (Some s) (Some e) some = (refl, refl)
both_named _ _ some = absurd (cc)

-- what is listed without mapping symbols is listed
any_passing : (p q : ListedSymbol → Bool) (symbols : List ListedSymbol)
    → list_any p (filter q symbols) ≡ true → list_any p symbols ≡ true
any_passing p q [] h = h
any_passing p q (s ∷ symbols) h =
    elim (q s) as (λ b. list_any p (cond b (s ∷ filter q symbols) (filter q symbols)) ≡ true
    → (p s || list_any p symbols) ≡ true) [
      | true ↦ λ e. ⊎_elim (λ here. or_left (p s) (list_any p symbols) here)
          (λ rest. or_right (p s) (list_any p symbols) (any_passing p q symbols rest))
          (or_cases (p s) (list_any p (filter q symbols)) e)
      | false ↦ λ e. or_right (p s) (list_any p symbols) (any_passing p q symbols e)
    ] h

any_with : (p : ListedSymbol → Bool) (with_mapping : Bool) (symbols : List ListedSymbol)
    → list_any p (symbols_with with_mapping symbols) ≡ true → list_any p symbols ≡ true
any_with p true symbols h = h
any_with p false symbols h = any_passing p (λ s. not (is_mapping s.name)) symbols h

-- a kernel that has a region has both bounds
pub kernel_named : (with_mapping : Bool) (names : BoundNames) (symbols : List ListedSymbol)
    → is_some (built_in_region names (symbols_with with_mapping symbols)) ≡ true
    → HasBounds names symbols
kernel_named with_mapping names symbols some =
    let those = symbols_with with_mapping symbols in
    let both =
    both_named (first_address names.start those) (first_address names.end those) some in (
      any_with (is_kernel_symbol names.start) with_mapping symbols
          (sym (first_named names.start those) ∙ both.0),
      any_with (is_kernel_symbol names.end) with_mapping symbols
          (sym (first_named names.end those) ∙ both.1),
    )

-- what is missing is missing as a copy
pub copied_none : {T : Type 0} (o : Option (Bor T)) (missing : Bool) → is_some o ≡ not missing
    → missing ≡ is_none (option_copied o)
copied_none None false is = absurd (cc)
copied_none (Some t) true is = absurd (cc)
copied_none _ _ is = refl

-- what is there is there as a copy
pub copied_some : {T : Type 0} (o : Option (Bor T)) → is_some o ≡ is_some (option_copied o)
copied_some None = refl
copied_some (Some t) = refl

-- what is given, or else another
pub given_or : {T : Type 0} (o : Option (Bor T)) (other t : Bor T) → t ≡ unwrap_or o other
    → t.now ≡ unwrap_or (option_copied o) other.now
given_or None other t is = ap (λ x. x.now) is
given_or (Some n) other t is = ap (λ x. x.now) is

-- the names that are given, or else those of the listing
pub bounds_are : (o : Option (Bor BoundNames)) (usual names : Bor BoundNames)
    (symbols : List ListedSymbol) → names ≡ unwrap_or o usual → usual.now ≡ usual_bounds_of symbols
    → names.now ≡ bounds_for (option_copied o) symbols
bounds_are None usual names symbols is own = ap (λ n. n.now) is ∙ own
bounds_are (Some n) usual names symbols is own = ap (λ n. n.now) is

-- ---- the modules of a catalog

-- no module up to a place passes, nor does the one at the place
pub none_more : (passes : Option ModuleEntry → Bool) (modules : List ModuleEntry) (place : ℕ)
    → place < length modules
    → passes (slice_get modules place) ≡ false
    → list_any (λ m. passes (Some m)) (take place modules) ≡ false
    → list_any (λ m. passes (Some m)) (take (place + 1) modules) ≡ false
none_more passes [] place low here before = absurd (omega arith)
none_more passes (m ∷ modules) zero low here before = ap (λ b. b || false) here
none_more passes (m ∷ modules) (suc place) low here before =
    let parts =
    or_parts (passes (Some m)) (list_any (λ x. passes (Some x)) (take place modules)) before in
    let shift : suc place + 1 ≡ suc (place + 1) = omega arith in
    ap (λ n. list_any (λ x. passes (Some x)) (take n (m ∷ modules))) shift
    ∙ (λ i. parts.0 i || none_more passes modules place (omega arith) here parts.1 i)

-- one does that passes where no module would
pub some_at : (passes : Option ModuleEntry → Bool) (modules : List ModuleEntry) (place : ℕ)
    → passes None ≡ false → passes (slice_get modules place) ≡ true
    → list_any (λ m. passes (Some m)) modules ≡ true
some_at passes [] place none here = absurd (true≢false (sym here ∙ none))
some_at passes (m ∷ modules) zero none here =
    ap (λ b. b || list_any (λ x. passes (Some x)) modules) here
some_at passes (m ∷ modules) (suc place) none here = or_right (passes (Some m))
    (list_any (λ x. passes (Some x)) modules) (some_at passes modules place none here)

pub one_has_some : (c : CatalogEntries) (place : ℕ) → has_symbols (slice_get c.modules place) ≡ true
    → false ≡ lacks_symbols c
one_has_some c place here =
    sym (ap (λ b. not (nat_eq (length c.modules) 0) && not b) (some_at has_symbols c.modules place
    refl here) ∙ and-false (not (nat_eq (length c.modules) 0)))
