-- Facts about the outcomes of a comparison alone.
use Rattle.facts.proofs.Words.{◌&&◌, ◌<◌, ◌∙◌, ◌≡◌, ◌≢◌, ◌≤◌, List, ap, arith, false, inl, inr, not}
use Rattle.facts.proofs.Words.{refl, true, ℕ, slice_cmp, is_eq, is_le, is_lt, nat_cmp}
use Rattle.facts.proofs.Words.{ordering_index, ordering_reverse, bytes_eq, Ordering, Equal, Greater}
use Rattle.facts.proofs.Words.{Less, nat_tests, nat_list_cmp_total}
use Rattle.std.specs.Prelude.{◌⊎◌}
use Rattle.std.proofs.lemmas.Map.Text.{is_eq-slice_cmp}

pub not_equal : (r : Ordering) → r ≢ Equal → is_eq r ≡ false
not_equal Less h = refl
not_equal Equal h = absurd (h refl)
not_equal Greater h = refl

pub is_equal : (r : Ordering) → r ≡ Equal → is_eq r ≡ true
is_equal r e = ap is_eq e

pub less_not_equal : (r : Ordering) → r ≡ Less → is_eq r ≡ false
less_not_equal r e = ap is_eq e

pub greater_not_equal : (r : Ordering) → r ≡ Greater → is_eq r ≡ false
greater_not_equal r e = ap is_eq e

pub cases_ordering : (r : Ordering) → (r ≡ Equal) ⊎ (r ≢ Equal)
cases_ordering Less = inr (λ e. absurd (cc))
cases_ordering Equal = inl refl
cases_ordering Greater = inr (λ e. absurd (cc))

pub Equal-from_is_eq : (r : Ordering) → is_eq r ≡ true → r ≡ Equal
Equal-from_is_eq Less h = absurd (cc)
Equal-from_is_eq Equal h = refl
Equal-from_is_eq Greater h = absurd (cc)

pub Less-from_is_lt : (o : Ordering) → is_eq o ≡ false → is_lt o ≡ true → o ≡ Less
Less-from_is_lt Less other test = refl
Less-from_is_lt Equal other test = absurd (cc)
Less-from_is_lt Greater other test = absurd (cc)

pub Greater-from_tests : (o : Ordering) → is_eq o ≡ false → is_lt o ≡ false → o ≡ Greater
Greater-from_tests Less other test = absurd (cc)
Greater-from_tests Equal other test = absurd (cc)
Greater-from_tests Greater other test = refl

pub is_lt-not_eq : (r : Ordering) → is_lt r ≡ true → is_eq r ≡ false
is_lt-not_eq Less h = refl
is_lt-not_eq Equal h = absurd (cc)
is_lt-not_eq Greater h = absurd (cc)

pub not_le-not_eq : (r : Ordering) → is_le r ≡ false → is_eq r ≡ false
not_le-not_eq Less h = absurd (cc)
not_le-not_eq Equal h = absurd (cc)
not_le-not_eq Greater h = refl

pub is_eq-between : (r : Ordering) → is_lt r ≡ false → is_le r ≡ true → is_eq r ≡ true
is_eq-between Less h k = absurd (cc)
is_eq-between Equal h k = refl
is_eq-between Greater h k = absurd (cc)

pub is_lt-is_le : (r : Ordering) → is_lt r ≡ true → is_le r ≡ false → ⊥
is_lt-is_le Less h k = absurd (cc)
is_lt-is_le Equal h k = absurd (cc)
is_lt-is_le Greater h k = absurd (cc)

pub is_lt-index : (r s : Ordering) → ordering_index r ≤ ordering_index s → is_lt s ≡ true
    → is_lt r ≡ true
is_lt-index Less s h k = refl
is_lt-index Equal Less h k = absurd (omega arith)
is_lt-index Equal Equal h k = absurd (cc)
is_lt-index Equal Greater h k = absurd (cc)
is_lt-index Greater Less h k = absurd (omega arith)
is_lt-index Greater Equal h k = absurd (cc)
is_lt-index Greater Greater h k = absurd (cc)

pub is_le-index : (r s : Ordering) → ordering_index r ≤ ordering_index s → is_le s ≡ true
    → is_le r ≡ true
is_le-index Less s h k = refl
is_le-index Equal s h k = refl
is_le-index Greater Less h k = absurd (omega arith)
is_le-index Greater Equal h k = absurd (omega arith)
is_le-index Greater Greater h k = absurd (cc)

pub is_eq-neither : (r : Ordering) → (not (is_lt (ordering_reverse r)) && not (is_lt r)) ≡ is_eq r
is_eq-neither Less = refl
is_eq-neither Equal = refl
is_eq-neither Greater = refl

-- ---- of numbers, and of lists of numbers

pub lt-from_Less : (q b : ℕ) → nat_cmp q b ≡ Less → q < b
lt-from_Less q b h = grind (arith, nat_tests)

pub Less-from_lt : (q b : ℕ) → q < b → nat_cmp q b ≡ Less
Less-from_lt q b h = grind (arith, nat_tests)

pub bytes_eq-neither : (xs ys : List ℕ)
    → (not (is_lt (slice_cmp nat_cmp xs ys)) && not (is_lt (slice_cmp nat_cmp ys xs)))
    ≡ bytes_eq ys xs
bytes_eq-neither xs ys =
    ap (λ r. not (is_lt r) && not (is_lt (slice_cmp nat_cmp ys xs)))
    (nat_list_cmp_total.antisymm xs ys) ∙ is_eq-neither (slice_cmp nat_cmp ys xs)
    ∙ is_eq-slice_cmp ys xs
