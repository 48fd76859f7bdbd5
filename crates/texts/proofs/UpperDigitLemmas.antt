-- Eight digits that are all `f`.
use Rattle.texts.proofs.Words.{◌≡◌, ◌∙◌, ℕ, true, List, [], ◌∷◌, length, refl, sym, ap, arith}
use Rattle.texts.proofs.Words.{is_digit, list_all, starts_with, digits_value, and_parts, eqb-true}
use Rattle.std.specs.Prelude.{codes, nat_eq}

-- a text that begins with another of its length is that one
pub starts_whole : (text other : List ℕ) → starts_with nat_eq text other ≡ true
    → length text ≡ length other → text ≡ other
starts_whole [] [] e same = refl
starts_whole (t ∷ text) (n ∷ other) e same =
    let parts = and_parts (nat_eq n t) (starts_with nat_eq text other) e in
    let first : n ≡ t = eqb-true n t parts.0 in
    ap (λ x. x ∷ text) (sym first)
    ∙ ap (λ (l : List ℕ). n ∷ l) (starts_whole text other parts.1 (omega (arith, same)))
starts_whole _ _ e same = absurd (omega (arith, same))

pub value_of_f : (text : List ℕ) → starts_with nat_eq text (codes "ffffffff") ≡ true
    → length text ≡ 8 → 4294967295 ≡ digits_value 16 text
value_of_f text e same = sym (ap (digits_value 16) (starts_whole text (codes "ffffffff") e same))

pub digits_of_f : (text : List ℕ) → starts_with nat_eq text (codes "ffffffff") ≡ true
    → length text ≡ 8 → true ≡ list_all (λ c. is_digit c 16) text
digits_of_f text e same =
    sym (ap (list_all (λ c. is_digit c 16)) (starts_whole text (codes "ffffffff") e same))
