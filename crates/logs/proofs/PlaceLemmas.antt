-- Bytes that are gone through from the last one to the first, and the things that begin a line.
use Rattle.logs.proofs.Definitions.{take_rest, ne_eqb, ◌≡◌, ◌∙◌, ℕ, zero, suc, ◌+◌, ◌<◌, ◌≤◌, Bool}
use Rattle.logs.proofs.Definitions.{false, cond, not, ◌&&◌, ◌==◌, List, [], ◌∷◌, length}
use Rattle.logs.proofs.Definitions.{length-drop, take, get_or, get_or-drop, refl, sym, ap, arith}
use Rattle.logs.proofs.Definitions.{false_from_ne_true, nat_eq, ends_prefix, is_lead, lead_item}
use Rattle.logs.proofs.Definitions.{prefix_up_to}
use Rattle.std.proofs.Common.{◌-◌, drop}
use Rattle.std.proofs.lemmas.Slice.Eq.{bytes_eq-Decides}
use Rattle.std.specs.List.{ends_with}

one_less : (n : ℕ) → suc n - 1 ≡ n
one_less n = omega arith

not_zero : (n : ℕ) → (suc n == 0) ≡ false
not_zero n = ne_eqb (suc n) 0 (λ is. omega (arith, is))

-- where the prefix ends
pub prefix_at : (at_start : Bool) (bytes : List ℕ) (p : ℕ) → 0 < p
    → prefix_up_to at_start bytes p ≡ cond (ends_prefix at_start (take p bytes) (drop p bytes)) p
    (prefix_up_to at_start bytes (p - 1))
prefix_at at_start bytes zero some = absurd (omega arith)
prefix_at at_start bytes (suc p) some = rw (one_less p)

-- what is skipped
lead_skipped : (n : ℕ) (bytes : List ℕ) → n ≤ length bytes
    → is_lead n bytes ≡ is_lead 0 (drop n bytes)
lead_skipped zero bytes within = refl
lead_skipped (suc n) [] within = absurd (omega arith)
lead_skipped (suc n) (b ∷ bytes) within = lead_skipped n bytes (omega arith)

lead_past : (n : ℕ) (bytes : List ℕ) → length bytes < n → is_lead n bytes ≡ false
lead_past zero bytes past = absurd (omega arith)
lead_past (suc n) [] past = not_zero n
lead_past (suc n) (b ∷ bytes) past = lead_past n bytes (omega arith)

-- one thing more
lead_rest : (b : ℕ) (bytes : List ℕ) (n : ℕ) → suc n ≡ lead_item (b ∷ bytes)
    → is_lead 0 (b ∷ bytes) ≡ is_lead n bytes
lead_rest b bytes n is =
    rw (← is, not_zero n, one_less n)

pub lead_step : (bytes : List ℕ) (n : ℕ) → n ≡ lead_item bytes → 0 < n → n ≤ length bytes
    → is_lead 0 bytes ≡ is_lead 0 (drop n bytes)
lead_step [] n is some within = absurd (omega arith)
lead_step (b ∷ bytes) zero is some within = absurd (omega arith)
lead_step (b ∷ bytes) (suc n) is some within =
    lead_rest b bytes n is ∙ lead_skipped n bytes (omega arith)

pub lead_none : (bytes : List ℕ) → 0 < length bytes → lead_item bytes ≡ 0 → is_lead 0 bytes ≡ false
lead_none [] some is = absurd (omega arith)
lead_none (b ∷ bytes) some is = ap (λ m. not (m == 0) && is_lead (m - 1) bytes) is

pub lead_over : (bytes : List ℕ) (n : ℕ) → n ≡ lead_item bytes → length bytes < n → 0 < length bytes
    → is_lead 0 bytes ≡ false
lead_over [] n is past some = absurd (omega arith)
lead_over (b ∷ bytes) zero is past some = absurd (omega arith)
lead_over (b ∷ bytes) (suc n) is past some =
    lead_rest b bytes n is ∙ lead_past n bytes (omega arith)

-- one thing more, or none, or one that is too long
pub ruleset leads = (lead_step, lead_none, lead_over, take_rest)

-- bytes whose last one is another than a text's do not end in it
pub other_end : (bytes text : List ℕ) → 1 ≤ length bytes → 1 ≤ length text
    → (get_or bytes (length bytes - 1) 0 ≡ get_or text (length text - 1) 0 → ⊥)
    → false ≡ ends_with nat_eq bytes text
other_end bytes text some one other =
    sym (false_from_ne_true (ends_with nat_eq bytes text)
    (λ is. other (same ((bytes_eq-Decides text (drop n bytes)).0 is))))
  where
    n : ℕ
    n = length bytes - length text

    same : text ≡ drop n bytes → get_or bytes (length bytes - 1) 0 ≡ get_or text (length text - 1) 0
    same is =
        let last : n + (length (drop n bytes) - 1) ≡ length bytes - 1 =
        omega (arith, length-drop n bytes, some, one) in
        sym (ap (λ l. get_or l (length l - 1) 0) is
        ∙ get_or-drop n bytes (length (drop n bytes) - 1) 0 ∙ ap (λ i. get_or bytes i 0) last)
