-- A region beside regions that are spread.
use Rattle.modules.proofs.Words.{◌≡◌, ℕ, ◌<◌, ◌≤◌, ◌⊎◌, inl, inr, true, false, nat_le, get_or, Some}
use Rattle.modules.proofs.Words.{None, refl, sym, ap, ◌∙◌, ⊎_elim, arith, Contains, IsSome}
use Rattle.modules.proofs.Words.{list_all, nat_cmp, BTreeMap, IsOrdered, Updates, get, nat_tests}
use Rattle.modules.proofs.Words.{common_steps}
use Rattle.modules.proofs.Lemmas.{cases_lt, cases_order, nat_cmp_total, Contains-get_or}
use Rattle.modules.proofs.Lemmas.{All-contains, AllPass-from_list_all, list_all-from_AllPass}
use Rattle.modules.proofs.Lemmas.{exact_unsigned, All-found, btree_map_get_iff, inserted_cases}
use Rattle.modules.proofs.Lemmas.{list_all-insert_entry}
use Rattle.modules.proofs.Definitions.{is_apart, IsSpread}

pub apart_if : (r s : ℕ × ℕ) → (r.1 ≤ s.0) ⊎ (s.1 ≤ r.0) → is_apart r s ≡ true
apart_if r s h = grind (arith, nat_tests)

pub apart_cases : (r s : ℕ × ℕ) → is_apart r s ≡ true → (r.1 ≤ s.0) ⊎ (s.1 ≤ r.0)
apart_cases r s h = grind (arith, nat_tests, cases_lt s.0 r.1)

not_apart : (r s : ℕ × ℕ) → s.0 < r.1 → r.0 < s.1 → is_apart r s ≡ false
not_apart r s h k = grind (arith, nat_tests)

-- where the region with the greatest start below b ends at a or before it, all are apart from a ..
-- b
pub apart_from_last : (m : BTreeMap ℕ ℕ) → IsOrdered nat_cmp m → IsSpread m.entries → (a b s e : ℕ)
    → get nat_cmp m s ≡ Some e → ((q : ℕ) → q < b → IsSome (get nat_cmp m q) → q ≤ s) → e ≤ a
    → list_all (is_apart (a, b)) m.entries ≡ true
apart_from_last m ordered spread a b s e found last ends =
    list_all-from_AllPass (is_apart (a, b)) m.entries (λ k d lt.
    let r : ℕ × ℕ = get_or m.entries k d in
    let at : get nat_cmp m r.0 ≡ Some r.1 = All-found nat_cmp_total m ordered k d lt in
    let here : Contains m.entries r = Contains-get_or m.entries k d lt in
    let there : Contains m.entries (s, e) =
    (btree_map_get_iff nat_cmp_total exact_unsigned m ordered s e).0 found in
    ⊎_elim
    (λ below.
    ⊎_elim
    (λ same. apart_if (a, b) r (inr (let is : Some r.1 ≡ Some e =
    sym at ∙ ap (get nat_cmp m) same ∙ found in let ends_are : r.1 ≡ e = cc in omega arith)))
    (λ other. ⊎_elim
    (λ lower. apart_if (a, b) r
    (inr (let before : r.1 ≤ s = spread.spread r (s, e) here there lower in let valid : s < e =
    All-contains (λ (x : ℕ × ℕ). x.0 < x.1) m.entries (s, e) spread.valid there in
    omega arith)))
    (λ upper. let le : r.0 ≤ s =
    last r.0 below (let some : IsSome (get nat_cmp m r.0) = rw at refl in some) in
    absurd (omega arith))
    other)
    (cases_order r.0 s))
    (λ above. apart_if (a, b) r (inl above))
    (cases_lt r.0 b))

-- where no region begins below b, all are apart from a .. b
pub apart_from_none : (m : BTreeMap ℕ ℕ) → IsOrdered nat_cmp m → (a b : ℕ)
    → ((q : ℕ) → q < b → get nat_cmp m q ≡ None) → list_all (is_apart (a, b)) m.entries ≡ true
apart_from_none m ordered a b none =
    list_all-from_AllPass (is_apart (a, b)) m.entries (λ k d lt.
    let r : ℕ × ℕ = get_or m.entries k d in
    let at : get nat_cmp m r.0 ≡ Some r.1 = All-found nat_cmp_total m ordered k d lt in
    ⊎_elim
    (λ below. let nothing : get nat_cmp m r.0 ≡ None = none r.0 below in absurd (cc))
    (λ above. apart_if (a, b) r (inl above))
    (cases_lt r.0 b))

-- a region that begins below b and ends above a is not apart from a .. b
pub meets_from_found : (m : BTreeMap ℕ ℕ) → IsOrdered nat_cmp m → (a b s e : ℕ)
    → get nat_cmp m s ≡ Some e → s < b → a < e → list_all (is_apart (a, b)) m.entries ≡ false
meets_from_found m ordered a b s e found below above = grind (
  arith,
  common_steps,
  btree_map_get_iff nat_cmp_total exact_unsigned m ordered s e,
  not_apart (a, b) (s, e) below above,
)

-- a region that is apart from all of them begins where none does
pub absent_from_apart : (m : BTreeMap ℕ ℕ) → IsOrdered nat_cmp m → IsSpread m.entries → (a b : ℕ)
    → a < b → list_all (is_apart (a, b)) m.entries ≡ true → get nat_cmp m a ≡ None
absent_from_apart m ordered spread a b some apart =
    elim (get nat_cmp m a) as (λ o. get nat_cmp m a ≡ o → o ≡ None) [
      | None ↦ λ _. refl
      | Some e ↦ λ found.
          let there : Contains m.entries (a, e) =
          (btree_map_get_iff nat_cmp_total exact_unsigned m ordered a e).0 found in
          let valid : a < e =
          All-contains (λ (x : ℕ × ℕ). x.0 < x.1) m.entries (a, e) spread.valid there in
          let meets : list_all (is_apart (a, b)) m.entries ≡ false =
          meets_from_found m ordered a b a e found some valid in
          absurd (cc)
    ] refl

-- the test by one neighbour
pub tested_by_last : (m : BTreeMap ℕ ℕ) → IsOrdered nat_cmp m → IsSpread m.entries → (a b s e : ℕ)
    → get nat_cmp m s ≡ Some e → s < b → ((q : ℕ) → q < b → IsSome (get nat_cmp m q) → q ≤ s)
    → nat_le e a ≡ list_all (is_apart (a, b)) m.entries
tested_by_last m ordered spread a b s e found below last = grind (
  arith,
  common_steps,
  nat_tests,
  meets_from_found m ordered a b s e found below,
  apart_from_last m ordered spread a b s e found,
  cases_lt a e,
)

-- regions stay spread where one more that is apart from all is put in
pub IsSpread-inserted : (m n : BTreeMap ℕ ℕ) → IsOrdered nat_cmp m → IsOrdered nat_cmp n → (a b : ℕ)
    → a < b → IsSpread m.entries → list_all (is_apart (a, b)) m.entries ≡ true
    → Updates nat_cmp m n a (Some b) → IsSpread n.entries
IsSpread-inserted m n om on a b some spread apart updates =
    let beside : (r : ℕ × ℕ) → Contains m.entries r → is_apart (a, b) r ≡ true =
    λ r there. All-contains (λ (x : ℕ × ℕ). is_apart (a, b) x ≡ true) m.entries r
    (AllPass-from_list_all (is_apart (a, b)) m.entries apart) there in
    let old_valid : (r : ℕ × ℕ) → Contains m.entries r → r.0 < r.1 =
    λ r there. All-contains (λ (x : ℕ × ℕ). x.0 < x.1) m.entries r spread.valid there in
    record {
      valid = λ k d lt. ⊎_elim (λ new. omega (arith, new.0, new.1))
          (λ old. old_valid (get_or n.entries k d) old) (inserted_cases m n om on a b updates
          (get_or n.entries k d) (Contains-get_or n.entries k d lt));
      spread = λ r s in_r in_s lt.
          ⊎_elim
          (λ new_r. ⊎_elim
          (λ new_s. absurd (omega (arith, new_r.0, new_s.0)))
          (λ old_s. let is_valid : s.0 < s.1 = old_valid s old_s in
          let h : b ≤ s.0 = ⊎_elim (λ le. le) (λ ge. absurd (omega (arith, new_r.0)))
          (apart_cases (a, b) s (beside s old_s)) in
          omega (arith, new_r.1))
          (inserted_cases m n om on a b updates s in_s))
          (λ old_r. ⊎_elim
          (λ new_s. let is_valid : r.0 < r.1 = old_valid r old_r in
          let h : r.1 ≤ a = ⊎_elim (λ le. absurd (omega (arith, new_s.0))) (λ ge. ge)
          (apart_cases (a, b) r (beside r old_r)) in
          omega (arith, new_s.0))
          (λ old_s. spread.spread r s old_r old_s lt)
          (inserted_cases m n om on a b updates s in_s))
          (inserted_cases m n om on a b updates r in_r);
    }

-- one region more
pub ruleset one_more = (IsSpread-inserted, list_all-insert_entry, absent_from_apart)
