-- The region that an address lies in, of regions that rise.
use Rattle.modules.proofs.Words.{◌≡◌, ℕ, ◌-◌, ◌<◌, true, false, List, length, get_or, refl, sym}
use Rattle.modules.proofs.Words.{subst, ⊎_elim, arith, IsNonDecreasingBy, common_steps}
use Rattle.modules.proofs.Lemmas.{cases_lt, le-ltb, false_from_ne_true, get_or_default, list_any_at}
use Rattle.modules.proofs.Lemmas.{list_any_none}
use Rattle.modules.proofs.Definitions.{IsSplitBy, AreRising, holds, lies_in_any}
use Rattle.modules.proofs.SpacedLemmas.{inside}

module _ (regions : List (ℕ × ℕ)) (r : AreRising regions) where
  ends_before : (i j : ℕ) (d : ℕ × ℕ) → i < j → j < length regions
      → (get_or regions i d).1 < (get_or regions j d).0
  ends_before i j d less lt = r.rising i j d less lt

  pub starts_rise : IsNonDecreasingBy (λ s. s.0) regions
  starts_rise = grind (arith, ends_before, cases_lt)

  module _ (addr split : ℕ) (parts : IsSplitBy (λ s. s.0) regions addr split) where
    -- no region begins at or below the address
    pub in_none : split ≡ 0 → lies_in_any regions addr ≡ false
    in_none e = list_any_none (λ s. holds s addr) regions (λ k d lt. false_from_ne_true
        (holds (get_or regions k d) addr) (λ h. let (le, _) = inside (get_or regions k d) addr h in
        let far : addr < (get_or regions k d).0 = parts.above k d (omega arith) lt in omega arith))

    -- a region that holds the address is the last that does so
    only_last : (k : ℕ) (d : ℕ × ℕ) → k < length regions → holds (get_or regions k d) addr ≡ true
        → k ≡ split - 1
    only_last k d lt h =
        let (le, less) = inside (get_or regions k d) addr h in
        let b = parts.bound in
        ⊎_elim
        (λ before. let gap = ends_before k (split - 1) d before (omega arith) in
        let low = parts.below (split - 1) d (omega arith) in
        absurd (omega arith))
        (λ ge. ⊎_elim (λ under. omega arith) (λ past. let far = parts.above k d past lt in
        absurd (omega arith)) (cases_lt k split))
        (cases_lt k (split - 1))

    -- the last that begins at or below it is the only one that may hold it
    pub in_last : (d : ℕ × ℕ) → 0 < split
        → holds (get_or regions (split - 1) d) addr ≡ lies_in_any regions addr
    in_last d some =
        elim (holds (get_or regions (split - 1) d) addr) as (λ b.
        holds (get_or regions (split - 1) d) addr ≡ b → b ≡ lies_in_any regions addr) [
          | true ↦ λ e. sym (list_any_at (λ s. holds s addr) regions (split - 1) d
              (let b = parts.bound in omega arith) e)
          | false ↦ λ e. sym (list_any_none (λ s. holds s addr) regions
              (λ k x lt. false_from_ne_true (holds (get_or regions k x) addr) (λ h.
              let same : holds (get_or regions (split - 1) d) addr ≡ true =
              subst (λ n. holds (get_or regions n d) addr ≡ true) (only_last k x lt h)
              (subst (λ s. holds s addr ≡ true) (get_or_default regions k x d lt) h) in
              cc)))
        ] refl

-- what a binary search of them tells
pub ruleset rising_search = (common_steps, le-ltb, starts_rise, in_none, in_last)
