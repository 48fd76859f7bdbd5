-- Regions of addresses, from a first address up to an end that is excluded.
use Rattle.std.specs.Prelude.{◌≡◌, ℕ, ◌<◌, ◌≤◌, Bool, true, ◌||◌, ◌&&◌, nat_le, nat_lt, List, []}
use Rattle.std.specs.Prelude.{◌∷◌}
use Rattle.std.specs.Prelude.{All, Contains}
use Rattle.std.specs.List.{AllPairs, list_all, list_any}

-- no address lies in both
abbrev pub is_apart : ℕ × ℕ → ℕ × ℕ → Bool
is_apart r s = nat_le r.1 s.0 || nat_le s.1 r.0

-- the address lies in the region
abbrev pub holds : ℕ × ℕ → ℕ → Bool
holds r addr = nat_le r.0 addr && nat_lt addr r.1

-- the address lies in one of the regions
abbrev pub lies_in_any : List (ℕ × ℕ) → ℕ → Bool
lies_in_any regions addr = list_any (λ r. holds r addr) regions

-- no two of the regions have an address in common
abbrev pub lie_apart : List (ℕ × ℕ) → Bool
lie_apart [] = true
lie_apart (r ∷ rs) = list_all (is_apart r) rs && lie_apart rs

-- no address lies in one of each
abbrev pub are_beside : List (ℕ × ℕ) → List (ℕ × ℕ) → Bool
are_beside taken regions = list_all (λ r. list_all (is_apart r) taken) regions

-- each region has an address, and no two have one in common
pub record AreApart (regions : List (ℕ × ℕ)) : Type 0 where
  pub valid : All (λ r. r.0 < r.1) regions
  pub apart : AllPairs (λ r s. is_apart r s ≡ true) regions

-- each region has an address, and lies below the next with addresses between them
pub record AreRising (regions : List (ℕ × ℕ)) : Type 0 where
  pub valid : All (λ r. r.0 < r.1) regions
  pub rising : AllPairs (λ r s. r.1 < s.0) regions

-- each has an address, and ends before the next one begins
pub record IsSpread (regions : List (ℕ × ℕ)) : Type 0 where
  pub valid : All (λ r. r.0 < r.1) regions
  pub spread : (r s : ℕ × ℕ) → Contains regions r → Contains regions s → r.0 < s.0 → r.1 ≤ s.0
