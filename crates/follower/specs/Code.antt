-- Code that the caller knows of itself.
use Rattle.std.specs.Prelude.{◌≡◌, ℕ, ◌-◌, ◌^◌, ◌≤◌, ◌<◌, Bool, true, ◌&&◌, nat_le, nat_lt, List}

-- the first address of a piece of code, how many bytes it has, its name, and the name of what it
-- belongs to
pub record CodeEntry : Type 0 where
  pub start : ℕ
  pub len : ℕ
  pub name : List ℕ
  pub owner : List ℕ

-- the address is one of the code's, of just so many bytes
abbrev pub has_address : ℕ → CodeEntry → Bool
has_address addr code = nat_le code.start addr && nat_lt (addr - code.start) code.len

-- each of its addresses is one of these
abbrev pub LiesWithin : ℕ → ℕ → CodeEntry → Type 0
LiesWithin lowest highest code =
    (addr : ℕ) → addr < 2 ^ 64 → has_address addr code ≡ true → (lowest ≤ addr) × (addr ≤ highest)
