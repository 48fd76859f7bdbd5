-- How many entries of a list a property holds of.
use Rattle.std.specs.Prelude.{◌≡◌, ◌⊎◌, ℕ, ◌+◌, ◌-◌, ◌^◌, List, [], ◌∷◌, min}

-- the property holds of this many entries of the list, and not of the others
abbrev pub Counts : {X : Type 0} → (X → Type 0) → List X → ℕ → Type 0
Counts holds [] n = n ≡ 0
Counts holds (x ∷ xs) n =
    ((holds x → ⊥) × Counts holds xs n)
    ⊎ (holds x × ((m : ℕ) × Counts holds xs m × (n ≡ m + 1)))

-- the number of them, which stays at the greatest u64
abbrev pub CountsUpTo : {X : Type 0} → (X → Type 0) → List X → ℕ → Type 0
CountsUpTo holds xs r = (n : ℕ) × Counts holds xs n × (r ≡ min n (2 ^ 64 - 1))
