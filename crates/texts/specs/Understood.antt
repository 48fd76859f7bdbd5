-- What a text is, line by line, if each of its lines has to be understood.
use Rattle.std.specs.Prelude.{◌≡◌, ◌≢◌, ℕ, ◌+◌, ◌<◌, List, [], length, slice_index_or, All}
use Rattle.std.specs.Prelude.{Option, Some, None}
use Rattle.std.specs.List.{filter_map}
use Rattle.texts.specs.declared.said.LineMeaning.TheVariants.{Nothing, One, Bad}
use Rattle.texts.specs.Said.{said_by}

-- the entry that a line is, if it is one and not passed over
abbrev pub entry_by : {T : Type 0} → (List ℕ → Option T) → List ℕ → Option T
entry_by form line =
    elim (said_by form line) [ Nothing ↦ None | One entry ↦ Some entry | Bad ↦ None ]

-- each line is in the grammar, and the entries are theirs, in their order
abbrev pub AreSaidBy : {T : Type 0} → (List ℕ → Option T) → List (List ℕ) → List T → Type 0
AreSaidBy form lines entries =
    All (λ line. said_by form line ≢ Bad) lines × (entries ≡ filter_map (entry_by form) lines)

-- the line at a place is not in the grammar, and each one before it is
pub record IsFirstBadAt {T : Type 0} (form : List ℕ → Option T) (lines : List (List ℕ))
    (place : ℕ) : Type 0 where
  pub among : place < length lines
  pub bad : said_by form (slice_index_or lines place []) ≡ Bad
  pub before : (k : ℕ) → k < place → said_by form (slice_index_or lines k []) ≢ Bad

-- the first bad line has this number, the first of the lines being number n
abbrev pub IsFirstBadFrom : {T : Type 0} → (List ℕ → Option T) → ℕ → List (List ℕ) → ℕ → Type 0
IsFirstBadFrom form n lines number =
    (place : ℕ) × (number ≡ place + n) × IsFirstBadAt form lines place
