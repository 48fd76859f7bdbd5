-- The first addresses of a module's regions, by their parts.
use Rattle.std.specs.Prelude.{ℕ, Bool, if◌then◌else◌, List, [], ◌∷◌, position, slice_get, Option}
use Rattle.std.specs.Option.{option_and_then, option_map}
use Rattle.modules.specs.Entries.{ModuleEntry}
use Rattle.modules.specs.Parts.{is_of}
use Rattle.modules.specs.declared.lines.Part.{Part}

-- the first address of the region at a place
abbrev pub start_at : List (ℕ × ℕ) → ℕ → Option ℕ
start_at regions place = option_map (λ r. r.0) (slice_get regions place)

-- the first address of the first region whose part passes
abbrev pub start_where : (Part → Bool) → List (ℕ × ℕ) → List Part → Option ℕ
start_where passes regions parts = option_and_then (start_at regions) (position passes parts)

abbrev pub first_start : (Part → Bool) → ModuleEntry → Option ℕ
first_start passes m = start_where passes m.regions m.parts

-- the first addresses of the core regions, if these are asked for, and of the init regions, if
-- these are, in order
abbrev pub starts_of : Bool → Bool → List (ℕ × ℕ) → List Part → List ℕ
starts_of core init [] parts = []
starts_of core init (r ∷ rs) [] = []
starts_of core init (r ∷ rs) (p ∷ ps) =
    if is_of core init p then r.0 ∷ starts_of core init rs ps else starts_of core init rs ps
