-- Names of modules.
use Rattle.std.specs.Prelude.{ℕ, if◌then◌else◌, List, [], ◌∷◌, ◌++◌, map}
use Rattle.std.specs.List.{list_any}
use Rattle.std.specs.Str.{bytes_eq}
use Rattle.modules.specs.Entries.{ModuleEntry}

-- the names of the modules
abbrev pub names_in : List ModuleEntry → List (List ℕ)
names_in modules = map (λ m. m.name) modules

-- the names with this one after them, if it is not among them
abbrev pub with_name : List (List ℕ) → List ℕ → List (List ℕ)
with_name names name = if list_any (bytes_eq name) names then names else names ++ name ∷ []
