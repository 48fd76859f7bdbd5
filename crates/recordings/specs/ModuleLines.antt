-- The lines of a listing by their modules.
use Rattle.std.specs.Prelude.{ℕ, List, [], ◌∷◌, ◌++◌, flat_map, map, if◌then◌else◌}
use Rattle.std.specs.Prelude.{Option, Some, None}
use Rattle.std.specs.Option.{option_map}
use Rattle.std.specs.Str.{bytes_eq}
use Rattle.histories.specs.ListingLines.{module_of, without_end}

-- some lines of a module
pub record SomeLines : Type 0 where
  pub name : List ℕ
  pub text : List ℕ

-- lines before others: lines of this module go on
abbrev pub joined : SomeLines → List SomeLines → List SomeLines
joined m [] = m ∷ []
joined m (next ∷ more) =
    if bytes_eq next.name m.name then record { name = m.name; text = m.text ++ next.text } ∷ more
    else m ∷ next ∷ more

-- likewise, if there are lines before
abbrev pub joined_if : Option SomeLines → List SomeLines → List SomeLines
joined_if None more = more
joined_if (Some m) more = joined m more

-- this text is of the module of this name
abbrev pub lines_of_module : List ℕ → List ℕ → SomeLines
lines_of_module text name = record { name = name; text = text }

-- the lines that are of modules
abbrev pub modules_in : List (List ℕ) → List SomeLines
modules_in [] = []
modules_in (line ∷ more) =
    joined_if (option_map (lines_of_module line) (module_of (without_end line))) (modules_in more)

-- the lines of the module of this name
abbrev pub text_of : List SomeLines → List ℕ → List ℕ
text_of modules name = flat_map (λ m. if bytes_eq name m.name then m.text else []) modules

-- the names of the modules
abbrev pub names_of : List SomeLines → List (List ℕ)
names_of modules = map (λ m. m.name) modules
