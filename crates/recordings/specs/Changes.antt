-- Which modules have changed, and what a history has of modules after a change.
use Rattle.std.specs.Prelude.{ℕ, Bool, not, ◌&&◌, nat_eq, List, [], ◌∷◌, ◌++◌, filter, length, map}
use Rattle.std.specs.Prelude.{if◌then◌else◌}
use Rattle.std.specs.List.{fold}
use Rattle.std.specs.Borrow.{Bor}
use Rattle.std.specs.Str.{bytes_eq}
use Rattle.histories.specs.Changes.{is_among}
use Rattle.recordings.specs.ModuleLines.{SomeLines, names_of, text_of}

-- the names that words are
abbrev pub texts : List (Bor (List ℕ)) → List (List ℕ)
texts words = map (λ w. w.now) words

-- no event names the module, and its lines in the listing now are others than in the history
abbrev pub is_changed : List (List ℕ) → List SomeLines → List SomeLines → List ℕ → Bool
is_changed named now old name =
    not (is_among named name) && not (bytes_eq (text_of now name) (text_of old name))

-- these names, and one more if it has changed and is not among them
abbrev pub with_changed : List (List ℕ) → List SomeLines → List SomeLines → List (List ℕ)
    → List ℕ → List (List ℕ)
with_changed named now old names name =
    if not (is_among names name) && is_changed named now old name then names ++ name ∷ []
    else names

-- all that have changed, each once: the ones of the listing first
abbrev pub changed_names : List (List ℕ) → List SomeLines → List SomeLines → List (List ℕ)
changed_names named now old =
    fold (with_changed named now old) (fold (with_changed named now old) [] (names_of now))
    (names_of old)

-- lines stay that are neither of this module nor of one of these
abbrev pub is_left : List ℕ → List (List ℕ) → SomeLines → Bool
is_left name others m = not (bytes_eq name m.name) && not (is_among others m.name)

-- the lines that the module of this name has now, if it has some
abbrev pub own_part : List ℕ → List ℕ → List SomeLines
own_part name own =
    if nat_eq (length own) 0 then [] else record { name = name; text = own } ∷ []

-- the lines of the modules of these names
abbrev pub parts_among : List (List ℕ) → List SomeLines → List SomeLines
parts_among others now = filter (λ m. is_among others m.name) now

-- what a history has of modules after a change of this one, with these lines, and of others
abbrev pub modules_after : List ℕ → List ℕ → List (List ℕ) → List SomeLines → List SomeLines
    → List SomeLines
modules_after name own others now old =
    filter (is_left name others) old ++ own_part name own ++ parts_among others now
