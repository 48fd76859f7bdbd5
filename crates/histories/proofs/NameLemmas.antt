-- Names that are collected, line by line.
use Rattle.histories.proofs.Words.{◌≡◌, ◌∙◌, ◌||◌, ℕ, List, [], ◌∷◌, ◌++◌, Bool, true, false, cond}
use Rattle.histories.proofs.Words.{Option, None, Some, refl, sym, ap, lines, without_end, is_among}
use Rattle.histories.proofs.Words.{is_named, named_module, with_named, option_map_or}
use Rattle.std.proofs.Math.Bool.{or-false}
use Rattle.facts.proofs.Bools.{or_assoc}
use Rattle.std.proofs.lemmas.List.Folds.{list_any-append}
use Rattle.std.proofs.lemmas.Slice.Eq.{bytes_eq-Decides}
use Rattle.std.specs.List.{list_any}
use Rattle.std.specs.Str.{bytes_eq}

-- these names, and each other one that the lines name
abbrev pub with_names : List (List ℕ) → List (List ℕ) → List (List ℕ)
with_names names [] = names
with_names names (line ∷ more) =
    with_names (with_named names (named_module (without_end line))) more

-- this is the name, if there is one
abbrev is_it : Option (List ℕ) → List ℕ → Bool
is_it o name = option_map_or (bytes_eq name) o false

-- one of the lines names it
abbrev name_it : List (List ℕ) → List ℕ → Bool
name_it ls name = list_any (λ line. is_it (named_module (without_end line)) name) ls

or_own : (a b : Bool) → (b ≡ true → a ≡ true) → a ≡ (a || b)
or_own true b own = refl
or_own false true own = own refl
or_own false false own = refl

with_one : (names : List (List ℕ)) (n name : List ℕ) (t : Bool) → is_among names n ≡ t
    → is_among (cond t names (names ++ n ∷ [])) name ≡ (is_among names name || bytes_eq name n)
with_one names n name true there =
    or_own (is_among names name) (bytes_eq name n)
    (λ same. ap (is_among names) ((bytes_eq-Decides name n).0 same) ∙ there)
with_one names n name false there =
    list_any-append (bytes_eq name) names (n ∷ [])
    ∙ ap (λ b. is_among names name || b) (or-false (bytes_eq name n))

with_some : (names : List (List ℕ)) (o : Option (List ℕ)) (name : List ℕ)
    → is_among (with_named names o) name ≡ (is_among names name || is_it o name)
with_some names None name = sym (or-false (is_among names name))
with_some names (Some n) name = with_one names n name (is_among names n) refl

with_all : (names ls : List (List ℕ)) (name : List ℕ)
    → is_among (with_names names ls) name ≡ (is_among names name || name_it ls name)
with_all names [] name = sym (or-false (is_among names name))
with_all names (line ∷ more) name =
    let o = named_module (without_end line) in
    with_all (with_named names o) more name
    ∙ ap (λ b. b || name_it more name) (with_some names o name)
    ∙ sym (or_assoc (is_among names name) (is_it o name) (name_it more name))

-- all that a change names
pub collected : (change : List ℕ) (names : List (List ℕ)) → names ≡ with_names [] (lines change)
    → is_among names ≡ is_named change
collected change names are =
    ap (λ (l : List (List ℕ)). is_among l) are ∙ (λ i name. with_all [] (lines change) name i)
