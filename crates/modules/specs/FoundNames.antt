-- Names that are found.
use Rattle.std.specs.Prelude.{◌≡◌, ℕ, List, map}
use Rattle.std.specs.BTreeMap.{get_by}
use Rattle.std.specs.Borrow.{Bor}
use Rattle.std.specs.Cmp.Lexicographic.{slice_cmp}
use Rattle.std.specs.List.{position_from}
use Rattle.std.specs.Ordering.{nat_cmp}
use Rattle.std.specs.Str.{bytes_eq}
use Rattle.modules.specs.declared.names.Names.TheInside.{Inside}

-- the names that are referred to
abbrev pub names_at : List (Bor (List ℕ)) → List (List ℕ)
names_at names = map (λ n. n.now) names

-- each name is found at its first place
abbrev pub HasPlaces : Inside → Type 0
HasPlaces n =
    (name : List ℕ)
    → get_by (λ k. slice_cmp nat_cmp name k.now) n.places
    ≡ position_from (bytes_eq name) 0 (names_at n.listed.items)
