-- A list of values from its parts.
use Rattle.command_traces.proofs.Words.{◌≡◌, ℕ, ◌-◌, ◌≤◌, List, [], ◌∷◌, ◌++◌, length, take, drop}
use Rattle.command_traces.proofs.Words.{get_or, flat_map, codes, ap, arith, take_rest, json_list}

-- a list is its first item and those behind it
pub list_told : {T : Type 0} (value : T → List ℕ) (xs : List T) (d : T) → 1 ≤ length xs
    → codes "[" ++ value (get_or xs 0 d) ++ flat_map (λ y. codes "," ++ value y)
    (take (length xs - 1) (drop 1 xs)) ++ codes "]" ≡ json_list value xs
list_told value [] d some = absurd (omega (arith, some))
list_told value (x ∷ xs) d some =
    ap (λ l. codes "[" ++ value x ++ flat_map (λ y. codes "," ++ value y) l ++ codes "]")
    (take_rest (x ∷ xs) 1)
