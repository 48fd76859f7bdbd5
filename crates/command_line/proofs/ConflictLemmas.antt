-- Options that do not go together, row after row.
use Rattle.command_line.proofs.Words.{◌≡◌, ◌∙◌, ◌+◌, ◌<◌, ap, refl, sym, ℕ, List, [], ◌∷◌, ◌++◌}
use Rattle.command_line.proofs.Words.{map, take, drop, get_or, length, Some, None, slice_get}
use Rattle.command_line.proofs.Words.{filter_map, map-append, take_more, take-append-drop}
use Rattle.command_line.proofs.Words.{filter_map-append, Row, Text, row_of, conflict_of, Argument}

module _ (rows : List Row) where
  -- all that is wrong with these arguments
  abbrev pub conflicts : List Argument → List Text
  conflicts arguments = filter_map (conflict_of rows) (map row_of arguments)

  conflicts-append : (xs ys : List Argument) → conflicts (xs ++ ys) ≡ conflicts xs ++ conflicts ys
  conflicts-append xs ys = ap (filter_map (conflict_of rows)) (map-append row_of xs ys)
      ∙ filter_map-append (conflict_of rows) (map row_of xs) (map row_of ys)

  module _ (arguments : List Argument) (i : ℕ) (d : Argument) (lt : i < length arguments)
      (none : conflicts (take i arguments) ≡ []) where
    one_more : conflicts (take (i + 1) arguments) ≡ conflicts (get_or arguments i d ∷ [])
    one_more = ap conflicts (take_more arguments i d lt)
        ∙ conflicts-append (take i arguments) (get_or arguments i d ∷ [])
        ∙ ap (λ l. l ++ conflicts (get_or arguments i d ∷ [])) none

    pub still_none : None ≡ conflict_of rows (row_of (get_or arguments i d))
        → conflicts (take (i + 1) arguments) ≡ []
    still_none e = let here : conflicts (get_or arguments i d ∷ []) ≡ [] = rw (← e) refl in
        one_more ∙ here

    -- that of the next one is the first of all
    pub first : (m : Text) → Some m ≡ conflict_of rows (row_of (get_or arguments i d))
        → Some m ≡ slice_get (conflicts arguments) 0
    first m e =
        let here : conflicts (get_or arguments i d ∷ []) ≡ m ∷ [] = rw (← e) refl in
        let all = ap conflicts (sym (take-append-drop (i + 1) arguments))
        ∙ conflicts-append (take (i + 1) arguments) (drop (i + 1) arguments) in
        sym (ap (λ l. slice_get l 0)
        (all ∙ ap (λ l. l ++ conflicts (drop (i + 1) arguments)) (one_more ∙ here)))
