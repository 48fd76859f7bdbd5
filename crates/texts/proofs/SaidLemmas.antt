-- Entries that lines say one after another.
use Rattle.texts.proofs.Words.{◌≡◌, ℕ, List, [], ◌∷◌, ◌++◌, Result, Ok, Err, refl, sym, ◌∙◌, ap}
use Rattle.texts.proofs.Words.{append_assoc, append-nil, entries_after}

module _ {T : Type 0} where
  pub none_before : (said : Result (List T) ℕ) → entries_after [] said ≡ said
  none_before (Ok rest) = refl
  none_before (Err n) = refl

  pub entries_pushed : (front : List T) (entry : T) (said : Result (List T) ℕ)
      → entries_after front (entries_after (entry ∷ []) said)
      ≡ entries_after (front ++ entry ∷ []) said
  entries_pushed front entry (Ok rest) =
      ap (λ xs. Ok xs) (sym (append_assoc front (entry ∷ []) rest))
  entries_pushed front entry (Err n) = refl

  -- entries before those that lines say which are left, of what all say
  module _ (front : List T) (left whole : Result (List T) ℕ)
      (is : entries_after front left ≡ whole) where
    pub one_more : (entry : T) (rest : Result (List T) ℕ) → left ≡ entries_after (entry ∷ []) rest
        → entries_after (front ++ entry ∷ []) rest ≡ whole
    one_more entry rest next =
        sym (entries_pushed front entry rest) ∙ ap (entries_after front) (sym next) ∙ is

    pub all_said : left ≡ Ok [] → whole ≡ Ok front
    all_said ended = sym is ∙ ap (entries_after front) ended ∙ ap (λ xs. Ok xs) (append-nil front)
