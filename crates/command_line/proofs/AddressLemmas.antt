-- Words that are numbers, one after the other.
use Rattle.command_line.proofs.Words.{◌≡◌, ℕ, ◌+◌, ◌<◌, List, [], ◌∷◌, ◌++◌, length, map, take}
use Rattle.command_line.proofs.Words.{drop, get_or, Option, Some, None, refl, sym, ◌∙◌, ap, find}
use Rattle.command_line.proofs.Words.{Bor, filter_map, option_or, map-append, take_more}
use Rattle.command_line.proofs.Words.{take-append-drop, filter_map-append, find-append, Text}
use Rattle.command_line.proofs.Words.{address_of_text, is_no_address}

-- the texts of words
abbrev pub texts : List (Bor Text) → List Text
texts words = map (λ w. w.now) words

module _ (words : List (Bor Text)) (i : ℕ) (d : Bor Text) (lt : i < length words) where
  pub text_more : texts (take (i + 1) words) ≡ texts (take i words) ++ (get_or words i d).now ∷ []
  text_more = ap texts (take_more words i d lt)
      ∙ map-append (λ (w : Bor Text). w.now) (take i words) (get_or words i d ∷ [])

  found_more : (o : Option ℕ) → address_of_text (get_or words i d).now ≡ o
      → find is_no_address (texts (take i words)) ≡ None
      → find is_no_address (texts (take (i + 1) words))
      ≡ find is_no_address ((get_or words i d).now ∷ [])
  found_more o e none =
      ap (find is_no_address) text_more
      ∙ find-append is_no_address (texts (take i words)) ((get_or words i d).now ∷ [])
      ∙ ap (λ x. option_or x (find is_no_address ((get_or words i d).now ∷ []))) none

  pub still_addresses : (n : ℕ) → address_of_text (get_or words i d).now ≡ Some n
      → find is_no_address (texts (take i words)) ≡ None
      → find is_no_address (texts (take (i + 1) words)) ≡ None
  still_addresses n e none = found_more (Some n) e none ∙ rw e refl

  pub one_address_more : (n : ℕ) → address_of_text (get_or words i d).now ≡ Some n
      → filter_map address_of_text (texts (take (i + 1) words))
      ≡ filter_map address_of_text (texts (take i words)) ++ n ∷ []
  one_address_more n e =
      ap (filter_map address_of_text) text_more
      ∙ filter_map-append address_of_text (texts (take i words)) ((get_or words i d).now ∷ [])
      ∙ ap (λ l. filter_map address_of_text (texts (take i words)) ++ l) (rw e refl)

  pub first_bad : address_of_text (get_or words i d).now ≡ None
      → find is_no_address (texts (take i words)) ≡ None
      → find is_no_address (texts words) ≡ Some (get_or words i d).now
  first_bad e none =
      let here : find is_no_address (texts (take (i + 1) words)) ≡ Some (get_or words i d).now =
      found_more None e none ∙ rw e refl in
      ap (λ l. find is_no_address (texts l)) (sym (take-append-drop (i + 1) words))
      ∙ ap (find is_no_address)
      (map-append (λ (w : Bor Text). w.now) (take (i + 1) words) (drop (i + 1) words))
      ∙ find-append is_no_address (texts (take (i + 1) words)) (texts (drop (i + 1) words))
      ∙ ap (λ x. option_or x (find is_no_address (texts (drop (i + 1) words)))) here
