-- Blanks that a line of a file of addresses ends in.
use Rattle.listing.proofs.Words.{◌≡◌, ◌∙◌, ℕ, ◌+◌, ◌<◌, false, cond, List, [], ◌∷◌, ◌++◌, length}
use Rattle.listing.proofs.Words.{get_or, take, sym, ap, list_all, and-false, and-true, take_more}
use Rattle.listing.proofs.Words.{is_blank_end, without_blank_end}
use Rattle.std.proofs.Common.{true}
use Rattle.std.specs.Prelude.{◌&&◌}
use Rattle.std.proofs.lemmas.List.Folds.{list_all-append}

all_more : (text : List ℕ) (b : ℕ) → is_blank_end b ≡ true
    → list_all is_blank_end (text ++ b ∷ []) ≡ list_all is_blank_end text
all_more text b is =
    list_all-append is_blank_end text (b ∷ []) ∙ rw is (and-true (list_all is_blank_end text))

not_all : (text : List ℕ) (b : ℕ) → is_blank_end b ≡ false
    → list_all is_blank_end (text ++ b ∷ []) ≡ false
not_all text b is =
    list_all-append is_blank_end text (b ∷ []) ∙ rw is (and-false (list_all is_blank_end text))

blank_behind : (text : List ℕ) (b : ℕ) → is_blank_end b ≡ true
    → without_blank_end (text ++ b ∷ []) ≡ without_blank_end text
blank_behind [] b is = ap (λ t. cond (t && true) [] (b ∷ [])) is
blank_behind (x ∷ text) b is =
    λ i. cond (is_blank_end x && all_more text b is i) [] (x ∷ blank_behind text b is i)

mark_behind : (text : List ℕ) (b : ℕ) → is_blank_end b ≡ false
    → without_blank_end (text ++ b ∷ []) ≡ text ++ b ∷ []
mark_behind [] b is = ap (λ t. cond (t && true) [] (b ∷ [])) is
mark_behind (x ∷ text) b is = λ i. cond (not_all (x ∷ text) b is i) [] (x ∷ mark_behind text b is i)

-- a blank at the end is none of it
pub blank_more : (text : List ℕ) (i : ℕ) → i < length text → is_blank_end (get_or text i 0) ≡ true
    → without_blank_end (take (i + 1) text) ≡ without_blank_end (take i text)
blank_more text i low is =
    ap without_blank_end (take_more text i 0 low) ∙ blank_behind (take i text) (get_or text i 0) is

-- and before another byte all of it stays
pub mark_more : (text : List ℕ) (i : ℕ) → i < length text → is_blank_end (get_or text i 0) ≡ false
    → without_blank_end (take (i + 1) text) ≡ take (i + 1) text
mark_more text i low is =
    ap without_blank_end (take_more text i 0 low) ∙ mark_behind (take i text) (get_or text i 0) is
    ∙ sym (take_more text i 0 low)
