-- The texts of words, and the lines of notes.
use Rattle.command_listings.proofs.Words.{◌≡◌, ℕ, ◌+◌, ◌<◌, List, [], ◌∷◌, ◌++◌, length, map, take}
use Rattle.command_listings.proofs.Words.{get_or, ◌∙◌, ap, Bor, map-append, take_more, Bool}
use Rattle.command_listings.proofs.Words.{BoundNames, Option, Output, Says, flat_map, line_where}
use Rattle.command_listings.proofs.Words.{note_line, piece_said, same_text, ListingNote}

abbrev pub texts : List (Bor (List ℕ)) → List (List ℕ)
texts words = map (λ w. w.now) words

pub text_more : (words : List (Bor (List ℕ))) (i : ℕ) (d : Bor (List ℕ)) → i < length words
    → texts (take (i + 1) words) ≡ texts (take i words) ++ (get_or words i d).now ∷ []
text_more words i d lt = ap texts (take_more words i d lt)
    ∙ map-append (λ (w : Bor (List ℕ)). w.now) (take i words) (get_or words i d ∷ [])

-- the line of one note more, if it applies
pub note_said : {W : Type 0} {contents : W → Option (List ℕ)} {old mid new : Output W}
    (names : BoundNames) (file : List ℕ) (holds : ListingNote → Bool) (notes : List ListingNote)
    (i : ℕ) (x : ListingNote) (applies : Bool)
    → i < length notes → x ≡ get_or notes i x → applies ≡ holds x
    → Says contents old mid
    (flat_map (λ note. line_where (holds note) (note_line names file note)) (take i notes))
    → Says contents mid new (line_where applies (note_line names file x))
    → Says contents old new (flat_map (λ note. line_where (holds note) (note_line names file note))
    (take (i + 1) notes))
note_said names file holds notes i x applies within here is before said =
    piece_said (λ note. line_where (holds note) (note_line names file note)) notes i x within here
    before (same_text (ap (λ a. line_where a (note_line names file x)) is) said)
