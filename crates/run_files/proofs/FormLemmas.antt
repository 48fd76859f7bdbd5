-- Words of another number than that of a form are not of this form.
use Rattle.run_files.proofs.Words.{◌≡◌, ℕ, ◌<◌, ◌≤◌, Bool, ◌&&◌, List, [], ◌∷◌, length, map, None}
use Rattle.run_files.proofs.Words.{◌≢◌, Option, refl, ap, arith, Bor, slice_index_or, bytes_eq}
use Rattle.run_files.proofs.Words.{codes, Words, header_of_words, header_with, number_of}
use Rattle.run_files.proofs.Words.{command_of, command_with, erase_of, insert_of, read_of, start_of}
use Rattle.run_files.proofs.Words.{write_of}
use Rattle.facts.proofs.Options.{cond-None}

pub insert_other : (words : Words) → length words ≢ 3 → insert_of (map (λ w. w.now) words) ≡ None
insert_other (a ∷ b ∷ c ∷ []) other = absurd (other refl)
insert_other _ other = refl

pub erase_other : (words : Words) → length words ≢ 1 → erase_of (map (λ w. w.now) words) ≡ None
erase_other (a ∷ []) other = absurd (other refl)
erase_other _ other = refl

pub write_other : (words : Words) → length words ≢ 1 → write_of (map (λ w. w.now) words) ≡ None
write_other (a ∷ []) other = absurd (other refl)
write_other _ other = refl

pub start_other : (words : Words) → length words ≢ 2 → start_of (map (λ w. w.now) words) ≡ None
start_other (a ∷ b ∷ []) other = absurd (other refl)
start_other _ other = refl

pub read_other : (words : Words) → length words ≢ 2 → read_of (map (λ w. w.now) words) ≡ None
read_other (a ∷ b ∷ []) other = absurd (other refl)
read_other _ other = refl

pub verb_alone : (batches : Bool) (verb : List ℕ) → command_with batches (verb ∷ []) ≡ None
verb_alone batches verb =
    cond-None (batches && bytes_eq verb (codes "batch")) _ _ refl
    (cond-None (bytes_eq verb (codes "insert")) _ _ refl
    (cond-None (bytes_eq verb (codes "erase")) _ _ refl
    (cond-None (bytes_eq verb (codes "write")) _ _ refl
    (cond-None (bytes_eq verb (codes "start")) _ _ refl
    (cond-None (bytes_eq verb (codes "read")) _ _ refl refl)))))

pub command_long : (verb : List ℕ) (words : List (List ℕ)) → 3 < length words
    → command_of (verb ∷ words) ≡ None
command_long verb (a ∷ b ∷ c ∷ d ∷ words) many =
    cond-None (bytes_eq verb (codes "insert")) _ _ refl
    (cond-None (bytes_eq verb (codes "erase")) _ _ refl
    (cond-None (bytes_eq verb (codes "write")) _ _ refl
    (cond-None (bytes_eq verb (codes "start")) _ _ refl
    (cond-None (bytes_eq verb (codes "read")) _ _ refl refl))))
command_long verb _ many = absurd (omega arith)

pub header_other : (words : Words) → length words ≢ 4 → length words ≢ 5
    → header_of_words (map (λ w. w.now) words) ≡ None
header_other (a ∷ b ∷ c ∷ d ∷ []) four five = absurd (four refl)
header_other (a ∷ b ∷ c ∷ d ∷ e ∷ []) four five = absurd (five refl)
header_other _ four five = refl

pub header_too_long : (words : List (List ℕ)) → 5 < length words → header_of_words words ≡ None
header_too_long (a ∷ b ∷ c ∷ d ∷ e ∷ f ∷ words) many = refl
header_too_long _ many = absurd (omega arith)

pub header_five : (words : Words) (d : Bor (List ℕ)) (start : Option ℕ)
    → start ≡ number_of (slice_index_or words 4 d).now → 5 ≤ length words → length words < 6
    → header_with (slice_index_or words 0 d).now (slice_index_or words 1 d).now
    (slice_index_or words 2 d).now (slice_index_or words 3 d).now start
    ≡ header_of_words (map (λ w. w.now) words)
header_five (a ∷ b ∷ c ∷ f ∷ g ∷ []) d start e many few = ap (header_with a.now b.now c.now f.now) e
header_five _ d start e many few = absurd (omega arith)
