-- Parts, and what a listing is after them.
use Rattle.histories.proofs.Words.{◌≡◌, ◌∙◌, ◌+◌, ◌-◌, ◌<◌, ℕ, zero, suc, false, List, [], ◌∷◌}
use Rattle.histories.proofs.Words.{◌++◌, length, get_or, refl, sym, ap, arith, take, drop, take-add}
use Rattle.histories.proofs.Words.{after_parts, after_part, listing_after, HistoryPart, ne_eqb}

-- parts, and then more
then_parts : (before : List ℕ) (xs ys : List HistoryPart)
    → after_parts before (xs ++ ys) ≡ after_parts (after_parts before xs) ys
then_parts before [] ys = refl
then_parts before (x ∷ xs) ys = then_parts (after_part before x) xs ys

after_some : (parts : List HistoryPart) (n : ℕ) → 0 < n
    → listing_after n parts ≡ after_parts [] (take n parts)
after_some parts n some = rw (ne_eqb n 0 (λ is. omega (arith, is)))

-- the listing after some parts, and then after more of them
pub more_parts : (parts : List HistoryPart) (text : List ℕ) (p n : ℕ) → 0 < p → p < n
    → text ≡ listing_after p parts
    → after_parts text (take (n - p) (drop p parts)) ≡ listing_after n parts
more_parts parts text p n some more is =
    let between = take (n - p) (drop p parts) in
    let whole : p + (n - p) ≡ n = omega arith in
    let cut : take p parts ++ between ≡ take n parts =
    sym (take-add p (n - p) parts) ∙ ap (λ k. take k parts) whole in
    ap (λ t. after_parts t between) (is ∙ after_some parts p some)
    ∙ sym (then_parts [] (take p parts) between)
    ∙ ap (after_parts []) cut
    ∙ sym (after_some parts n (omega arith))

-- a listing makes no difference what was before it
whatever_before : (parts : List HistoryPart) (i : ℕ) (d : HistoryPart) (before other : List ℕ)
    → i < length parts → (get_or parts i d).header.is_change ≡ false
    → after_parts before (drop i parts) ≡ after_parts other (drop i parts)
whatever_before [] i d before other within listing = absurd (omega arith)
whatever_before (p ∷ ps) zero d before other within listing = rw listing refl
whatever_before (p ∷ ps) (suc i) d before other within listing =
    whatever_before ps i d before other (omega arith) listing

from_listing_on : (parts : List HistoryPart) (i : ℕ) (d : HistoryPart) (before : List ℕ)
    → i < length parts → (get_or parts i d).header.is_change ≡ false
    → after_parts before (drop i parts) ≡ after_parts before parts
from_listing_on [] i d before within listing = absurd (omega arith)
from_listing_on (p ∷ ps) zero d before within listing = refl
from_listing_on (p ∷ ps) (suc i) d before within listing =
    whatever_before ps i d before (after_part before p) (omega arith) listing
    ∙ from_listing_on ps i d (after_part before p) (omega arith) listing

-- from a listing on
pub from_listing : (parts rest : List HistoryPart) (i : ℕ) (d : HistoryPart) (before : List ℕ)
    → rest ≡ drop i parts → i < length parts → (get_or parts i d).header.is_change ≡ false
    → after_parts before rest ≡ after_parts before parts
from_listing parts rest i d before is within listing =
    ap (after_parts before) is ∙ from_listing_on parts i d before within listing
