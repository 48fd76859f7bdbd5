-- The listing at a time is the last that began by then, if the parts are in the order of time.
use Rattle.histories.proofs.Words.{◌≡◌, ◌∙◌, ◌+◌, ◌<◌, ◌≤◌, ℕ, zero, suc, List, [], ◌∷◌, length}
use Rattle.histories.proofs.Words.{Option, None, Some, get_or, refl, sym, ap, arith, nat_le}
use Rattle.histories.proofs.Words.{AreInOrder, HistoryPart, after_part, after_parts, option_map_or}
use Rattle.histories.proofs.Words.{ne_eqb, ⊎_elim}
use Rattle.std.proofs.lemmas.Bool.{cases_lt, le-leb, lt-leb}
use Rattle.std.specs.Prelude.{take, unwrap_or, ◌==◌, if◌then◌else◌}
use Rattle.std.specs.List.{prefix_len}
use Rattle.modules.specs.LastBegun.{last_begun}
use Rattle.histories.specs.ListingsAt.{DatedListing, before_all, dated_listings, last_listing}
use Rattle.histories.specs.ListingsAt.{listing_at}

-- the last listing that began by a time, or else a text
abbrev text_at : ℕ → List DatedListing → List ℕ → List ℕ
text_at time dated other = option_map_or (λ l. l.text) (last_begun (λ l. l.since) time dated) other

-- how many parts have a time that is not above this one
abbrev count_by : ℕ → List HistoryPart → ℕ
count_by time parts = prefix_len (λ part. nat_le part.header.time time) parts

abbrev text_after : ℕ → List ℕ → List HistoryPart → List ℕ → List ℕ
text_after count before parts other =
    if count == 0 then other else after_parts before (take count parts)

text_or : (found : Option DatedListing) (l : DatedListing) (other : List ℕ)
    → option_map_or (λ (d : DatedListing). d.text) (Some (unwrap_or found l)) other
    ≡ option_map_or (λ (d : DatedListing). d.text) found l.text
text_or None l other = refl
text_or (Some d) l other = refl

-- none of these began by the time
none_began : (time : ℕ) (before : List ℕ) (parts : List HistoryPart)
    → ((k : ℕ) (d : HistoryPart) → k < length parts → time < (get_or parts k d).header.time)
    → last_begun (λ (l : DatedListing). l.since) time (dated_listings before parts) ≡ None
none_began time before [] later = refl
none_began time before (part ∷ parts) later =
    rw (lt-leb part.header.time time (later 0 part (omega arith)))
    (none_began time (after_part before part) parts (λ k d within. later (suc k) d (omega arith)))

rest_in_order : (part : HistoryPart) (parts : List HistoryPart) → AreInOrder (part ∷ parts)
    → AreInOrder parts
rest_in_order part parts order i j d below within =
    order (suc i) (suc j) d (omega arith) (omega arith)

-- what was before the parts is the text if there is none
none_or : (count : ℕ) (text : List ℕ) (parts : List HistoryPart)
    → text_after count text parts text ≡ after_parts text (take count parts)
none_or zero text parts = refl
none_or (suc count) text parts = rw (ne_eqb (suc count) 0 (λ is. omega (arith, is))) refl

one_first : (count : ℕ) (before : List ℕ) (part : HistoryPart) (parts : List HistoryPart)
    (other : List ℕ) → text_after (suc count) before (part ∷ parts) other
    ≡ after_parts (after_part before part) (take count parts)
one_first count before part parts other = rw (ne_eqb (suc count) 0 (λ is. omega (arith, is))) refl

-- one part more
one_more : (time : ℕ) (before : List ℕ) (part : HistoryPart) (parts : List HistoryPart)
    (other : List ℕ) → AreInOrder (part ∷ parts)
    → text_at time (dated_listings (after_part before part) parts) (after_part before part)
    ≡ text_after (count_by time parts) (after_part before part) parts (after_part before part)
    → text_at time (dated_listings before (part ∷ parts)) other
    ≡ text_after (count_by time (part ∷ parts)) before (part ∷ parts) other
one_more time before part parts other order rest = ⊎_elim
    (λ (later : time < part.header.time).
    rw (lt-leb part.header.time time later)
    (rw (none_began time (after_part before part) parts
    (λ k d within. omega (arith, later, order 0 (suc k) d (omega arith) (omega arith)))) refl))
    (λ (begun : part.header.time ≤ time).
    let text = after_part before part in
    let count = count_by time parts in
    let listing : DatedListing = record { since = part.header.time; text = text } in
    rw (le-leb part.header.time time begun)
    (text_or (last_begun (λ (l : DatedListing). l.since) time (dated_listings text parts)) listing
    other
    ∙ rest
    ∙ none_or count text parts
    ∙ sym (ap (λ n. text_after n before (part ∷ parts) other) (let next : 1 + count ≡ suc count =
    omega arith in next) ∙ one_first count before part parts other)))
    (cases_lt time part.header.time)

by_count : (time : ℕ) (before : List ℕ) (parts : List HistoryPart) (other : List ℕ)
    → AreInOrder parts → text_at time (dated_listings before parts) other
    ≡ text_after (count_by time parts) before parts other
by_count time before [] other order = refl
by_count time before (part ∷ parts) other order =
    one_more time before part parts other order
    (by_count time (after_part before part) parts (after_part before part)
    (rest_in_order part parts order))

-- the law
pub is_last_listing : (parts : List HistoryPart) (time : ℕ) → AreInOrder parts
    → listing_at (Some time) parts ≡ last_listing time parts
is_last_listing parts time order = sym (by_count time [] parts (before_all parts) order)
