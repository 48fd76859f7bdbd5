-- Lines that are cut off.
use Rattle.histories.proofs.Words.{◌≡◌, ◌∙◌, ℕ, zero, suc, ◌+◌, ◌<◌, List, [], ◌∷◌, ◌++◌, None}
use Rattle.histories.proofs.Words.{Some, length, take, drop, sym, ap, arith, cond, append_assoc}
use Rattle.histories.proofs.Words.{onto_first, take-add, drop-drop, lines, without_end, header_of}
use Rattle.histories.proofs.Words.{body_of, first_bad, option_map_or, option_or, parts_of}
use Rattle.histories.proofs.Words.{time_text, later, Nowhere, Passes, is_byte}
use Rattle.texts.proofs.LineCutLemmas.{first_fails}
use Rattle.std.proofs.lemmas.List.{take_all, drop_all}
use Rattle.std.proofs.Common.{Bool, true, false, ◌&&◌, ◌==◌, not, nat_lt, Option, refl}
use Rattle.std.specs.Option.{option_and_then, option_map}
use Rattle.modules.specs.Listed.{ListedSymbol}
use Rattle.texts.specs.Lines.{longest_line}
use Rattle.listing.specs.ModuleListing.{is_gap}
use Rattle.listing.specs.SymbolListing.{address_in, owner_in_line, symbol_before, symbol_of_text}
use Rattle.listing.specs.SymbolListing.{symbol_with}
use Rattle.listing.proofs.SymbolLineLemmas.{cut_nowhere}
use Rattle.histories.specs.Grammar.{is_understood_after, may_follow}
use Rattle.histories.specs.ListingLines.{module_of}
use Rattle.histories.specs.declared.grammar.Header.{Header}

pub first_line : (xs : List ℕ) (k : ℕ) → k < length xs → Passes (is_byte 10) xs k
    → Nowhere (Passes (is_byte 10) xs) 0 k → lines xs ≡ take (k + 1) xs ∷ lines (drop (k + 1) xs)
first_line [] k h passes none = absurd (omega arith)
first_line (x ∷ xs) zero h passes none =
    ap (λ b. cond b ((x ∷ []) ∷ lines xs) (onto_first x (lines xs))) passes
first_line (x ∷ xs) (suc k) h passes none =
    let shift : suc (k + 1) ≡ suc k + 1 = omega arith in
    ap (λ b. cond b ((x ∷ []) ∷ lines xs) (onto_first x (lines xs)))
    (first_fails (is_byte 10) x xs (suc k) (omega arith) none)
    ∙ ap (onto_first x) (first_line xs k (omega arith) passes (later (is_byte 10) x xs k none))
    ∙ ap (λ n. take n (x ∷ xs) ∷ lines (drop n (x ∷ xs))) shift

last_line : (xs : List ℕ) → 0 < length xs → Nowhere (Passes (is_byte 10) xs) 0 (length xs)
    → lines xs ≡ xs ∷ []
last_line [] h none = absurd (omega arith)
last_line (x ∷ []) h none = ap (λ b. cond b ((x ∷ []) ∷ []) ((x ∷ []) ∷ []))
    (first_fails (is_byte 10) x [] 1 (omega arith) none)
last_line (x ∷ y ∷ ys) h none =
    ap (λ b. cond b ((x ∷ []) ∷ lines (y ∷ ys)) (onto_first x (lines (y ∷ ys))))
    (first_fails (is_byte 10) x (y ∷ ys) (length (x ∷ y ∷ ys)) (omega arith) none)
    ∙ ap (onto_first x)
    (last_line (y ∷ ys) (omega arith) (later (is_byte 10) x (y ∷ ys) (length (y ∷ ys)) none))

pub sole_line : (xs : List ℕ) → 0 < length xs → Nowhere (Passes (is_byte 10) xs) 0 (length xs)
    → lines xs ≡ take (length xs) xs ∷ lines (drop (length xs) xs)
sole_line xs h none =
    rw (take_all (length xs) xs (omega arith), drop_all (length xs) xs (omega arith))
    (last_line xs h none)

-- one line more that is no header
body_here : (line : List ℕ) (ls : List (List ℕ)) → header_of (without_end line) ≡ None
    → body_of (line ∷ ls) ≡ line ++ body_of ls
body_here line ls none = rw (none, body_of)

parts_here : (line : List ℕ) (ls : List (List ℕ)) → header_of (without_end line) ≡ None
    → parts_of (line ∷ ls) ≡ parts_of ls
parts_here line ls none = rw (none, parts_of)

pub body_more : (text rest : List ℕ) (i n : ℕ) → rest ≡ drop i text
    → lines rest ≡ take n rest ∷ lines (drop n rest) → header_of (without_end (take n rest)) ≡ None
    → take (i + n) text ++ body_of (lines (drop (i + n) text))
    ≡ take i text ++ body_of (lines (drop i text))
body_more text rest i n here is none =
    let line = take n rest in
    let more = lines (drop n rest) in
    let now : take (i + n) text ≡ take i text ++ line =
    take-add i n text ∙ ap (λ (r : List ℕ). take i text ++ take n r) (sym here) in
    let then : lines (drop (i + n) text) ≡ more =
    ap lines (sym (drop-drop n i text) ∙ ap (drop n) (sym here)) in
    rw (now, then) (append_assoc (take i text) line (body_of more))
    ∙ ap (λ (r : List ℕ). take i text ++ r) (sym (body_here line more none) ∙ ap body_of (sym is)
    ∙ ap (λ (r : List ℕ). body_of (lines r)) here)

pub parts_more : (text rest : List ℕ) (i n : ℕ) → rest ≡ drop i text
    → lines rest ≡ take n rest ∷ lines (drop n rest) → header_of (without_end (take n rest)) ≡ None
    → parts_of (lines (drop (i + n) text)) ≡ parts_of (lines (drop i text))
parts_more text rest i n here is none =
    let more = lines (drop n rest) in
    let then : lines (drop (i + n) text) ≡ more =
    ap lines (sym (drop-drop n i text) ∙ ap (drop n) (sym here)) in
    ap parts_of then ∙ sym (parts_here (take n rest) more none) ∙ ap parts_of (sym is)
    ∙ ap (λ (r : List ℕ). parts_of (lines r)) here

-- likewise of the first line that is not understood, if this one is
bad_here : (header : Header) (number : ℕ) (line : List ℕ) (ls : List (List ℕ))
    → header_of (without_end line) ≡ None → is_understood_after header (without_end line) ≡ true
    → first_bad (Some header) number (line ∷ ls) ≡ first_bad (Some header) (number + 1) ls
bad_here header number line ls none good =
    ap (λ h. cond (elim h [
      | Some next ↦ may_follow (Some header) next
      | None ↦ is_understood_after header (without_end line)
    ]) (first_bad (option_or h (Some header)) (number + 1) ls) (Some number)) none
    ∙ ap (λ b. cond b (first_bad (Some header) (number + 1) ls) (Some number)) good

pub bad_more : (header : Header) (number : ℕ) (text rest : List ℕ) (i n : ℕ) → rest ≡ drop i text
    → lines rest ≡ take n rest ∷ lines (drop n rest) → header_of (without_end (take n rest)) ≡ None
    → is_understood_after header (without_end (take n rest)) ≡ true
    → first_bad (Some header) (number + 1) (lines (drop (i + n) text))
    ≡ first_bad (Some header) number (lines (drop i text))
bad_more header number text rest i n here is none good =
    let more = lines (drop n rest) in
    let then : lines (drop (i + n) text) ≡ more =
    ap lines (sym (drop-drop n i text) ∙ ap (drop n) (sym here)) in
    ap (first_bad (Some header) (number + 1)) then
    ∙ sym (bad_here header number (take n rest) more none good)
    ∙ ap (first_bad (Some header) number) (sym is)
    ∙ ap (λ (r : List ℕ). first_bad (Some header) number (lines r)) here

-- a header, and what follows it
pub part_here : (header : Header) (text rest : List ℕ) (n : ℕ) → rest ≡ drop n text → lines text
    ≡ take n text ∷ lines (drop n text) → header_of (without_end (take n text)) ≡ Some header
    → parts_of (lines text) ≡ record {
      header = header;
      time_text = time_text (without_end (take n text));
      text = body_of (lines rest);
    } ∷ parts_of (lines rest)
part_here header text rest n here is some = rw (is, some, parts_of, here)

pub bad_after : (before : Option Header) (header : Header) (number : ℕ) (text rest : List ℕ) (n : ℕ)
    → rest ≡ drop n text → lines text ≡ take n text ∷ lines (drop n text)
    → header_of (without_end (take n text)) ≡ Some header → may_follow before header ≡ true
    → first_bad before number (lines text) ≡ first_bad (Some header) (number + 1) (lines rest)
bad_after before header number text rest n here is some follows =
    let line = take n text in
    let more = lines (drop n text) in
    ap (first_bad before number) is
    ∙ ap (λ h. cond (elim h [
      | Some next ↦ may_follow before next
      | None ↦ option_map_or (λ h. is_understood_after h (without_end line)) before false
    ]) (first_bad (option_or h before) (number + 1) more) (Some number)) some
    ∙ ap (λ b. cond b (first_bad (Some header) (number + 1) more) (Some number)) follows
    ∙ ap (λ (r : List ℕ). first_bad (Some header) (number + 1) (lines r)) (sym here)

-- ---- a line without a tab is of no module

of_kernel : (rest : List ℕ) (addr : ℕ) → option_and_then (λ owner. owner)
    (option_map (λ (s : ListedSymbol). s.owner) (symbol_with None rest addr)) ≡ None
of_kernel [] addr = refl
of_kernel (letter ∷ []) addr = refl
of_kernel (letter ∷ blank ∷ []) addr = refl
of_kernel (letter ∷ blank ∷ first ∷ name) addr =
    elim (not (is_gap letter) && blank == 32) as (λ b.
    option_and_then (λ owner. owner) (option_map (λ (s : ListedSymbol). s.owner) (cond b (Some
    (record { addr = addr; letter = letter; name = first ∷ name; owner = None })) None)) ≡ None)
    [ true ↦ refl | false ↦ refl ]

no_owner : (found : Option (ℕ × List ℕ)) → option_and_then (λ owner. owner) (option_map
    (λ (s : ListedSymbol). s.owner) (option_and_then (λ p. symbol_with None p.1 p.0) found)) ≡ None
no_owner None = refl
no_owner (Some p) = of_kernel p.1 p.0

pub without_tab : (line : List ℕ) → Nowhere (Passes (is_byte 9) line) 0 (length line)
    → None ≡ module_of line
without_tab line none =
    let found : Option (Option (List ℕ)) =
    option_map (λ (s : ListedSymbol). s.owner) (symbol_of_text None line) in
    let same : owner_in_line line ≡ cond (nat_lt longest_line (length line)) None found =
    ap (λ parts. cond (nat_lt longest_line (length line)) None
    (option_map (λ (s : ListedSymbol). s.owner) (symbol_before parts line)))
    (cut_nowhere 9 line none) in
    sym (ap (option_and_then (λ owner. owner)) same
    ∙ by (nat_lt longest_line (length line)) found (no_owner (address_in line)))
  where
    by : (b : Bool) (found : Option (Option (List ℕ))) → option_and_then (λ owner. owner) found
        ≡ None → option_and_then (λ owner. owner) (cond b None found) ≡ None
    by true found none = refl
    by false found none = none
