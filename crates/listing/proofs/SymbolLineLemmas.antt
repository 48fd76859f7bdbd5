-- Lines of a listing of symbols: what is before a byte and after it, their addresses, and mapping
-- symbols among them.
use Rattle.listing.proofs.Words.{cond, ◌≡◌, ℕ, zero, suc, ◌+◌, ◌^◌, ◌<◌, Bool, false, ◌==◌, nat_lt}
use Rattle.listing.proofs.Words.{nat_le, List, [], ◌∷◌, ◌++◌, length, get_or, take, drop, Some}
use Rattle.listing.proofs.Words.{None, refl, ap, subst, ◌∙◌, arith, list_all, option_map}
use Rattle.listing.proofs.Words.{option_and_then, and_parts, get_or-take, length-take, take_rest}
use Rattle.listing.proofs.Words.{filter-append, AllPass-from_list_all, Nowhere, Passes, is_byte}
use Rattle.listing.proofs.Words.{ListedSymbol, numeral, first_fails, later, line_here, line_nowhere}
use Rattle.listing.proofs.Words.{split_here, split_nowhere, address_in, cut_at, is_mapping}
use Rattle.listing.proofs.Words.{symbols_with}
use Rattle.std.proofs.Common.{true, ◌&&◌}
use Rattle.std.specs.Char.{is_digit}
use Rattle.std.specs.Prelude.{not}
use Rattle.std.specs.Str.Parse.{digits_value}
use Rattle.facts.proofs.Digits.{digit_not_blank}
use Rattle.facts.proofs.Options.{cond-Some_true}

pub cut_here : (b : ℕ) (xs : List ℕ) (k : ℕ) → k < length xs → Passes (is_byte b) xs k
    → Nowhere (Passes (is_byte b) xs) 0 k → cut_at b xs ≡ Some (take k xs, drop (k + 1) xs)
cut_here b [] k h passes none = absurd (omega arith)
cut_here b (x ∷ xs) zero h passes none =
    ap (λ t. cond t (Some ([], xs)) (option_map (λ p. (x ∷ p.0, p.1)) (cut_at b xs))) passes
cut_here b (x ∷ xs) (suc k) h passes none =
    let shift : suc (k + 1) ≡ suc k + 1 = omega arith in
    ap (λ t. cond t (Some ([], xs)) (option_map (λ p. (x ∷ p.0, p.1)) (cut_at b xs)))
    (first_fails (is_byte b) x xs (suc k) (omega arith) none)
    ∙ ap (option_map (λ p. (x ∷ p.0, p.1)))
    (cut_here b xs k (omega arith) passes (later (is_byte b) x xs k none))
    ∙ ap (λ n. Some (x ∷ take k xs, drop n (x ∷ xs))) shift

pub cut_nowhere : (b : ℕ) (xs : List ℕ) → Nowhere (Passes (is_byte b) xs) 0 (length xs)
    → cut_at b xs ≡ None
cut_nowhere b [] none = refl
cut_nowhere b (x ∷ xs) none =
    ap (λ t. cond t (Some ([], xs)) (option_map (λ p. (x ∷ p.0, p.1)) (cut_at b xs)))
    (first_fails (is_byte b) x xs (length (x ∷ xs)) (omega arith) none)
    ∙ ap (option_map (λ p. (x ∷ p.0, p.1)))
    (cut_nowhere b xs (later (is_byte b) x xs (length xs) none))

-- of a text that is cut at a place
pub ruleset cut_texts = (cut_here, cut_nowhere, take_rest)

-- of lines that are cut off, or cut at each blank
pub ruleset cut_lines = (line_here, line_nowhere, split_here, split_nowhere, take_rest)

-- ---- an address of sixteen digits has no blank

all_digits : (digits : List ℕ) (a : ℕ) → numeral 16 16 digits ≡ Some a
    → list_all (λ c. is_digit c 16) digits ≡ true
all_digits digits a e =
    let passed = cond-Some_true (nat_lt 0 (length digits) && nat_le (length digits) 16
    && list_all (λ c. is_digit c 16) digits && nat_lt (digits_value 16 digits) (2 ^ 64))
    (digits_value 16 digits) a e in
    (and_parts _ _ (and_parts _ _ passed).0).1

pub usual_address : (text : List ℕ) (a : ℕ) → 16 < length text → get_or text 16 0 ≡ 32
    → numeral 16 16 (take 16 text) ≡ Some a → address_in text ≡ Some (a, drop 17 text)
usual_address text a long blank is =
    let digits = all_digits (take 16 text) a is in
    let none : Nowhere (Passes (is_byte 32) text) 0 16 = λ k low high passes.
    let within : k < length (take 16 text) = omega (arith, length-take 16 text) in
    let digit : is_digit (get_or (take 16 text) k 0) 16 ≡ true =
    AllPass-from_list_all (λ c. is_digit c 16) (take 16 text) digits k 0 within in
    digit_not_blank (get_or text k 0)
    (subst (λ c. is_digit c 16 ≡ true) (get_or-take 16 text k 0 high) digit) passes in
    let here : Passes (is_byte 32) text 16 = ap (λ c. c == 32) blank in
    let cut : cut_at 32 text ≡ Some (take 16 text, drop 17 text) =
    cut_here 32 text 16 long here none in
    ap (option_and_then
    (λ (p : List ℕ × List ℕ). option_map (λ addr. (addr, p.1)) (numeral 16 16 p.0))) cut
    ∙ ap (option_map (λ addr. (addr, drop 17 text))) is

-- ---- mapping symbols

pub with_joined : (with_mapping : Bool) (xs ys : List ListedSymbol)
    → symbols_with with_mapping (xs ++ ys)
    ≡ symbols_with with_mapping xs ++ symbols_with with_mapping ys
with_joined true xs ys = refl
with_joined false xs ys = filter-append (λ (s : ListedSymbol). not (is_mapping s.name)) xs ys
