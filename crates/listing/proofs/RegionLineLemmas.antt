-- What a line of a listing of regions is.
use Rattle.listing.proofs.Words.{cond, ◌≡◌, ℕ, ◌<◌, Bool, false, nat_lt, List, [], ◌∷◌, length}
use Rattle.listing.proofs.Words.{Some, None, Result, Ok, Err, MatchResult, inl, inr, refl, sym, ap}
use Rattle.listing.proofs.Words.{◌∙◌, subst, arith, All, IfOk, Vec, filter_map, cons_option}
use Rattle.listing.proofs.Words.{option_map_or, All-cons, region_fits, ListedRegion, words_of}
use Rattle.listing.proofs.Words.{number_of, Words}
use Rattle.std.proofs.Common.{true, map, Option}
use Rattle.modules.specs.declared.lines.Part.{Part}
use Rattle.texts.specs.declared.faults.LineFault.{LineFault}
use Rattle.texts.specs.declared.said.LineMeaning.{LineMeaning}
use Rattle.texts.specs.declared.said.LineMeaning.TheVariants.{Nothing, One, Bad}
use Rattle.listing.specs.RegionListing.{is_regions_header, part_of, regions_of_lines, region_by}
use Rattle.listing.specs.RegionListing.{region_of_parts, region_of_words}
use Rattle.texts.specs.Said.{entries_from, GivesInGrammar, is_passed_over, is_too_long}
use Rattle.texts.specs.Understood.{entry_by, AreSaidBy, IsFirstBadFrom}
use Rattle.listing.specs.RegionListing.{IsFirstBadRegion, IsRegionListingBy}
use Rattle.texts.proofs.UnderstoodLemmas.{are_entries}

-- ---- words of another number

pub region_short : (words : Words) → length words < 4
    → region_of_words (map (λ w. w.now) words) ≡ None
region_short (a ∷ b ∷ c ∷ d ∷ words) few = absurd (omega arith)
region_short _ few = refl

pub regions_too_long : (words : List (List ℕ)) → 4 < length words → region_of_words words ≡ None
regions_too_long (a ∷ b ∷ c ∷ d ∷ []) many = absurd (omega arith)
regions_too_long _ many = refl

-- ---- what is read is a region

abbrev IsFit : Option ListedRegion → Type 0
IsFit o = (r : ListedRegion) → o ≡ Some r → region_fits r ≡ true

none_fits : IsFit None
none_fits r e = absurd (cc)

placed_if : (b : Bool) (x : ListedRegion) → region_fits x ≡ b → IsFit (cond b (Some x) None)
placed_if true x is r e = let same : x ≡ r = cc in ap region_fits (sym same) ∙ is
placed_if false x is r e = absurd (cc)

parts_fit : (name : List ℕ) (part : Option Part) (base size : Option ℕ)
    → IsFit (region_of_parts name part base size)
parts_fit name (Some part) (Some base) (Some size) =
    let x : ListedRegion = record { name = name; part = part; base = base; size = size } in
    placed_if (region_fits x) x refl
parts_fit name _ _ _ = none_fits

named_fits : (b : Bool) (o : Option ListedRegion) → IsFit o → IsFit (cond b o None)
named_fits true o fit = fit
named_fits false o fit = none_fits

words_fit : (words : List (List ℕ)) → IsFit (region_of_words words)
words_fit (name ∷ part ∷ base ∷ size ∷ []) =
    named_fits (nat_lt 0 (length name))
    (region_of_parts name (part_of part) (number_of base) (number_of size))
    (parts_fit name (part_of part) (number_of base) (number_of size))
words_fit _ = none_fits

entry_in : LineMeaning ListedRegion → Option ListedRegion
entry_in said = elim said [ Nothing ↦ None | One entry ↦ Some entry | Bad ↦ None ]

said_fits : (long passed : Bool) (o : Option ListedRegion) → IsFit o
    → IsFit
    (entry_in (cond long Bad (cond passed Nothing (option_map_or (λ entry. One entry) o Bad))))
unfolding entry_in
said_fits false false (Some x) fit = fit
said_fits _ _ _ fit = none_fits

entry_fits : (line : List ℕ) → IsFit (entry_by region_by line)
unfolding entry_in
entry_fits line =
    said_fits (is_too_long line) (is_passed_over line) (region_by line) (words_fit (words_of line))

all_fit_with : (o : Option ListedRegion) (rs : List ListedRegion) → IsFit o
    → All (λ r. region_fits r ≡ true) rs
    → All (λ r. region_fits r ≡ true) (cons_option o rs)
all_fit_with None rs fit all = all
all_fit_with (Some x) rs fit all =
    All-cons (λ (r : ListedRegion). region_fits r ≡ true) x rs (fit x refl) all

all_fit : (lines : List (List ℕ))
    → All (λ r. region_fits r ≡ true) (filter_map (entry_by region_by) lines)
all_fit [] = λ k d below. absurd (omega arith)
all_fit (line ∷ lines) = all_fit_with (entry_by region_by line)
    (filter_map (entry_by region_by) lines) (entry_fits line) (all_fit lines)

by_entries : (n : ℕ) (lines : List (List ℕ)) (said : Result (List ListedRegion) ℕ)
    (rs : List ListedRegion)
    → MatchResult said (AreSaidBy region_by lines) (IsFirstBadFrom region_by n lines) → said ≡ Ok rs
    → All (λ r. region_fits r ≡ true) rs
by_entries n lines (Ok entries) rs (all, is) e =
    let same : entries ≡ rs = cc in
    subst (λ (xs : List ListedRegion). All (λ r. region_fits r ≡ true) xs) (sym is ∙ same)
    (all_fit lines)
by_entries n lines (Err number) rs bad e = absurd (cc)

pub regions_fit_given : (r : Result (Vec ListedRegion) LineFault) (n : ℕ) (lines : List (List ℕ))
    → GivesInGrammar (λ (v : Vec ListedRegion). v.items) r (entries_from region_by n lines)
    → IfOk r (λ v. All (λ x. region_fits x ≡ true) v.items)
regions_fit_given (Ok v) n lines is =
    by_entries n lines (entries_from region_by n lines) v.items (are_entries region_by n lines) is
regions_fit_given (Err fault) n lines is = tt

-- ---- a listing, line by line

with_regions : (first : List ℕ) (lines : List (List ℕ)) → is_regions_header first ≡ true
    → (r : Result (List ListedRegion) ℕ)
    → MatchResult r (AreSaidBy region_by lines) (IsFirstBadFrom region_by 2 lines)
    → MatchResult r (IsRegionListingBy (first ∷ lines)) (IsFirstBadRegion (first ∷ lines))
with_regions first lines e (Ok regions) all = (e, all)
with_regions first lines e (Err n) bad = inr (e, bad)

headed_by : (first : List ℕ) (lines : List (List ℕ)) (b : Bool) → is_regions_header first ≡ b
    → MatchResult (cond b (entries_from region_by 2 lines) (Err 1))
    (IsRegionListingBy (first ∷ lines)) (IsFirstBadRegion (first ∷ lines))
headed_by first lines true e =
    with_regions first lines e (entries_from region_by 2 lines) (are_entries region_by 2 lines)
headed_by first lines false e = inl (refl, e)

pub regions_by_lines : (lines : List (List ℕ))
    → MatchResult (regions_of_lines lines) (IsRegionListingBy lines) (IsFirstBadRegion lines)
regions_by_lines [] = refl
regions_by_lines (first ∷ lines) = headed_by first lines (is_regions_header first) refl
