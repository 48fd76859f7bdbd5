-- Regions by rising address, with addresses between any two, are determined by what they hold.
use Rattle.modules.proofs.Words.{◌≡◌, ℕ, ◌<◌, ◌≤◌, suc, Bool, true, List, [], ◌∷◌, map, Option}
use Rattle.modules.proofs.Words.{Some, refl, ap, sym, ◌∙◌, arith, All, AllPairs, list_any}
use Rattle.modules.proofs.Words.{common_steps, nat_tests, ◌-◌, ◌^◌, false, option_map_or, bytes_eq}
use Rattle.modules.proofs.Words.{bytes_decides}
use Rattle.modules.proofs.Lemmas.{cases_lt, or_cases, or_left, or_right, All-head, All-tail}
use Rattle.modules.proofs.Definitions.{Accepted, kernel_regions, BoundNames, ListedSymbol, posts}
use Rattle.modules.proofs.Definitions.{PlacedModule, holds, HasItsRegions, IsFromSymbols, belongs}
use Rattle.modules.proofs.Definitions.{is_kept_line}

abbrev pub Range : Type 0
Range = ℕ × ℕ

pub inside : (r : Range) (x : ℕ) → holds r x ≡ true → (r.0 ≤ x) × (x < r.1)
inside r x h = (grind (arith, nat_tests), grind (arith, nat_tests))

pub within : (r : Range) (x : ℕ) → r.0 ≤ x → x < r.1 → holds r x ≡ true
within r x le lt = grind (arith, nat_tests)

-- the address lies in one of the regions
abbrev pub lies : List Range → ℕ → Bool
lies rs x = list_any (λ r. holds r x) rs

module _ {X : Type 0} (R : X → X → Type 0) (x : X) (xs : List X) where
  pub pairs_rest : AllPairs R (x ∷ xs) → AllPairs R xs
  pairs_rest pairs = λ i j d less lt. pairs (suc i) (suc j) d (omega arith) (omega arith)

  pub pairs_first : AllPairs R (x ∷ xs) → All (R x) xs
  pairs_first pairs = λ k d lt. pairs 0 (suc k) d (omega arith) (omega arith)

abbrev Before : Range → Range → Type 0
Before r s = r.1 < s.0

-- all addresses of regions that begin above one lie above it
above : (rs : List Range) (n x : ℕ) → All (λ s. n < s.0) rs → lies rs x ≡ true → n < x
above [] n x all h = absurd (cc)
above (s ∷ ss) n x all h = grind
    (arith, inside, or_cases, All-head, above ss n x (All-tail (λ (t : Range). n < t.0) s ss all))

module _ (r : Range) (rs : List Range) (s : Range) (ss : List Range) (r_valid : r.0 < r.1)
    (s_valid : s.0 < s.1) (r_last : All (λ t. r.1 < t.0) rs) (s_last : All (λ t. s.1 < t.0) ss)
    (sub : (x : ℕ) → lies (r ∷ rs) x ≡ true → lies (s ∷ ss) x ≡ true) where
  in_first : (x : ℕ) → r.0 ≤ x → x < r.1 → lies (s ∷ ss) x ≡ true
  in_first x le lt = sub x (or_left (holds r x) (lies rs x) (within r x le lt))

  first_ge : s.0 ≤ r.0
  first_ge = grind (
    arith,
    inside s r.0,
    above ss s.1 r.0 s_last,
    or_cases (holds s r.0) (lies ss r.0) (in_first r.0 (omega arith) r_valid),
    in_first r.0 (omega arith) r_valid,
  )

  end_le : r.0 ≡ s.0 → r.1 ≤ s.1
  end_le same = grind (
    arith,
    inside s s.1,
    above ss s.1 s.1 s_last,
    or_cases (holds s s.1) (lies ss s.1),
    in_first s.1 (omega arith),
    cases_lt s.1 r.1,
  )

  tail_sub : r.1 ≡ s.1 → (x : ℕ) → lies rs x ≡ true → lies ss x ≡ true
  tail_sub same x h = grind
      (arith, common_steps, nat_tests, above, inside, or_cases, or_right, above rs r.1 x r_last h)

pub same_regions : (rs ss : List Range) → All (λ r. r.0 < r.1) rs → AllPairs (λ r s. r.1 < s.0) rs
    → All (λ r. r.0 < r.1) ss → AllPairs (λ r s. r.1 < s.0) ss
    → ((x : ℕ) → lies rs x ≡ true → lies ss x ≡ true)
    → ((x : ℕ) → lies ss x ≡ true → lies rs x ≡ true) → rs ≡ ss
same_regions [] [] v g w f to from = refl
same_regions [] (s ∷ ss) v g w f to from =
    let no : lies [] s.0 ≡ true = from s.0 (or_left (holds s s.0) (lies ss s.0)
    (within s s.0 (omega arith) (All-head (λ (t : Range). t.0 < t.1) s ss w))) in
    absurd (cc)
same_regions (r ∷ rs) [] v g w f to from =
    let no : lies [] r.0 ≡ true = to r.0 (or_left (holds r r.0) (lies rs r.0)
    (within r r.0 (omega arith) (All-head (λ (t : Range). t.0 < t.1) r rs v))) in
    absurd (cc)
same_regions (r ∷ rs) (s ∷ ss) v g w f to from =
    let r_valid = All-head (λ (t : Range). t.0 < t.1) r rs v in
    let s_valid = All-head (λ (t : Range). t.0 < t.1) s ss w in
    let r_last = pairs_first Before r rs g in
    let s_last = pairs_first Before s ss f in
    let ge : s.0 ≤ r.0 = first_ge r rs s ss r_valid s_valid r_last s_last to in
    let le : r.0 ≤ s.0 = first_ge s ss r rs s_valid r_valid s_last r_last from in
    let start : r.0 ≡ s.0 = omega arith in
    let up : r.1 ≤ s.1 = end_le r rs s ss r_valid s_valid r_last s_last to start in
    let down : s.1 ≤ r.1 = end_le s ss r rs s_valid r_valid s_last r_last from (sym start) in
    let end : r.1 ≡ s.1 = omega arith in
    let same : r ≡ s = ap (λ n. (n, r.1)) start ∙ ap (λ n. (s.0, n)) end in
    ap (λ t. t ∷ rs) same
    ∙ ap (λ ts. s ∷ ts) (same_regions rs ss (All-tail (λ (t : Range). t.0 < t.1) r rs v) (pairs_rest
    Before r rs g) (All-tail (λ (t : Range). t.0 < t.1) s ss w) (pairs_rest Before s ss f)
    (tail_sub r rs s ss r_valid s_valid r_last s_last to end)
    (tail_sub s ss r rs s_valid r_valid s_last r_last from (sym end)))

pub one_module : (lines : List ListedSymbol) (m n : PlacedModule) → HasItsRegions lines m
    → HasItsRegions lines n → m.name ≡ n.name → m ≡ n
one_module lines m n p q name =
    let regions : m.regions ≡ n.regions =
    same_regions m.regions n.regions p.valid p.longest q.valid q.longest
    (λ x h. let (lt, is) = (p.exact x).0 h in (q.exact x).1 (lt, is ∙ ap Some name))
    (λ x h. let (lt, is) = (q.exact x).0 h in (p.exact x).1 (lt, is ∙ ap Some (sym name))) in
    grind (arith, common_steps, nat_tests, same_regions)

pub same_modules : (lines : List ListedSymbol) (ms ns : List PlacedModule) → map (λ m. m.name) ms
    ≡ map (λ m. m.name) ns → All (HasItsRegions lines) ms → All (HasItsRegions lines) ns → ms ≡ ns
same_modules lines [] [] e p q = refl
same_modules lines (m ∷ ms) (n ∷ ns) e p q = grind (
  arith,
  same_modules lines ms ns,
  one_module lines m n (All-head (HasItsRegions lines) m ms p)
      (All-head (HasItsRegions lines) n ns q),
  All-head (HasItsRegions lines) m ms p,
  All-head (HasItsRegions lines) n ns q,
  All-tail (HasItsRegions lines) m ms p,
  All-tail (HasItsRegions lines) n ns q,
)
same_modules lines _ _ e p q = absurd (cc)

pub same_accepted : (names : Option BoundNames) (lines : List ListedSymbol) (a b : Accepted)
    → IsFromSymbols names lines a → IsFromSymbols names lines b → a ≡ b
same_accepted names lines a b p q =
    let modules : a.modules ≡ b.modules = same_modules (posts (kernel_regions names lines) lines)
    a.modules b.modules (p.named ∙ sym q.named) p.regions q.regions in
    grind (arith, common_steps, nat_tests, same_modules)

-- ---- what is kept by the regions is what is kept by the lines

pub named : (name : List ℕ) → bytes_eq name name ≡ true
named name = (bytes_decides name name).1 refl

pub is_of : (name : List ℕ) (o : Option (List ℕ)) → option_map_or (bytes_eq name) o false ≡ true
    → o ≡ Some name
is_of name o h = grind (arith, bytes_decides)

pub of_is : (name : List ℕ) (o : Option (List ℕ)) → o ≡ Some name
    → option_map_or (bytes_eq name) o false ≡ true
of_is name o e = rw e (named name)

pub kept_same : (lines : List ListedSymbol) (m : PlacedModule) (l : ListedSymbol)
    → HasItsRegions lines m → l.addr < 2 ^ 64 - 1 → l.owner ≡ Some m.name
    → belongs m l ≡ is_kept_line lines l
kept_same lines m l h lt own = grind (arith, named, of_is, is_of)
