-- Symbols that are gone through by the numbers of their names, from the last one on.
use Rattle.command_listings.proofs.Words.{IfSome, ◌≡◌, ◌∙◌, ◌-◌, ◌<◌, ◌≤◌, ◌∷◌, ◌||◌, ℕ, zero, suc}
use Rattle.command_listings.proofs.Words.{Bool, true, false, List, [], Option, Some, None}
use Rattle.command_listings.proofs.Words.{and_parts, ap, arith, bytes_eq-Decides, inl, inr, ◌⊎◌}
use Rattle.command_listings.proofs.Words.{cond, eqb-true, false_from_ne_true, get_or, length}
use Rattle.command_listings.proofs.Words.{list_any, option_map_or, or-false, or-true, refl}
use Rattle.command_listings.proofs.Words.{slice_get, subst, sym, take, unwrap_or, CatalogEntries}
use Rattle.command_listings.proofs.Words.{SymbolEntry}
use Rattle.facts.proofs.Options.{Some_ne_None}
use Rattle.std.proofs.Math.Bool.{or_assoc}
use Rattle.std.proofs.lemmas.Bool.{cond_both, eq-eqb, true≢false}
use Rattle.std.proofs.lemmas.Grind.{get_or_default_zero}
use Rattle.command_listings.specs.KernelNames.{AreLinked, Links, behind_last, has_number}
use Rattle.command_listings.specs.NameFilters.{number_of}
use Rattle.command_listings.specs.Sizes.{has_name, has_size_at, is_sized}

-- ---- the place behind the last symbol of a number

abbrev is_here : List SymbolEntry → ℕ → ℕ → Bool
is_here symbols n k = option_map_or (has_number n) (slice_get symbols k) false

pub behind_within : (symbols : List SymbolEntry) (n k : ℕ) → behind_last symbols n k ≤ k
behind_within symbols n zero = omega arith
behind_within symbols n (suc k) = cond_both (is_here symbols n k) (suc k) (behind_last symbols n k)
    (λ m. m ≤ suc k) (λ _. omega arith) (λ _. omega (arith, behind_within symbols n k))

pub behind_ends : (symbols : List SymbolEntry) (n k : ℕ)
    → behind_last symbols n k ≡ behind_last symbols n (behind_last symbols n k)
behind_ends symbols n zero = refl
behind_ends symbols n (suc k) = cond_both (is_here symbols n k) (suc k) (behind_last symbols n k)
    (λ m. m ≡ behind_last symbols n m) (λ yes. rw yes refl) (λ _. behind_ends symbols n k)

-- the symbol before such a place has the number
at_end : (symbols : List SymbolEntry) (n k : ℕ) → suc k ≡ behind_last symbols n (suc k)
    → is_here symbols n k ≡ true
at_end symbols n k is = elim (is_here symbols n k) as (λ b.
    suc k ≡ cond b (suc k) (behind_last symbols n k) → b ≡ true) [
      | true ↦ λ _. refl
      | false ↦ λ low. absurd (omega (arith, low, behind_within symbols n k))
    ] is

has_its_number : (symbols : List SymbolEntry) (n end : ℕ) (s : SymbolEntry) → 0 < end
    → end ≡ behind_last symbols n end → slice_get symbols (end - 1) ≡ Some s → number_of s.name ≡ n
has_its_number symbols n zero s some is at = absurd (omega arith)
has_its_number symbols n (suc k) s some is at =
    let less : suc k - 1 ≡ k = omega arith in
    eqb-true (number_of s.name) n (ap (λ o. option_map_or (has_number n) o false)
    (sym at ∙ ap (slice_get symbols) less) ∙ at_end symbols n k is)

-- ---- symbols that are passed over

one_more : (test : SymbolEntry → Bool) (symbols : List SymbolEntry) (k : ℕ) (s : SymbolEntry)
    → slice_get symbols k ≡ Some s
    → list_any test (take (suc k) symbols) ≡ (list_any test (take k symbols) || test s)
one_more test [] k s is = absurd (Some_ne_None s (sym is))
one_more test (x ∷ xs) zero s is = ap (λ o. test (unwrap_or o x) || false) is ∙ or-false (test s)
one_more test (x ∷ xs) (suc k) s is = ap (λ b. test x || b) (one_more test xs k s is)
    ∙ sym (or_assoc (test x) (list_any test (take k xs)) (test s))

none_more : (symbols : List SymbolEntry) (k : ℕ) → slice_get symbols k ≡ None
    → take (suc k) symbols ≡ take k symbols
none_more [] zero is = refl
none_more [] (suc k) is = refl
none_more (x ∷ xs) zero is = absurd (Some_ne_None x is)
none_more (x ∷ xs) (suc k) is = ap (λ l. x ∷ l) (none_more xs k is)

module _ (test : SymbolEntry → Bool) (n : ℕ)
    (numbered : (s : SymbolEntry) → test s ≡ true → has_number n s ≡ true) where
  passed_over : (symbols : List SymbolEntry) (k : ℕ)
      → list_any test (take k symbols) ≡ list_any test (take (behind_last symbols n k) symbols)
  passed_over symbols zero = refl
  passed_over symbols (suc k) = step (passed_over symbols k) (slice_get symbols k) refl
    where
      step : list_any test (take k symbols) ≡ list_any test (take (behind_last symbols n k) symbols)
          → (o : Option SymbolEntry) → slice_get symbols k ≡ o
          → list_any test (take (suc k) symbols) ≡ list_any test (take
          (cond (option_map_or (has_number n) o false) (suc k) (behind_last symbols n k)) symbols)
      step rest None is = ap (list_any test) (none_more symbols k is) ∙ rest
      step rest (Some s) is =
          cond_both (has_number n s) (suc k) (behind_last symbols n k) (λ m.
          list_any test (take (suc k) symbols) ≡ list_any test (take m symbols)) (λ _. refl)
          (λ other.
          one_more test symbols k s is
          ∙ ap (λ b. list_any test (take k symbols) || b)
          (false_from_ne_true (test s) (λ yes. true≢false (sym (numbered s yes) ∙ other)))
          ∙ or-false (list_any test (take k symbols)) ∙ rest)

  gone_back : (symbols : List SymbolEntry) (end : ℕ) (s : SymbolEntry) → 0 < end
      → slice_get symbols (end - 1) ≡ Some s → list_any test (take end symbols)
      ≡ (list_any test (take (behind_last symbols n (end - 1)) symbols) || test s)
  gone_back symbols zero s some at = absurd (omega arith)
  gone_back symbols (suc k) s some at =
      let less : suc k - 1 ≡ k = omega arith in
      rw less (one_more test symbols k s (ap (slice_get symbols) (sym less) ∙ at)
      ∙ ap (λ b. b || test s) (passed_over symbols k))

-- ---- those of a name, and of a size

named_so : (name : List ℕ) (s : SymbolEntry) → has_name name s ≡ true
    → has_number (number_of name) s ≡ true
named_so name s is =
    eq-eqb (number_of s.name) (number_of name) (ap number_of ((bytes_eq-Decides s.name name).0 is))

pub names_back : (symbols : List SymbolEntry) (name : List ℕ) (end : ℕ) (s : SymbolEntry) → 0 < end
    → slice_get symbols (end - 1) ≡ Some s
    → list_any (has_name name) (take end symbols)
    ≡ (list_any (has_name name) (take (behind_last symbols (number_of name) (end - 1)) symbols)
    || has_name name s)
names_back symbols name end s some at =
    gone_back (has_name name) (number_of name) (named_so name) symbols end s some at

pub sizes_back : (c : CatalogEntries) (symbols : List SymbolEntry) (name : List ℕ) (size end : ℕ)
    (s : SymbolEntry) → 0 < end → slice_get symbols (end - 1) ≡ Some s
    → list_any (is_sized c name size) (take end symbols) ≡ (list_any (is_sized c name size)
    (take (behind_last symbols (number_of name) (end - 1)) symbols) || is_sized c name size s)
sizes_back c symbols name size end s some at =
    gone_back (is_sized c name size) (number_of name)
    (λ s is. named_so name s (and_parts (has_name name s) (has_size_at c size s.addr) is).0)
    symbols end s some at

-- the place behind the symbol before one that has the number
pub next_back : (symbols : List SymbolEntry) (links : Links) → AreLinked symbols links
    → (n end : ℕ) (s : SymbolEntry) (next : ℕ) → 0 < end → end ≤ length symbols
    → end ≡ behind_last symbols n end → slice_get symbols (end - 1) ≡ Some s
    → next ≡ get_or links.before (end - 1) next → next ≡ behind_last symbols n (end - 1)
next_back symbols links linked n end s next some within ends at is =
    is ∙ get_or_default_zero links.before (end - 1) next
    (omega (arith, some, within, linked.places))
    ∙ subst (λ o. IfSome o (λ s. get_or links.before (end - 1) 0
    ≡ behind_last symbols (number_of s.name) (end - 1))) at (linked.before (end - 1))
    ∙ ap (λ m. behind_last symbols m (end - 1)) (has_its_number symbols n end s some ends at)

-- the place behind the last symbol that has the number
pub first_back : (symbols : List SymbolEntry) (links : Links) → AreLinked symbols links
    → (n end : ℕ) → n < 1048576 → end ≡ get_or links.last n end
    → end ≡ behind_last symbols n (length symbols)
first_back symbols links linked n end below is =
    is ∙ get_or_default_zero links.last n end (omega (arith, below, linked.numbers))
    ∙ linked.last n below

pub names_passed : (symbols : List SymbolEntry) (name : List ℕ) (k : ℕ)
    → list_any (has_name name) (take k symbols)
    ≡ list_any (has_name name) (take (behind_last symbols (number_of name) k) symbols)
names_passed symbols name k = passed_over (has_name name) (number_of name) (named_so name) symbols k

pub sizes_passed : (c : CatalogEntries) (symbols : List SymbolEntry) (name : List ℕ) (size k : ℕ)
    → list_any (is_sized c name size) (take k symbols)
    ≡ list_any (is_sized c name size) (take (behind_last symbols (number_of name) k) symbols)
sizes_passed c symbols name size k = passed_over (is_sized c name size) (number_of name) (λ s is.
    named_so name s (and_parts (has_name name s) (has_size_at c size s.addr) is).0) symbols k

-- a symbol more that has the name, or not
pub named_on : (all h h' x t : Bool) → all ≡ (h || (x || t))
    → ((t ≡ true) × (h' ≡ true)) ⊎ ((t ≡ false) × (h' ≡ h)) → all ≡ (h' || x)
named_on all h h' x t is (inl (has_it, now)) = is ∙ ap (λ b. h || (x || b)) has_it
    ∙ ap (λ b. h || b) (or-true x) ∙ or-true h ∙ ap (λ b. b || x) (sym now)
named_on all h h' x t is (inr (another, same)) = is ∙ ap (λ b. h || (x || b)) another
    ∙ ap (λ b. h || b) (or-false x) ∙ ap (λ b. b || x) (sym same)
