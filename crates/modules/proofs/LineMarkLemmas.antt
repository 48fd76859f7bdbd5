-- The names of modules, their numbers, and the marks of the lines of runs.
use Rattle.modules.proofs.Words.{◌≡◌, ℕ, ◌≤◌, true, false, List, [], ◌∷◌, ◌++◌, length, map, Some}
use Rattle.modules.proofs.Words.{None, refl, arith, append_assoc, All, is_some}
use Rattle.modules.proofs.Words.{rules, common_steps, nat_tests, ◌<◌, cond, get_or, Option, sym}
use Rattle.modules.proofs.Words.{subst, ◌∙◌, Bor, bytes_decides, list_any, position_from}
use Rattle.modules.proofs.Words.{option_map_or, bytes_eq, Bool, ◌&&◌, ◌-◌, ◌^◌, not, nat_lt, ap}
use Rattle.modules.proofs.Lemmas.{All-append, All-map, take_more, take_all, or_left, or_right}
use Rattle.modules.proofs.Lemmas.{position_from-zero, length-map, map-append, list_any-append}
use Rattle.modules.proofs.Lemmas.{position-Some, position_from-new}
use Rattle.modules.proofs.Definitions.{SymbolEntry, line_marks, marks_of, number_for, number_in}
use Rattle.modules.proofs.Definitions.{symbol_marks, ListedSymbol, line_of, Mark, AreNamed}
use Rattle.modules.proofs.Definitions.{names_at, with_name, kernel_marks, mark_of, is_outside}
use Rattle.modules.proofs.Definitions.{lies_in_any}
use Rattle.modules.proofs.FilterLemmas.{all_of_filtered}
use Rattle.modules.proofs.ListingPartLemmas.{module_lines_that}
use Rattle.modules.proofs.SharedRunLemmas.{lines_of_shared-last}
use Rattle.modules.specs.ListingParts.{module_lines}
use Rattle.modules.specs.SharedRuns.{lines_of_one, lines_of_shared}
use Rattle.modules.specs.declared.shared_listings.SharedRun.{SharedRun}

-- the place of each name, once a name that was not there stands after the others
pub places_more : (items after : List (Bor (List ℕ))) (new : Bor (List ℕ)) (name : List ℕ) (k : ℕ)
    (o p : Option ℕ)
    → list_any (bytes_eq new.now) (names_at items) ≡ false → k ≡ length items
    → o ≡ position_from (bytes_eq name) 0 (names_at items)
    → p ≡ cond (bytes_eq new.now name) (Some k) o → after ≡ items ++ new ∷ []
    → p ≡ position_from (bytes_eq name) 0 (names_at after)
places_more items after new name k o p absent last was is more =
    grind (arith, map-append, position_from-new, length-map)

pub found_within : (names : List (List ℕ)) (name : List ℕ) (k : ℕ)
    → position_from (bytes_eq name) 0 names ≡ Some k → k < length names
found_within names name k at =
    (position-Some (bytes_eq name) names k [] (position_from-zero (bytes_eq name) names ∙ at)).0

-- no number is above the count of the names
pub number_within : (names : List (List ℕ)) (owner : Option (List ℕ))
    → number_for names owner ≤ length names
number_within names None = omega arith
number_within names (Some name) = grind (arith, found_within)

-- ---- the names with one more

module _ (names : List (List ℕ)) where
  -- the module of a line is among these
  abbrev IsOwner : List (List ℕ) → Option (List ℕ) → Type 0
  IsOwner ns o = option_map_or (λ name. list_any (bytes_eq name) ns) o true ≡ true

  stays_owner : (name : List ℕ) (o : Option (List ℕ)) → IsOwner names o
      → IsOwner (with_name names name) o
  stays_owner name o is = grind (arith, common_steps, nat_tests, list_any-append, or_left)

  is_owner : (name : List ℕ) → IsOwner (with_name names name) (Some name)
  is_owner name =
      grind (arith, common_steps, nat_tests, list_any-append, or_right, or_left, bytes_decides)

  -- the modules of the lines of one run more
  pub named_more : (new : List (List ℕ)) (runs : List SharedRun) (run : SharedRun)
      → AreNamed names (lines_of_shared runs) → new ≡ with_name names run.module.now
      → AreNamed new (lines_of_shared (runs ++ run ∷ []))
  named_more new runs run named is =
      let name : List ℕ = run.module.now in
      let IsNamed = λ (l : ListedSymbol). IsOwner (with_name names name) l.owner in
      rw is (subst (λ (ls : List ListedSymbol). All IsNamed ls)
      (sym (lines_of_shared-last runs run))
      (All-append IsNamed (lines_of_shared runs) (lines_of_one run)
      (λ k d lt. stays_owner name (get_or (lines_of_shared runs) k d).owner (named k d lt))
      (All-map IsNamed (line_of (Some name)) run.symbols (λ k d lt. is_owner name))))

unowned : (names : List (List ℕ)) (o : Option (List ℕ)) → is_some o ≡ false
    → IsOwner names names o
unowned names None none = refl
unowned names (Some name) none = absurd (cc)

-- a listing's lines of modules have its modules
pub named_all : (names : List (List ℕ)) (lines : List ListedSymbol)
    → AreNamed names (module_lines lines) → AreNamed names lines
named_all names lines named =
    all_of_filtered (λ (l : ListedSymbol). IsOwner names names l.owner)
    (λ (l : ListedSymbol). is_some l.owner) (λ l none. unowned names l.owner none) lines named

outside_owned : (o : Option (List ℕ)) (b c : Bool) → (is_some o && b && c) ≡ true
    → is_some o ≡ true
outside_owned None b c h = absurd (cc)
outside_owned (Some name) b c h = refl

-- the number of the owner of a mark is at most the count of the names
pub owners_within : (kernel : List (ℕ × ℕ)) (names : List (List ℕ)) (lines : List ListedSymbol)
    → All (λ m. m.owner ≤ length names) (marks_of kernel names lines)
owners_within kernel names lines = search (rules, All-append, All-map, number_within)

module _ (kernel : List (ℕ × ℕ)) (names : List (List ℕ)) where
  -- the lines of a run have the number of its module
  pub marks_of_run : (name : List ℕ) (ss : List SymbolEntry)
      → line_marks kernel names (map (line_of (Some name)) ss)
      ≡ symbol_marks kernel (number_in names name) ss
  marks_of_run name [] = refl
  marks_of_run name (s ∷ ss) = grind (arith, marks_of_run name ss)

  -- one run more
  pub marks_more : (runs : List SharedRun) (run : SharedRun) (marks new : List Mark)
      → marks ≡ marks_of kernel names (lines_of_shared runs)
      → new ≡ marks ++ line_marks kernel names (lines_of_one run)
      → new ≡ marks_of kernel names (lines_of_shared (runs ++ run ∷ []))
  marks_more runs run marks new before pushed =
      grind (arith, append_assoc, lines_of_shared-last, common_steps, nat_tests)

  -- a listing's lines of modules have its marks
  pub marks_of_modules : (lines : List ListedSymbol)
      → marks_of kernel names (module_lines lines) ≡ marks_of kernel names lines
  marks_of_modules lines = ap (λ ls. kernel_marks kernel ++ map (mark_of names) ls)
      (module_lines_that (is_outside kernel) (λ l passes. outside_owned l.owner
      (not (lies_in_any kernel l.addr)) (nat_lt l.addr (2 ^ 64 - 1)) passes) lines)

-- one run more
pub ruleset one_run_more = (take_more, take_all, marks_more)
