-- The lines of modules in runs that catalogs share.
use Rattle.modules.proofs.Words.{◌≡◌, ℕ, ◌+◌, true, false, is_none, is_some, List, []}
use Rattle.modules.proofs.Words.{◌∷◌, ◌++◌, length, map, refl, sym, ap, ◌∙◌, arith, append_assoc}
use Rattle.modules.proofs.Words.{filter, Some, None, Bor, bytes_eq, list_any, option_copied}
use Rattle.modules.proofs.Words.{length-append}
use Rattle.modules.proofs.Lemmas.{append-nil, filter-append, flat_map-append, length-map}
use Rattle.modules.proofs.GatheringLemmas.{that-append, that_none}
use Rattle.modules.proofs.RunLemmas.{lines_of_all-last}
use Rattle.modules.proofs.Definitions.{line_of, lines_of_all, lines_of_run, symbols_that}
use Rattle.modules.proofs.Definitions.{ListedSymbol, Run, SymbolEntry}
use Rattle.modules.specs.ListingParts.{is_unnamed, module_lines}
use Rattle.modules.specs.SharedRuns.{IsParted, lines_of_one, lines_of_shared}
use Rattle.modules.specs.declared.shared_listings.PartedLines.{PartedLines}
use Rattle.modules.specs.declared.shared_listings.SharedRun.{SharedRun}

pub lines_of_shared-last : (runs : List SharedRun) (r : SharedRun)
    → lines_of_shared (runs ++ r ∷ []) ≡ lines_of_shared runs ++ lines_of_one r
lines_of_shared-last runs r = flat_map-append lines_of_one runs (r ∷ [])
    ∙ ap (λ ls. lines_of_shared runs ++ ls) (append-nil (lines_of_one r))

pub lines_of_shared-append : (runs more : List SharedRun)
    → lines_of_shared (runs ++ more) ≡ lines_of_shared runs ++ lines_of_shared more
lines_of_shared-append runs more = flat_map-append lines_of_one runs more

-- ---- a run of a listing

-- all lines of a module's run are of a module, and none of the kernel's own
pub run_owned : (name : List ℕ) (ss : List SymbolEntry)
    → module_lines (map (line_of (Some name)) ss) ≡ map (line_of (Some name)) ss
run_owned name [] = refl
run_owned name (s ∷ ss) = ap (λ ls. line_of (Some name) s ∷ ls) (run_owned name ss)

pub run_unowned : (ss : List SymbolEntry) → module_lines (map (line_of None) ss) ≡ []
run_unowned [] = refl
run_unowned (s ∷ ss) = run_unowned ss

pub run_of_kernel : (ss : List SymbolEntry)
    → symbols_that (λ (l : ListedSymbol). is_none l.owner) (map (line_of None) ss) ≡ ss
run_of_kernel [] = refl
run_of_kernel (s ∷ ss) = ap (λ es. s ∷ es) (run_of_kernel ss)

pub run_of_module : (name : List ℕ) (ss : List SymbolEntry)
    → symbols_that (λ (l : ListedSymbol). is_none l.owner) (map (line_of (Some name)) ss) ≡ []
run_of_module name ss =
    that_none (λ (l : ListedSymbol). is_none l.owner) (Some name) (λ s. refl) ss

-- a run that is taken
pub taken_owned : (r : Run) (m : Bor (List ℕ)) → r.module ≡ Some m
    → module_lines (lines_of_run r) ≡ map (line_of (Some m.now)) r.symbols.items
taken_owned r m is =
    ap (λ o. module_lines (map (line_of (option_copied o)) r.symbols.items)) is
    ∙ run_owned m.now r.symbols.items

pub taken_owned_kernel : (r : Run) (m : Bor (List ℕ)) → r.module ≡ Some m
    → symbols_that (λ (l : ListedSymbol). is_none l.owner) (lines_of_run r) ≡ []
taken_owned_kernel r m is =
    ap (λ o. symbols_that (λ (l : ListedSymbol). is_none l.owner)
    (map (line_of (option_copied o)) r.symbols.items)) is
    ∙ run_of_module m.now r.symbols.items

pub taken_unowned : (r : Run) → r.module ≡ None → module_lines (lines_of_run r) ≡ []
taken_unowned r is =
    ap (λ o. module_lines (map (line_of (option_copied o)) r.symbols.items)) is
    ∙ run_unowned r.symbols.items

pub taken_unowned_kernel : (r : Run) → r.module ≡ None
    → symbols_that (λ (l : ListedSymbol). is_none l.owner) (lines_of_run r) ≡ r.symbols.items
taken_unowned_kernel r is =
    ap (λ o. symbols_that (λ (l : ListedSymbol). is_none l.owner)
    (map (line_of (option_copied o)) r.symbols.items)) is
    ∙ run_of_kernel r.symbols.items

pub kernel_lines-last : (runs : List Run) (r : Run)
    → symbols_that (λ (l : ListedSymbol). is_none l.owner) (lines_of_all (runs ++ r ∷ []))
    ≡ symbols_that (λ (l : ListedSymbol). is_none l.owner) (lines_of_all runs)
    ++ symbols_that (λ (l : ListedSymbol). is_none l.owner) (lines_of_run r)
kernel_lines-last runs r =
    ap (symbols_that (λ (l : ListedSymbol). is_none l.owner)) (lines_of_all-last runs r)
    ∙ that-append (λ (l : ListedSymbol). is_none l.owner) (lines_of_all runs) (lines_of_run r)

pub module_lines-last : (runs : List Run) (r : Run)
    → module_lines (lines_of_all (runs ++ r ∷ []))
    ≡ module_lines (lines_of_all runs) ++ module_lines (lines_of_run r)
module_lines-last runs r =
    ap module_lines (lines_of_all-last runs r)
    ∙ filter-append (λ (l : ListedSymbol). is_some l.owner) (lines_of_all runs) (lines_of_run r)

-- one run more is parted
pub parted_more : (runs : List Run) (r : Run) (p q : PartedLines)
    → IsParted (lines_of_all runs) p
    → q.kernel.items
    ≡ p.kernel.items ++ symbols_that (λ (l : ListedSymbol). is_none l.owner) (lines_of_run r)
    → lines_of_shared q.runs.items
    ≡ lines_of_shared p.runs.items ++ module_lines (lines_of_run r)
    → IsParted (lines_of_all (runs ++ r ∷ [])) q
parted_more runs r p q before kernel more = record {
  kernel = kernel
      ∙ ap (λ es. es ++ symbols_that (λ (l : ListedSymbol). is_none l.owner) (lines_of_run r))
      before.kernel
      ∙ sym (kernel_lines-last runs r);
  runs = more
      ∙ ap (λ ls. ls ++ module_lines (lines_of_run r)) before.runs
      ∙ sym (module_lines-last runs r);
}

-- ---- the runs of modules that are not named

kept_run : (named : List (List ℕ)) (name : List ℕ) → list_any (bytes_eq name) named ≡ false
    → (ss : List SymbolEntry)
    → filter (is_unnamed named) (map (line_of (Some name)) ss) ≡ map (line_of (Some name)) ss
kept_run named name is [] = refl
kept_run named name is (s ∷ ss) = grind (arith, kept_run named name is ss)

dropped_run : (named : List (List ℕ)) (name : List ℕ) → list_any (bytes_eq name) named ≡ true
    → (ss : List SymbolEntry)
    → filter (is_unnamed named) (map (line_of (Some name)) ss) ≡ []
dropped_run named name is [] = refl
dropped_run named name is (s ∷ ss) = grind (arith, dropped_run named name is ss)

module _ (named : List (List ℕ)) where
  unnamed-last : (runs : List SharedRun) (r : SharedRun)
      → filter (is_unnamed named) (lines_of_shared (runs ++ r ∷ []))
      ≡ filter (is_unnamed named) (lines_of_shared runs)
      ++ filter (is_unnamed named) (lines_of_one r)
  unnamed-last runs r =
      ap (filter (is_unnamed named)) (lines_of_shared-last runs r)
      ∙ filter-append (is_unnamed named) (lines_of_shared runs) (lines_of_one r)

  -- a run more that is kept
  pub one_kept : (listed runs after old : List SharedRun) (r s : SharedRun)
      → list_any (bytes_eq r.module.now) named ≡ false → lines_of_one s ≡ lines_of_one r
      → after ≡ runs ++ s ∷ []
      → lines_of_shared runs
      ≡ lines_of_shared old ++ filter (is_unnamed named) (lines_of_shared listed)
      → lines_of_shared after
      ≡ lines_of_shared old ++ filter (is_unnamed named) (lines_of_shared (listed ++ r ∷ []))
  one_kept listed runs after old r s is same more before =
      ap lines_of_shared more
      ∙ lines_of_shared-last runs s
      ∙ ap (λ ls. ls ++ lines_of_one s) before
      ∙ append_assoc (lines_of_shared old)
      (filter (is_unnamed named) (lines_of_shared listed)) (lines_of_one s)
      ∙ ap (λ ls. lines_of_shared old ++ (filter (is_unnamed named) (lines_of_shared listed) ++ ls))
      (same ∙ sym (kept_run named r.module.now is r.symbols))
      ∙ ap (λ ls. lines_of_shared old ++ ls) (sym (unnamed-last listed r))

  -- and one that is not
  pub one_dropped : (listed runs old : List SharedRun) (r : SharedRun)
      → list_any (bytes_eq r.module.now) named ≡ true
      → lines_of_shared runs
      ≡ lines_of_shared old ++ filter (is_unnamed named) (lines_of_shared listed)
      → lines_of_shared runs
      ≡ lines_of_shared old ++ filter (is_unnamed named) (lines_of_shared (listed ++ r ∷ []))
  one_dropped listed runs old r is before =
      before
      ∙ ap (λ ls. lines_of_shared old ++ ls)
      (sym (append-nil (filter (is_unnamed named) (lines_of_shared listed)))
      ∙ ap (λ ls. filter (is_unnamed named) (lines_of_shared listed) ++ ls)
      (sym (dropped_run named r.module.now is r.symbols))
      ∙ sym (unnamed-last listed r))

-- one run more is counted
pub one_counted : (listed : List SharedRun) (r : SharedRun) (first count more : ℕ)
    → count ≡ first + length (lines_of_shared listed) → more ≡ count + length r.symbols
    → more ≡ first + length (lines_of_shared (listed ++ r ∷ []))
one_counted listed r first count more before is = omega (
  arith,
  before,
  is,
  ap length (lines_of_shared-last listed r),
  length-append (lines_of_shared listed) (lines_of_one r),
  length-map r.symbols (line_of (Some r.module.now)),
)
