-- The parts of a listing, and of what a change makes of it.
use Rattle.modules.proofs.Words.{◌≡◌, ◌&&◌, ℕ, Bool, true, false, is_none, is_some, List, []}
use Rattle.modules.proofs.Words.{◌∷◌}
use Rattle.modules.proofs.Words.{◌++◌, length, map, refl, sym, ap, ◌∙◌, arith, filter, Option}
use Rattle.modules.proofs.Words.{Some, None, bytes_eq, option_map}
use Rattle.modules.proofs.Words.{common_steps, count_by, slice_get}
use Rattle.modules.proofs.Lemmas.{append-nil, filter-append, length-filter, length-map}
use Rattle.modules.proofs.FilterLemmas.{filter_none, filter_swap, filter_within, find_first}
use Rattle.modules.proofs.Definitions.{built_in_region, entry_of, first_address, is_built_in}
use Rattle.modules.proofs.Definitions.{kernel_regions, lies_in_any, symbols_that, BoundNames}
use Rattle.modules.proofs.Definitions.{ListedSymbol, SymbolEntry}
use Rattle.modules.specs.Lines.{start_bounds, text_bounds, usual_bounds}
use Rattle.modules.specs.ListingParts.{changed_lines, changed_parts, is_unnamed, module_lines}
use Rattle.modules.specs.ListingParts.{ListingParts, parts_of}

-- ---- of a listing

-- the kernel's symbols are those of its lines that lie in its regions
pub kernel_that : (kernel : List (ℕ × ℕ)) (lines : List ListedSymbol)
    → filter (λ (s : SymbolEntry). lies_in_any kernel s.addr)
    (symbols_that (λ (l : ListedSymbol). is_none l.owner) lines)
    ≡ symbols_that (is_built_in kernel) lines
kernel_that kernel [] = refl
kernel_that kernel (l ∷ ls) = grind (arith, common_steps, kernel_that kernel ls)

pub kernel_count : (lines : List ListedSymbol)
    → length (symbols_that (λ (l : ListedSymbol). is_none l.owner) lines)
    ≡ count_by (λ (l : ListedSymbol). is_none l.owner) lines
kernel_count lines = length-map (filter (λ (l : ListedSymbol). is_none l.owner) lines) entry_of
    ∙ length-filter (λ (l : ListedSymbol). is_none l.owner) lines

-- what was parted makes the parts
pub parts_made : (names : Option BoundNames) (lines : List ListedSymbol) (kernel : List (ℕ × ℕ))
    (own symbols : List SymbolEntry) (n : ℕ) (modules : List ListedSymbol)
    → kernel ≡ kernel_regions names lines
    → own ≡ symbols_that (λ (l : ListedSymbol). is_none l.owner) lines
    → symbols ≡ filter (λ (s : SymbolEntry). lies_in_any kernel s.addr) own → n ≡ length own
    → modules ≡ module_lines lines → ◌≡◌ {A = ListingParts} (record {
      kernel = kernel;
      symbols = symbols;
      kernel_lines = n;
      lines = modules;
    }) (parts_of names lines)
parts_made names lines kernel own symbols n modules is_kernel is_own are count of_modules =
    rw (
      are,
      count,
      of_modules,
      is_own,
      is_kernel,
      kernel_that (kernel_regions names lines) lines,
      kernel_count lines,
    )

-- a test that only lines of modules pass
pub module_lines_that : (p : ListedSymbol → Bool)
    → ((l : ListedSymbol) → p l ≡ true → is_some l.owner ≡ true) → (lines : List ListedSymbol)
    → filter p (module_lines lines) ≡ filter p lines
module_lines_that p h lines = filter_within (λ (l : ListedSymbol). is_some l.owner) p h lines

-- ---- after a change

module _ (named : List (List ℕ)) (added lines : List ListedSymbol) where
  abbrev after : List ListedSymbol
  after = changed_lines named added lines

  kernel_unnamed : (l : ListedSymbol) → l.owner ≡ None → is_unnamed named l ≡ true
  kernel_unnamed l none = rw none

  kernel_not_owned : (l : ListedSymbol) → l.owner ≡ None → is_some l.owner ≡ false
  kernel_not_owned l none = rw none

  -- a test that only lines of the kernel itself pass, passes the same
  same_for_kernel : (p : ListedSymbol → Bool) → ((l : ListedSymbol) → p l ≡ true → l.owner ≡ None)
      → filter p after ≡ filter p lines
  same_for_kernel p h =
      filter-append p (filter (is_unnamed named) lines) (module_lines added)
      ∙ ap (λ ls. ls ++ filter p (module_lines added))
      (filter_within (is_unnamed named) p (λ l passes. kernel_unnamed l (h l passes)) lines)
      ∙ ap (λ ls. filter p lines ++ ls)
      (filter_none (λ (l : ListedSymbol). is_some l.owner) p
      (λ l passes. kernel_not_owned l (h l passes)) added)
      ∙ append-nil (filter p lines)

  none_owner : (o : Option (List ℕ)) (b : Bool) → (is_none o && b) ≡ true → o ≡ None
  none_owner None b h = refl
  none_owner (Some name) b h = absurd (cc)

  is_none_owner : (o : Option (List ℕ)) → is_none o ≡ true → o ≡ None
  is_none_owner None h = refl
  is_none_owner (Some name) h = absurd (cc)

  same_first : (name : List ℕ) → first_address name after ≡ first_address name lines
  same_first name =
      let p : ListedSymbol → Bool = λ l. is_none l.owner && bytes_eq l.name name in
      ap (option_map (λ (l : ListedSymbol). l.addr)) (find_first p after
      ∙ ap (λ (ls : List ListedSymbol). slice_get ls 0)
      (same_for_kernel p (λ l passes. none_owner l.owner (bytes_eq l.name name) passes))
      ∙ sym (find_first p lines))

  same_region : (names : BoundNames) → built_in_region names after ≡ built_in_region names lines
  same_region names = rw (same_first names.start, same_first names.end)

  same_kernel : (names : Option BoundNames)
      → kernel_regions names after ≡ kernel_regions names lines
  same_kernel None =
      rw (same_region usual_bounds, same_region text_bounds, same_region start_bounds)
  same_kernel (Some names) = rw (same_region names)

  same_symbols : (kernel : List (ℕ × ℕ))
      → symbols_that (is_built_in kernel) after ≡ symbols_that (is_built_in kernel) lines
  same_symbols kernel = ap (map entry_of) (same_for_kernel (is_built_in kernel)
      (λ l passes. none_owner l.owner (lies_in_any kernel l.addr) passes))

  same_count : count_by (λ (l : ListedSymbol). is_none l.owner) after
      ≡ count_by (λ (l : ListedSymbol). is_none l.owner) lines
  same_count =
      let p : ListedSymbol → Bool = λ l. is_none l.owner in
      sym (length-filter p after)
      ∙ ap length (same_for_kernel p (λ l passes. is_none_owner l.owner passes))
      ∙ length-filter p lines

  -- the lines of modules after a change are those that a change of them leaves
  same_modules : module_lines after ≡ changed_lines named added (module_lines lines)
  same_modules =
      let owned : ListedSymbol → Bool = λ l. is_some l.owner in
      filter-append owned (filter (is_unnamed named) lines) (module_lines added)
      ∙ ap (λ ls. ls ++ filter owned (module_lines added))
      (filter_swap (is_unnamed named) owned lines)
      ∙ ap (λ ls. filter (is_unnamed named) (module_lines lines) ++ ls)
      (filter_within owned owned (λ l passes. passes) added)

  -- the parts after a change are the changed parts
  pub parts_changed : (names : Option BoundNames)
      → changed_parts named added (parts_of names lines) ≡ parts_of names after
  parts_changed names = rw (
    same_kernel names,
    same_symbols (kernel_regions names lines),
    same_count,
    same_modules,
  )
