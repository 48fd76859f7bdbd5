use Rattle.modules.proofs.Words.{◌≡◌, ◌+◌, ◌<◌, List, Option, sym, ap, subst, ◌∙◌, length}
use Rattle.modules.proofs.Words.{sum_by, arith, All, ◌++◌, option_to_list, flat_map}
use Rattle.modules.proofs.Words.{count_by, length-append}
use Rattle.modules.proofs.Definitions.{Accepted, names_in, names_of, built_in_with, IsSoundCatalog}
use Rattle.modules.proofs.Definitions.{AreDistinctNames, IsPlaced}
use Rattle.modules.proofs.Definitions.{is_built_in, is_kept, ListedSymbol, ModuleEntry}
use Rattle.modules.proofs.Definitions.{PlacedModule}
use Rattle.modules.proofs.Definitions.{AreModules, BoundNames, Gathers, SharedRun, SymbolEntry}
use Rattle.modules.proofs.Definitions.{symbols_that}
use Rattle.modules.proofs.SoundnessLemmas.{count_of_regions, module_names, valid_kernel}
use Rattle.modules.proofs.SoundnessLemmas.{IsSound-catalog_with}
use Rattle.modules.proofs.Lemmas.{count_by-le-length}
use Rattle.modules.proofs.MakingLemmas.{catalog_from, IsMade, kept_from, kernel_symbols}
use Rattle.modules.proofs.MakingLemmas.{lines_counted, made_by}
use Rattle.modules.specs.ListingParts.{ListingParts, parts_of}
use Rattle.modules.specs.SharedRuns.{listing_view, lines_of_shared}
use Rattle.modules.proofs.build.catalog_with.Goals as goal

pub built_in_module-requires : goal.built_in_module-requires
built_in_module-requires c =
    let a : Accepted = c.args.placed in
    subst (λ (x : Accepted). All (λ r. r.0 < r.1) x.built_in) (sym c.placed.view_is)
    (valid_kernel a.built_in (flat_map (λ (m : PlacedModule). m.regions) a.modules)
    c.requires.sound.apart.valid)

pub modules_from-requires : goal.modules_from-requires
modules_from-requires c = record {
  placed = subst (λ (x : Accepted). All IsPlaced x.modules) (sym c.placed.view_is)
      c.requires.sound.placed;
  same = c.in_ok-tables.ensures.lists
      ∙ ap (λ (x : Accepted). length x.modules) (sym c.placed.view_is);
}

-- what was made, by any listing with these parts
made_from : (a b : Accepted) (p q : ListingParts) (runs : List SharedRun)
    (names : Option BoundNames)
    (lines : List ListedSymbol) (g : List (List SymbolEntry)) (made : List ModuleEntry)
    → b ≡ a → p ≡ q → lines_of_shared runs ≡ p.lines → q ≡ parts_of names lines
    → AreDistinctNames (names_of a.modules) → Gathers a (lines_of_shared runs) g
    → AreModules b.modules g made → IsMade a lines made
made_from a b p q runs names lines g made placed view listed is distinct gathers are =
    made_by a p names lines (view ∙ is) g made distinct
    (subst (λ (ls : List ListedSymbol). Gathers a ls g) listed gathers)
    (subst (λ (x : Accepted). AreModules x.modules g made) placed are)

pub sizes_of-regions-requires : goal.sizes_of-regions-requires
sizes_of-regions-requires c =
    let a : Accepted = c.args.placed in
    let p : ListingParts = listing_view c.listing.inside in
    let whole = c.listing.invariant in
    let is = made_from a _ p c.args.listing.now c.deref.result.now whole.names whole.listed
    c.in_ok-tables.tables.items c.in_ok-modules.modules.items c.placed.view_is c.listing.view_is
    (ap lines_of_shared c.deref.ensures.value) (sym c.listing.view_is ∙ whole.parts)
    c.requires.sound.distinct c.in_ok-tables.ensures c.in_ok-modules.ensures in
    let own : length c.as_slice-first.result.now
    ≡ length (symbols_that (is_built_in a.built_in) whole.listed) =
    ap length (c.as_slice-first.ensures ∙ c.table.ensures
    ∙ kernel_symbols a p whole.names whole.listed whole.parts
    (c.requires.kernel ∙ ap (λ (q : ListingParts). q.kernel) (sym c.listing.view_is))) in
    rw c.as_slice.ensures.value (record {
      regions = omega (
        arith,
        is.regions,
        length-append a.built_in (flat_map (λ (m : PlacedModule). m.regions) a.modules),
        c.requires.few,
      );
      symbols = omega (
        arith,
        is.kept,
        own,
        count_by-le-length (is_kept a) whole.listed,
        lines_counted a p whole.names whole.listed whole.parts,
        whole.counted,
        c.len-listed.ensures,
        ap (λ (q : ListingParts). q.kernel_lines + length q.lines) c.listing.view_is,
      );
    })

made_here : (c : goal.After-len) (names : Option BoundNames) (lines : List ListedSymbol)
    → c.args.listing.now ≡ parts_of names lines
    → IsMade c.args.placed lines c.in_ok-modules.modules.items
made_here c names lines is = made_from c.args.placed _ (listing_view c.listing.inside)
    c.args.listing.now c.deref.result.now names lines c.in_ok-tables.tables.items
    c.in_ok-modules.modules.items c.placed.view_is c.listing.view_is
    (ap lines_of_shared c.deref.ensures.value) is c.requires.sound.distinct c.in_ok-tables.ensures
    c.in_ok-modules.ensures

-- the kernel's symbols
own_here : (c : goal.After-len) (names : Option BoundNames) (lines : List ListedSymbol)
    → c.args.listing.now ≡ parts_of names lines
    → c.listing.inside.symbols ≡ symbols_that (is_built_in c.args.placed.built_in) lines
own_here c names lines is = kernel_symbols c.args.placed (listing_view c.listing.inside) names lines
    (c.listing.view_is ∙ is)
    (c.requires.kernel ∙ ap (λ (q : ListingParts). q.kernel) (sym c.listing.view_is))

-- how many symbols are kept, and how many lines there are
kept_here : (c : goal.After-len) (names : Option BoundNames) (lines : List ListedSymbol)
    → c.args.listing.now ≡ parts_of names lines
    → c.sizes_of-regions.result.1 ≡ count_by (is_kept c.args.placed) lines
kept_here c names lines is = omega (
  arith,
  rw c.as_slice.ensures.value at c.sizes_of-regions.ensures.symbols,
  (made_here c names lines is).kept,
  ap length (c.as_slice-first.ensures ∙ c.table.ensures ∙ own_here c names lines is),
)

listed_here : (c : goal.After-len) (names : Option BoundNames) (lines : List ListedSymbol)
    → c.args.listing.now ≡ parts_of names lines → c.len-listed.result ≡ length lines
listed_here c names lines is =
    c.len-listed.ensures ∙ lines_counted c.args.placed c.args.listing.now names lines is

pub overflow_sub-counts : goal.overflow_sub-counts
overflow_sub-counts c =
    let whole = c.listing.invariant in
    let is = sym c.listing.view_is ∙ whole.parts in
    omega (
      arith,
      kept_here c whole.names whole.listed is,
      count_by-le-length (is_kept c.args.placed) whole.listed,
      listed_here c whole.names whole.listed is,
    )

regions_here : (c : goal.After-len)
    → c.sizes_of-regions.result.0
    ≡ length (flat_map (λ (m : PlacedModule). m.regions) c.args.placed.modules)
regions_here c =
    let whole = c.listing.invariant in
    rw c.as_slice.ensures.value at c.sizes_of-regions.ensures.regions
    ∙ (made_here c whole.names whole.listed (sym c.listing.view_is ∙ whole.parts)).regions

kernel_here : (c : goal.After-len) → c.len-of_kernel.result ≡ length c.args.placed.built_in
kernel_here c = c.len-of_kernel.ensures ∙ c.placed.inside.built_in.ok.0
    ∙ ap (λ (x : Accepted). length x.built_in) c.placed.view_is

pub overflow_add-catalog : goal.overflow_add-catalog
overflow_add-catalog c = omega (
  arith,
  kernel_here c,
  regions_here c,
  length-append c.args.placed.built_in
      (flat_map (λ (m : PlacedModule). m.regions) c.args.placed.modules),
  c.requires.few,
)

-- the kernel itself, and the catalog
first_here : (c : goal.After-len) (names : Option BoundNames) (lines : List ListedSymbol)
    → c.args.listing.now ≡ parts_of names lines → c.in_ok-built_in.built_in
    ≡ built_in_with c.args.placed.built_in (symbols_that (is_built_in c.args.placed.built_in) lines)
first_here c names lines is = c.in_ok-built_in.ensures
    ∙ ap (λ (x : Accepted). built_in_with x.built_in c.listing.inside.symbols) c.placed.view_is
    ∙ ap (built_in_with c.args.placed.built_in) (own_here c names lines is)

pub invariant_of-catalog : goal.invariant_of-catalog
invariant_of-catalog c =
    let a : Accepted = c.args.placed in
    let whole = c.listing.invariant in
    let is = sym c.listing.view_is ∙ whole.parts in
    let made : List ModuleEntry = c.in_ok-modules.modules.items in
    let others = (made_here c whole.names whole.listed is).others in
    let first = first_here c whole.names whole.listed is in
    let built = catalog_from a whole.listed c.in_ok-built_in.built_in made first others in
    record {
      sound = subst IsSoundCatalog (sym built)
          (IsSound-catalog_with a whole.listed c.requires.sound);
      named = ap names_in others ∙ module_names whole.listed a.modules
          ∙ ap (λ (x : Accepted). names_of x.modules) (sym c.placed.view_is) ∙ c.placed.invariant;
      counted = ap (λ n. n + c.sizes_of-regions.result.0) (kernel_here c)
          ∙ ap (λ n. length a.built_in + n) (c.sizes_of-regions.ensures.regions
          ∙ ap (sum_by (λ (m : ModuleEntry). length m.regions)) c.as_slice.ensures.value)
          ∙ count_of_regions a.built_in
          (symbols_that (is_built_in a.built_in) whole.listed) made
          ∙ ap (λ (o : Option ModuleEntry). length
          (flat_map (λ (m : ModuleEntry). m.regions) (option_to_list o ++ made))) (sym first);
    }

pub returns : goal.returns
returns c = λ names lines is.
    let made = made_here c names lines is in (
      catalog_from c.args.placed lines c.in_ok-built_in.built_in c.in_ok-modules.modules.items
          (first_here c names lines is) made.others,
      kept_from c.args.placed lines c.in_ok-modules.modules.items c.len.result
          c.sizes_of-regions.result.0 c.sizes_of-regions.result.1 c.len-listed.result made.others
          (c.len.ensures ∙ c.in_ok-modules.modules.ok.0) (regions_here c)
          (kept_here c names lines is)
          (listed_here c names lines is),
    )
