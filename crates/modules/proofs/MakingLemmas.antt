-- The modules that are made of the accepted ones.
use Rattle.modules.proofs.Words.{refl, subst, is_none, nat_tests, common_steps, ◌≡◌, ℕ, zero, suc}
use Rattle.modules.proofs.Words.{◌+◌, ◌-◌, ◌<◌, List}
use Rattle.modules.proofs.Words.{[], ◌∷◌, ◌++◌, length, get_or, map, drop, Option, sym, ap, ◌∙◌}
use Rattle.modules.proofs.Words.{⊎_elim, arith, length-append, count_by, sum_by, flat_map}
use Rattle.modules.proofs.Lemmas.{cases_lt, count_by-either, get_or-map, get_or_append_left}
use Rattle.modules.proofs.Lemmas.{get_or_push, length-flat_map, length-map, same_lists}
use Rattle.modules.proofs.Lemmas.{slice_get_cases}
use Rattle.modules.proofs.Definitions.{Accepted, AreDistinctNames, names_of, AreModules, EachMade}
use Rattle.modules.proofs.Definitions.{module_with, built_in_with, catalog_with, entry_for}
use Rattle.modules.proofs.Definitions.{kept_counts, CatalogEntries, ModuleEntry, SymbolEntry}
use Rattle.modules.proofs.Definitions.{Gathers, is_kept, ListedSymbol, PlacedModule, BuildCounts}
use Rattle.modules.proofs.Definitions.{is_built_in, symbols_that}
use Rattle.modules.proofs.Definitions.{BoundNames}
use Rattle.modules.proofs.CountLemmas.{kept_in_lists}
use Rattle.modules.proofs.GatheringLemmas.{gathered_all}
use Rattle.modules.specs.ListingParts.{ListingParts, module_lines, parts_of}
use Rattle.modules.proofs.SoundnessLemmas.{module_regions}

pub EachMade-push : (places : List PlacedModule) (lists : List (List SymbolEntry))
    (modules : List ModuleEntry) (list : List SymbolEntry) (made : ModuleEntry)
    → length modules ≡ length lists → EachMade places lists modules
    → ((p : PlacedModule) → made ≡ module_with (get_or places (length lists) p) list)
    → EachMade places (lists ++ list ∷ []) (modules ++ made ∷ [])
EachMade-push places lists modules list made same each is =
    grind (arith, get_or_append_left, length-append, get_or_push, cases_lt)

-- with what was gathered for each, they are the accepted modules with their symbols
pub modules_are : (a : Accepted) (symbols : List ListedSymbol) (g : List (List SymbolEntry))
    (modules : List ModuleEntry) → Gathers a symbols g → AreModules a.modules g modules
    → modules ≡ map (entry_for symbols) a.modules
modules_are a symbols g modules gathers made =
    let none : PlacedModule = record { name = []; regions = []; parts = [] } in
    same_lists modules (map (entry_for symbols) a.modules)
    (made.same ∙ gathers.lists ∙ sym (length-map a.modules (entry_for symbols)))
    (λ k d lt.
    let listed : k < length g = omega (arith, made.same) in
    let within : k < length a.modules = omega (arith, gathers.lists) in
    ⊎_elim
    (λ (v, _, _, at).
    made.each k none v d listed
    ∙ ap (λ ss. module_with (get_or a.modules k none) ss) (gathers.each k v none within)
    ∙ sym (get_or-map (entry_for symbols) a.modules k none d within))
    (λ (past, _). absurd (omega arith))
    (slice_get_cases g k).1)

-- what the steps made is the catalog of these modules
pub catalog_from : (a : Accepted) (symbols : List ListedSymbol) (built_in : Option ModuleEntry)
    (made : List ModuleEntry)
    → built_in ≡ built_in_with a.built_in (symbols_that (is_built_in a.built_in) symbols)
    → made ≡ map (entry_for symbols) a.modules
    → ◌≡◌ {A = CatalogEntries} (record { built_in = built_in; modules = made })
    (catalog_with a symbols)
catalog_from a symbols built_in made first others = grind arith

-- what the modules that were made are, and how many regions and symbols they have
pub record IsMade (a : Accepted) (symbols : List ListedSymbol) (made : List ModuleEntry)
    : Type 0 where
  pub others : made ≡ map (entry_for symbols) a.modules
  pub regions : sum_by (λ m. length m.regions) made ≡ length (flat_map (λ m. m.regions) a.modules)
  pub kept : length (symbols_that (is_built_in a.built_in) symbols)
      + sum_by (λ m. length m.symbols) made ≡ count_by (is_kept a) symbols

pub made_of : (a : Accepted) (symbols : List ListedSymbol) (g : List (List SymbolEntry))
    (made : List ModuleEntry) → AreDistinctNames (names_of a.modules) → Gathers a symbols g
    → AreModules a.modules g made → IsMade a symbols made
made_of a symbols g made distinct gathers are =
    let others = modules_are a symbols g made gathers are in
    record {
      others = others;
      regions = rw others (sym (length-flat_map (λ (m : ModuleEntry). m.regions)
          (map (entry_for symbols) a.modules)) ∙ ap length (module_regions symbols a.modules));
      kept = rw others (kept_in_lists a symbols distinct);
    }

owned_or_not : (lines : List ListedSymbol)
    → count_by (λ (l : ListedSymbol). is_none l.owner) lines + length (module_lines lines)
    ≡ length lines
owned_or_not [] = refl
owned_or_not (l ∷ ls) = grind (arith, common_steps, owned_or_not ls)

-- ---- of a listing with these parts

module _ (a : Accepted) (p : ListingParts) (names : Option BoundNames)
    (lines : List ListedSymbol) (is : p ≡ parts_of names lines) where
  pub made_by : (g : List (List SymbolEntry)) (made : List ModuleEntry)
      → AreDistinctNames (names_of a.modules) → Gathers a p.lines g
      → AreModules a.modules g made → IsMade a lines made
  made_by g made distinct gathers are = made_of a lines g made distinct
      (gathered_all a lines g (subst (λ (ls : List ListedSymbol). Gathers a ls g)
      (ap (λ (q : ListingParts). q.lines) is) gathers)) are

  pub kernel_symbols : a.built_in ≡ p.kernel
      → p.symbols ≡ symbols_that (is_built_in a.built_in) lines
  kernel_symbols at =
      ap (λ (q : ListingParts). q.symbols) is
      ∙ ap (λ (k : List (ℕ × ℕ)). symbols_that (is_built_in k) lines)
      (sym (at ∙ ap (λ (q : ListingParts). q.kernel) is))

  pub lines_counted : p.kernel_lines + length p.lines ≡ length lines
  lines_counted =
      ap (λ (q : ListingParts). q.kernel_lines + length q.lines) is ∙ owned_or_not lines

-- what the steps counted are the counts of these modules
pub kept_from : (a : Accepted) (symbols : List ListedSymbol) (made : List ModuleEntry)
    (n regions kept listed : ℕ) → made ≡ map (entry_for symbols) a.modules → n ≡ length made
    → regions ≡ length (flat_map (λ m. m.regions) a.modules)
    → kept ≡ count_by (is_kept a) symbols → listed ≡ length symbols
    → ◌≡◌ {A = BuildCounts} (record {
      modules = n;
      double = 0;
      overlap = 0;
      regions = regions;
      stray_regions = 0;
      symbols = kept;
      stray = listed - kept;
    }) (kept_counts a symbols)
kept_from a symbols made n regions kept listed others many all is lines =
    grind (arith, common_steps, nat_tests, count_by-either, length-map)

-- ---- what is left of a list

pub drop_next : {X : Type 0} (xs rest : List X) (n : ℕ) (x : X) → drop n xs ≡ x ∷ rest
    → (n < length xs) × ((d : X) → get_or xs n d ≡ x) × (drop (suc n) xs ≡ rest)
drop_next [] rest zero x h = absurd (cc)
drop_next [] rest (suc n) x h = absurd (cc)
drop_next (y ∷ ys) rest zero x h =
    (omega arith, (λ d. let e : y ≡ x = cc in e), (let e : ys ≡ rest = cc in e))
drop_next (y ∷ ys) rest (suc n) x h = let (lt, at, left) = drop_next ys rest n x h in
    (omega arith, at, left)
