-- Where a symbol is kept, and one more run of symbol lines.
use Rattle.modules.proofs.Words.{◌≡◌, ◌≢◌, ℕ, ◌<◌, Bool, false, ◌&&◌, List, ◌++◌, length, get_or}
use Rattle.modules.proofs.Words.{map, Some, None, Option, refl, sym, ap, ◌∙◌, ⊎_elim, arith, filter}
use Rattle.modules.proofs.Words.{position_from, option_map_or, bytes_eq, is_some, All}
use Rattle.modules.proofs.Words.{common_steps, nat_tests, [], ◌∷◌, true, bytes_decides}
use Rattle.modules.proofs.Lemmas.{cases_eq, map-append, append-nil, filter-append, list_any_at}
use Rattle.modules.proofs.Lemmas.{cases_order, false_from_ne_true, and_left, flat_map-append}
use Rattle.modules.proofs.Lemmas.{position_from-zero, get_or-map, length-map, position-Some}
use Rattle.modules.proofs.Lemmas.{is_some-position_from, get_or-set_at, get_or-set_other, set}
use Rattle.modules.proofs.Lemmas.{get_or_default, length-set}
use Rattle.modules.proofs.FilterLemmas.{filter_within}
use Rattle.modules.proofs.Definitions.{Accepted, names_of, SymbolEntry, AreDistinctNames, belongs}
use Rattle.modules.proofs.Definitions.{symbols_that, entry_of, lies_in, line_of, ListedSymbol}
use Rattle.modules.proofs.Definitions.{PlacedModule, GatheredSymbols, SharedRun, Gathers}
use Rattle.modules.specs.Gathering.{gathered_in, kept_by, KeepsFor, KeepsRun}
use Rattle.modules.specs.ListingParts.{module_lines}
use Rattle.modules.specs.SharedRuns.{lines_of_one, lines_of_shared}
use Rattle.modules.specs.declared.gathering.GatheredSymbols.TheVariants.{Nothing}

name_at : (lines : List PlacedModule) (j : ℕ) (m : PlacedModule) → j < length lines
    → get_or (names_of lines) j [] ≡ (get_or lines j m).name
name_at lines j m lt = get_or-map (λ (l : PlacedModule). l.name) lines j m [] lt

-- a name that has no place is the name of no module
pub no_home : (a : Accepted) (s : ListedSymbol) (name : List ℕ) → s.owner ≡ Some name
    → position_from (bytes_eq name) 0 (names_of a.modules) ≡ None → (j : ℕ) (m : PlacedModule)
    → j < length a.modules → belongs (get_or a.modules j m) s ≡ false
no_home a s name owner absent j m lt = grind (
  arith,
  false_from_ne_true,
  list_any_at,
  length-map,
  name_at,
  and_left,
  is_some-position_from (bytes_eq name) 0 (names_of a.modules),
)

-- the place of a name
pub place_within : (lines : List PlacedModule) (name : List ℕ) (k : ℕ)
    → position_from (bytes_eq name) 0 (names_of lines) ≡ Some k
    → (k < length lines) × ((m : PlacedModule) → bytes_eq name (get_or lines k m).name ≡ true)
place_within lines name k at =
    let found = position-Some (bytes_eq name) (names_of lines) k []
    (position_from-zero (bytes_eq name) (names_of lines) ∙ at) in
    grind (arith, common_steps, nat_tests, position-Some, position_from-zero, length-map, name_at)

-- names are distinct, so that a symbol belongs to the module of its name or to none
pub only_home : (a : Accepted) (s : ListedSymbol) (name : List ℕ) (k : ℕ)
    → AreDistinctNames (names_of a.modules) → s.owner ≡ Some name
    → position_from (bytes_eq name) 0 (names_of a.modules) ≡ Some k → (j : ℕ) (m : PlacedModule)
    → j < length a.modules → j ≢ k → belongs (get_or a.modules j m) s ≡ false
only_home a s name k distinct owner at j m lt other =
    let found = position-Some (bytes_eq name) (names_of a.modules) k []
    (position_from-zero (bytes_eq name) (names_of a.modules) ∙ at) in
    grind (
      arith,
      position-Some,
      position_from-zero,
      bytes_decides,
      length-map,
      cases_order,
      false_from_ne_true,
      name_at,
      and_left,
    )

-- of the lines of a module, where a test of a line is one of its symbol
pub that_run : (p : ListedSymbol → Bool) (q : SymbolEntry → Bool) (o : Option (List ℕ))
    → ((s : SymbolEntry) → p (line_of o s) ≡ q s) → (ss : List SymbolEntry)
    → symbols_that p (map (line_of o) ss) ≡ filter q ss
that_run p q o is [] = refl
that_run p q o is (s ∷ ss) = grind (arith, that_run p q o is ss)

pub that_none : (p : ListedSymbol → Bool) (o : Option (List ℕ))
    → ((s : SymbolEntry) → p (line_of o s) ≡ false) → (ss : List SymbolEntry)
    → symbols_that p (map (line_of o) ss) ≡ []
that_none p o none [] = refl
that_none p o none (s ∷ ss) = grind (arith, that_none p o none ss)

-- a line of an accepted module is kept where its regions have it
pub belongs_there : (a : Accepted) (name : List ℕ) (k : ℕ)
    → position_from (bytes_eq name) 0 (names_of a.modules) ≡ Some k
    → (m : PlacedModule) (s : SymbolEntry)
    → belongs (get_or a.modules k m) (line_of (Some name) s) ≡ lies_in (get_or a.modules k m) s.addr
belongs_there a name k at m s = grind (arith, place_within)

pub that-append : (p : ListedSymbol → Bool) (xs ys : List ListedSymbol)
    → symbols_that p (xs ++ ys) ≡ symbols_that p xs ++ symbols_that p ys
that-append p xs ys =
    ap (map entry_of) (filter-append p xs ys) ∙ map-append entry_of (filter p xs) (filter p ys)

-- what the lines of a run add to the list of each module
record Adds (a : Accepted) (name : List ℕ) (ss : List SymbolEntry)
    (g h : List GatheredSymbols) : Type 0 where
  pub lists : length h ≡ length g
  pub each : (j : ℕ) (d : GatheredSymbols) (m : PlacedModule) → j < length a.modules
      → gathered_in (get_or h j d) ≡ gathered_in (get_or g j d)
      ++ symbols_that (belongs (get_or a.modules j m)) (map (line_of (Some name)) ss)

-- a list to which nothing is put
stays : (p : ListedSymbol → Bool) (name : List ℕ) (ss es fs : List SymbolEntry)
    → ((s : SymbolEntry) → p (line_of (Some name) s) ≡ false) → fs ≡ es
    → fs ≡ es ++ symbols_that p (map (line_of (Some name)) ss)
stays p name ss es fs none same =
    same ∙ sym (append-nil es) ∙ ap (λ xs. es ++ xs) (sym (that_none p (Some name) none ss))

-- one to which the kept ones are put
grows : (p : ListedSymbol → Bool) (q : SymbolEntry → Bool) (name : List ℕ)
    (ss es fs : List SymbolEntry) → ((s : SymbolEntry) → p (line_of (Some name) s) ≡ q s)
    → fs ≡ es ++ filter q ss → fs ≡ es ++ symbols_that p (map (line_of (Some name)) ss)
grows p q name ss es fs is more =
    more ∙ ap (λ xs. es ++ xs) (sym (that_run p q (Some name) is ss))

run_adds : (a : Accepted) (name : List ℕ) (o : Option ℕ) (ss : List SymbolEntry)
    (g h : List GatheredSymbols) → AreDistinctNames (names_of a.modules)
    → position_from (bytes_eq name) 0 (names_of a.modules) ≡ o → KeepsFor a o ss g h
    → Adds a name ss g h
run_adds a name None ss g h distinct at keeps = record {
  lists = ap length keeps;
  each = λ j d m lt. stays (belongs (get_or a.modules j m)) name ss (gathered_in (get_or g j d))
      (gathered_in (get_or h j d))
      (λ s. no_home a (line_of (Some name) s) name refl at j m lt)
      (ap (λ (ls : List GatheredSymbols). gathered_in (get_or ls j d)) keeps);
}
run_adds a name (Some k) ss g h distinct at keeps = record {
  lists = (keeps (record { name = []; regions = []; parts = [] })).lists;
  each = λ j d m lt. ⊎_elim
      (λ same. grows (belongs (get_or a.modules j m)) (λ s. lies_in (get_or a.modules k m) s.addr)
      name ss (gathered_in (get_or g j d)) (gathered_in (get_or h j d))
      (λ s. ap (λ (i : ℕ). belongs (get_or a.modules i m) (line_of (Some name) s)) same
      ∙ belongs_there a name k at m s)
      (ap (λ (i : ℕ). gathered_in (get_or h i d)) same ∙ (keeps m).put d ∙ ap (λ (i : ℕ).
      gathered_in (get_or g i d) ++ kept_by (get_or a.modules k m) ss) (sym same)))
      (λ other. stays (belongs (get_or a.modules j m)) name ss (gathered_in (get_or g j d))
      (gathered_in (get_or h j d))
      (λ s. only_home a (line_of (Some name) s) name k distinct refl at j m lt other)
      (ap gathered_in ((keeps m).others j d other)))
      (cases_eq j k);
}

-- one run more
pub Gathers-run : (a : Accepted) (runs : List SharedRun) (r : SharedRun)
    (g h : List GatheredSymbols) → AreDistinctNames (names_of a.modules)
    → Gathers a (lines_of_shared runs) (map gathered_in g) → KeepsRun a r g h
    → Gathers a (lines_of_shared (runs ++ r ∷ [])) (map gathered_in h)
Gathers-run a runs r g h distinct before keeps =
    let adds = run_adds a r.module.now
    (position_from (bytes_eq r.module.now) 0 (names_of a.modules)) r.symbols g h distinct refl
    keeps in
    let same : length g ≡ length a.modules = sym (length-map g gathered_in) ∙ before.lists in
    record {
      lists = length-map h gathered_in ∙ adds.lists ∙ same;
      each = λ j d m lt.
          get_or-map gathered_in h j Nothing d (omega (arith, adds.lists, same))
          ∙ adds.each j Nothing m lt
          ∙ ap (λ es. es ++ symbols_that (belongs (get_or a.modules j m)) (lines_of_one r))
          (sym (get_or-map gathered_in g j Nothing d (omega (arith, same)))
          ∙ before.each j d m lt)
          ∙ sym (that-append (belongs (get_or a.modules j m)) (lines_of_shared runs)
          (lines_of_one r))
          ∙ ap (symbols_that (belongs (get_or a.modules j m)))
          (sym (flat_map-append lines_of_one runs (r ∷ [])
          ∙ ap (λ ls. lines_of_shared runs ++ ls) (append-nil (lines_of_one r))));
    }

-- the list at a place is written again
pub kept_at : (a : Accepted) (k : ℕ) (ss : List SymbolEntry) (g : List GatheredSymbols)
    (before new : GatheredSymbols) (owner : PlacedModule) → k < length g
    → k < length a.modules → before ≡ get_or g k before → owner ≡ get_or a.modules k owner
    → gathered_in new ≡ gathered_in before ++ kept_by owner ss
    → KeepsFor a (Some k) ss g (set g k new)
kept_at a k ss g before new owner within there was is put m = record {
  lists = length-set g k new;
  put = λ d. ap gathered_in (get_or-set_at g k k new d refl within)
      ∙ put
      ∙ ap (λ (x : GatheredSymbols). gathered_in x ++ kept_by owner ss)
      (was ∙ get_or_default g k before d within)
      ∙ ap (λ (o : PlacedModule). gathered_in (get_or g k d) ++ kept_by o ss)
      (is ∙ get_or_default a.modules k owner m there);
  others = λ j d other. get_or-set_other g k j new d other;
}

-- no lines leave nothing
pub Gathers-nothing : (a : Accepted) (g : List GatheredSymbols) → length g ≡ length a.modules
    → All (λ x. gathered_in x ≡ []) g → Gathers a [] (map gathered_in g)
Gathers-nothing a g same none = record {
  lists = length-map g gathered_in ∙ same;
  each = λ j d m lt. get_or-map gathered_in g j Nothing d (omega (arith, same))
      ∙ none j Nothing (omega (arith, same));
}

-- the module of a name has a list
pub room_for : (a : Accepted) (name : List ℕ) (k : ℕ) (g : List GatheredSymbols)
    → length g ≡ length a.modules
    → position_from (bytes_eq name) 0 (names_of a.modules) ≡ Some k → k < length g
room_for a name k g same at = grind (arith, place_within)

belongs_owned : (o : Option (List ℕ)) (name : List ℕ) (b : Bool)
    → (option_map_or (λ n. bytes_eq n name) o false && b) ≡ true → is_some o ≡ true
belongs_owned None name b h = absurd (cc)
belongs_owned (Some n) name b h = refl

-- the lines of modules leave what all lines do
pub gathered_all : (a : Accepted) (lines : List ListedSymbol) (g : List (List SymbolEntry))
    → Gathers a (module_lines lines) g → Gathers a lines g
gathered_all a lines g gathers = record {
  lists = gathers.lists;
  each = λ j d m lt. gathers.each j d m lt
      ∙ ap (map entry_of) (filter_within (λ (l : ListedSymbol). is_some l.owner)
      (belongs (get_or a.modules j m)) (λ l passes. belongs_owned l.owner
      (get_or a.modules j m).name (lies_in (get_or a.modules j m) l.addr) passes) lines);
}
