-- Modules that a catalog has by name, and why it lacks a listed one.
use Rattle.listing.proofs.Words.{◌≡◌, ◌∙◌, ℕ, ◌+◌, Bool, false, cond, List, [], ◌∷◌, Some, None}
use Rattle.listing.proofs.Words.{refl, sym, ap, zero, suc, ◌<◌, ◌⊎◌, inl, inr, true≢false, ◌++◌}
use Rattle.listing.proofs.Words.{length, subst, arith, codes, is_some, fold, slice_index_or}
use Rattle.listing.proofs.Words.{list_any, position_from, option_map, option_map_or, bytes_eq}
use Rattle.listing.proofs.Words.{and-false, or-false, or_parts, or_left, or_right, ListedModule}
use Rattle.listing.proofs.Words.{ListedSymbol, BoundNames, ListedRegion, module_number_of}
use Rattle.listing.proofs.Words.{catalog_of, counts_of, entry_for, CatalogEntries, ModuleEntry}
use Rattle.listing.proofs.Words.{do_modules_overlap, has_module, has_name, is_left_out}
use Rattle.listing.proofs.Words.{is_listed_name, kernel_regions}
use Rattle.std.proofs.Common.{true, Option}
use Rattle.std.specs.Prelude.{◌&&◌, ◌||◌, Option, map, not}
use Rattle.std.proofs.lemmas.Slice.Eq.{bytes_eq-Decides}
use Rattle.facts.proofs.Tests.{is_some-position_from}
use Rattle.modules.specs.Names.{names_in}
use Rattle.facts.proofs.Bools.{or_assoc}
use Rattle.modules.specs.Accepted.{Accepted, accepted_of, after_module, names_of, none_yet}
use Rattle.modules.specs.Accepted.{taken_regions}
use Rattle.modules.specs.Placed.{PlacedModule, has_core, lines_named, placed_alone, placed_by}
use Rattle.modules.specs.Placed.{placed_line}
use Rattle.modules.specs.Regions.{are_beside, lie_apart}
use Rattle.modules.proofs.AdmissionLemmas.{after_accepted, after_double, after_overlap}

placed : (name : List ℕ) (modules : List ModuleEntry)
    → list_any (bytes_eq name) (names_in modules) ≡ list_any (λ m. has_name name (Some m)) modules
placed name [] = refl
placed name (m ∷ modules) = ap (λ b. bytes_eq name m.name || b) (placed name modules)

pub has_number : (c : CatalogEntries) (name : List ℕ) → bytes_eq name (codes "-") ≡ false
    → is_some (module_number_of c name) ≡ has_module c name
has_number c name other =
    let place = position_from (bytes_eq name) 0 (names_in c.modules) in
    ap (λ b. is_some (cond b (option_map (λ _. 0) c.built_in) (option_map (λ n. n + 1) place)))
    other
    ∙ mapped place ∙ is_some-position_from (bytes_eq name) 0 (names_in c.modules)
    ∙ placed name c.modules
  where
    mapped : (o : Option ℕ) → is_some (option_map (λ n. n + 1) o) ≡ is_some o
    mapped None = refl
    mapped (Some n) = refl

-- a listed name is none that is left out, where none of the modules is
not_named : (c : CatalogEntries) (name : List ℕ) (modules : List ListedModule)
    → list_any (λ m. is_left_out c m.name) modules ≡ false
    → (is_left_out c name && is_listed_name modules name) ≡ false
not_named c name [] none = and-false (is_left_out c name)
not_named c name (m ∷ modules) none =
    let parts =
    or_parts (is_left_out c m.name) (list_any (λ x. is_left_out c x.name) modules) none in
    elim (bytes_eq m.name name) as (λ b. bytes_eq m.name name ≡ b
    → (is_left_out c name && (b || is_listed_name modules name)) ≡ false) [
      | true ↦ λ e. ap (λ b. b && true)
          (ap (is_left_out c) (sym ((bytes_eq-Decides m.name name).0 e)) ∙ parts.0)
      | false ↦ λ e. not_named c name modules parts.1
    ] refl

none_by : (c : CatalogEntries) (modules : List ListedModule) (owner : Option (List ℕ))
    → list_any (λ m. is_left_out c m.name) modules ≡ false
    → option_map_or (λ name. is_left_out c name && is_listed_name modules name) owner false ≡ false
none_by c modules None none = refl
none_by c modules (Some name) none = not_named c name modules none

-- where no listed module is left out, no symbol names one that is
pub none_named : (c : CatalogEntries) (modules : List ListedModule) (symbols : List ListedSymbol)
    → list_any (λ m. is_left_out c m.name) modules ≡ false
    → do_modules_overlap modules symbols c ≡ false
none_named c modules [] none = refl
none_named c modules (s ∷ symbols) none =
    ap (λ b. b || do_modules_overlap modules symbols c) (none_by c modules s.owner none)
    ∙ none_named c modules symbols none

-- ---- a listed module that a catalog lacks was kept out as one that overlaps

-- a module of this name is accepted, or a line overlaps
abbrev IsAccounted : Accepted → List ℕ → Type 0
IsAccounted a name = (list_any (bytes_eq name) (names_of a.modules) ≡ true) ⊎ (0 < a.overlap)

own_name : (name : List ℕ) → bytes_eq name name ≡ true
own_name name = (bytes_eq-Decides name name).1 refl

named_more : (name : List ℕ) (modules : List PlacedModule) (m : PlacedModule)
    → list_any (bytes_eq name) (names_of (modules ++ m ∷ []))
    ≡ (list_any (bytes_eq name) (names_of modules) || bytes_eq name m.name)
named_more name [] m = or-false (bytes_eq name m.name)
named_more name (x ∷ modules) m =
    ap (λ b. bytes_eq name x.name || b) (named_more name modules m) ∙ or_assoc
    (bytes_eq name x.name) (list_any (bytes_eq name) (names_of modules)) (bytes_eq name m.name)

accounted_after : (a : Accepted) (m : PlacedModule) (name : List ℕ)
    → IsAccounted a name ⊎ (name ≡ m.name) → IsAccounted (after_module a m) name
accounted_after a m name h = by (list_any (bytes_eq m.name) (names_of a.modules)) refl
  where
    named : list_any (bytes_eq m.name) (names_of a.modules) ≡ true
        → IsAccounted a name ⊎ (name ≡ m.name) → IsAccounted a name
    named e (inl was) = was
    named e (inr is) = inl (ap (λ n. list_any (bytes_eq n) (names_of a.modules)) is ∙ e)

    grown : IsAccounted a name ⊎ (name ≡ m.name)
        → IsAccounted (record a { modules = a.modules ++ m ∷ [] }) name
    grown (inl (inl was)) = inl (named_more name a.modules m
        ∙ or_left (list_any (bytes_eq name) (names_of a.modules)) (bytes_eq name m.name) was)
    grown (inl (inr over)) = inr over
    grown (inr is) =
        inl (named_more name a.modules m ∙ or_right (list_any (bytes_eq name) (names_of a.modules))
        (bytes_eq name m.name) (ap (bytes_eq name) (sym is) ∙ own_name name))

    beside : (b : Bool) → (lie_apart m.regions && are_beside (taken_regions a) m.regions) ≡ b
        → list_any (bytes_eq m.name) (names_of a.modules) ≡ false
        → IsAccounted (after_module a m) name
    beside true f e = subst (λ x. IsAccounted x name) (sym (after_accepted a m e f)) (grown h)
    beside false f e =
        subst (λ x. IsAccounted x name) (sym (after_overlap a m e f)) (inr (omega arith))

    by : (d : Bool) → list_any (bytes_eq m.name) (names_of a.modules) ≡ d
        → IsAccounted (after_module a m) name
    by true e = subst (λ x. IsAccounted x name) (sym (after_double a m e)) (named e h)
    by false e = beside (lie_apart m.regions && are_beside (taken_regions a) m.regions) refl e

accounted_over : (lines : List PlacedModule) (a : Accepted) (name : List ℕ) → IsAccounted a name
    → IsAccounted (fold after_module a lines) name
accounted_over [] a name was = was
accounted_over (m ∷ lines) a name was =
    accounted_over lines (after_module a m) name (accounted_after a m name (inl was))

name_kept : (regions : List ListedRegion) (line : ListedModule)
    → line.name ≡ (placed_line regions line).name
name_kept regions line =
    elim (has_core (lines_named line.name regions)) as (λ b.
    line.name ≡ (cond b (placed_by (lines_named line.name regions) line)
    (placed_alone line)).name) [ true ↦ refl | false ↦ refl ]

all_accounted : (regions : List ListedRegion) (lines : List ListedModule) (a : Accepted) (k : ℕ)
    (m : ListedModule) → k < length lines → slice_index_or lines k m ≡ m
    → IsAccounted (fold after_module a (map (placed_line regions) lines)) m.name
all_accounted regions [] a k m low is = absurd (omega (arith, low))
all_accounted regions (x ∷ lines) a zero m low is =
    accounted_over (map (placed_line regions) lines) (after_module a (placed_line regions x)) m.name
    (accounted_after a (placed_line regions x) m.name
    (inr (ap (λ l. l.name) (sym is) ∙ name_kept regions x)))
all_accounted regions (x ∷ lines) a (suc k) m low is =
    all_accounted regions lines (after_module a (placed_line regions x)) k m (omega (arith, low)) is

same_names : (symbols : List ListedSymbol) (name : List ℕ) (modules : List PlacedModule)
    → list_any (λ m. has_name name (Some m)) (map (entry_for symbols) modules)
    ≡ list_any (bytes_eq name) (names_of modules)
same_names symbols name [] = refl
same_names symbols name (m ∷ modules) =
    ap (λ b. bytes_eq name m.name || b) (same_names symbols name modules)

pub left_out_overlaps : (names : Option BoundNames) (modules : List ListedModule)
    (regions : List ListedRegion) (symbols : List ListedSymbol) (k : ℕ) (m : ListedModule)
    → k < length modules → slice_index_or modules k m ≡ m
    → is_left_out (catalog_of names modules regions symbols) m.name ≡ true
    → 0 < (counts_of names modules regions symbols).overlap
left_out_overlaps names modules regions symbols k m low is out =
    by (all_accounted regions modules (none_yet (kernel_regions names symbols)) k m low is)
  where
    by : IsAccounted (accepted_of (kernel_regions names symbols) regions modules) m.name
        → 0 < (accepted_of (kernel_regions names symbols) regions modules).overlap
    by (inr over) = over
    by (inl named) = absurd (true≢false (sym out ∙ ap not (same_names symbols m.name
        (accepted_of (kernel_regions names symbols) regions modules).modules ∙ named)))
