-- Marks that are put, those that stay, and names without one.
use Rattle.command_listings.proofs.Words.{◌≡◌, ◌∙◌, ℕ, ◌+◌, ◌<◌, ◌==◌, Bool, true, false, ⊎_elim}
use Rattle.command_listings.proofs.Words.{List, length, take, get_or, refl, sym, IfSome, ◌&&◌}
use Rattle.command_listings.proofs.Words.{item_of_address, Option, Some, None, eqb-true, ap}
use Rattle.command_listings.proofs.Words.{bytes_eq, bytes_eq-Decides, and_parts, false_from_ne_true}
use Rattle.command_listings.proofs.Words.{nat_eq, option_and_then, option_map_or, Item, module_of}
use Rattle.command_listings.proofs.Words.{found_in, symbols_from, CatalogEntries, ModuleEntry}
use Rattle.command_listings.proofs.Words.{SymbolEntry, Found, lists_symbol}
use Rattle.std.specs.Prelude.{slice_index_or, slice_set}
use Rattle.std.proofs.lemmas.Bool.{cases_Bool, eq-eqb, true≢false}
use Rattle.std.proofs.lemmas.Grind.{get_or-set_at}
use Rattle.std.proofs.lemmas.List.{get_or-set_other, take_more}
use Rattle.std.proofs.lemmas.List.Elements.{All-push}
use Rattle.std.proofs.lemmas.List.Folds.{list_any_none}
use Rattle.command_listings.specs.LogAnswers.{is_alias_by, is_alias_in, is_alias_of, reading_at}
use Rattle.command_listings.specs.NameFilters.{HaveMarks, HoldsNames, IsNoName, has_mark}
use Rattle.listing.specs.AddressRules.{place_of}
use Rattle.listing.specs.Answers.{sought}
use Rattle.listing.specs.declared.address_rules.AddressRule.{AddressRule}
use Rattle.listing.specs.declared.address_rules.LogRule.{LogRule}

pub mark_put : (marks : List Bool) (i : ℕ) → i < length marks
    → slice_index_or (slice_set marks i true) i false ≡ true
mark_put marks i within = get_or-set_at marks i i true false refl within

pub mark_kept : (marks : List Bool) (i j : ℕ) → i < length marks
    → slice_index_or marks j false ≡ true → slice_index_or (slice_set marks i true) j false ≡ true
mark_kept marks i j within was =
    ⊎_elim
    (λ yes. get_or-set_at marks i j true false (eqb-true j i yes) within)
    (λ other.
    get_or-set_other marks i j true false (λ same. true≢false (sym (eq-eqb j i same) ∙ other))
    ∙ was)
    (cases_Bool (j == i))

module _ (marks marks' : List Bool)
    (kept : (name : List ℕ) → has_mark marks name ≡ true → has_mark marks' name ≡ true) where
  stay : (symbols : List SymbolEntry) → HaveMarks marks symbols → HaveMarks marks' symbols
  stay symbols have = λ k d within. kept (get_or symbols k d).name (have k d within)

  pub one_more : (symbols : List SymbolEntry) (k : ℕ) (d : SymbolEntry) → k < length symbols
      → HaveMarks marks (take k symbols) → has_mark marks' (get_or symbols k d).name ≡ true
      → HaveMarks marks' (take (k + 1) symbols)
  one_more symbols k d within have marked =
      rw (take_more symbols k d within)
      (All-push (λ s. has_mark marks' s.name ≡ true) (take k symbols) (get_or symbols k d)
      (stay (take k symbols) have) marked)

  stay_in : (o : Option ModuleEntry) → IfSome o (λ m. HaveMarks marks m.symbols)
      → IfSome o (λ m. HaveMarks marks' m.symbols)
  stay_in None have = have
  stay_in (Some m) have = stay m.symbols have

-- ---- a name without a mark

no_name_in : (marks : List Bool) (name : List ℕ) → has_mark marks name ≡ false
    → (symbols : List SymbolEntry) → HaveMarks marks symbols → (addr : ℕ)
    → lists_symbol symbols addr name ≡ false
no_name_in marks name none symbols have addr =
    list_any_none (λ (s : SymbolEntry). nat_eq s.addr addr && bytes_eq s.name name) symbols
    (λ k d within. another (get_or symbols k d) (have k d within))
  where
    another : (s : SymbolEntry) → has_mark marks s.name ≡ true
        → (nat_eq s.addr addr && bytes_eq s.name name) ≡ false
    another s marked =
        false_from_ne_true (nat_eq s.addr addr && bytes_eq s.name name)
        (λ yes. true≢false (sym marked ∙ ap (has_mark marks) ((bytes_eq-Decides s.name name).0
        (and_parts (nat_eq s.addr addr) (bytes_eq s.name name) yes).1) ∙ none))

pub no_name : (marks : List Bool) (c : CatalogEntries) (name : List ℕ) → HoldsNames marks c
    → has_mark marks name ≡ false → IsNoName c name
no_name marks c name holds none = λ number. in_module (module_of c number) (holds number)
  where
    in_module : (o : Option ModuleEntry) → IfSome o (λ m. HaveMarks marks m.symbols)
        → IfSome o (λ m. (addr : ℕ) → lists_symbol m.symbols addr name ≡ false)
    in_module None have = have
    in_module (Some m) have = no_name_in marks name none m.symbols have

-- it is that of no reading's symbol
pub no_alias : (c : CatalogEntries) (rule : LogRule) (is_caller : Bool) (addr : ℕ) (name : List ℕ)
    → IsNoName c name → false ≡ is_alias_by c rule is_caller addr name
no_alias c rule is_caller addr name none =
    by_sought (sought r (option_and_then (item_of_address c) (place_of r addr)) addr)
  where
    r : AddressRule
    r = reading_at rule is_caller

    by_found : (m : ModuleEntry) → ((addr : ℕ) → lists_symbol m.symbols addr name ≡ false)
        → (o : Option Found)
        → false ≡ option_map_or (λ f. lists_symbol m.symbols f.symbol.addr name) o false
    by_found m unlisted None = refl
    by_found m unlisted (Some f) = sym (unlisted f.symbol.addr)

    by_module : (item : Item) (place : ℕ) (o : Option ModuleEntry)
        → IfSome o (λ m. (addr : ℕ) → lists_symbol m.symbols addr name ≡ false)
        → false ≡ option_map_or (λ m. is_alias_of m item place name) o false
    by_module item place None unlisted = refl
    by_module item place (Some m) unlisted =
        by_found m unlisted (found_in (symbols_from m.symbols item.a item.b) item.b place)

    by_sought : (o : Option (Item × ℕ))
        → false ≡ option_map_or (λ s. is_alias_in c s.0 s.1 name) o false
    by_sought None = refl
    by_sought (Some s) = by_module s.0 s.1 (module_of c s.0.tag) (none s.0.tag)
