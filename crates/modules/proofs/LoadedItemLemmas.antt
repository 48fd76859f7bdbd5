-- The items that a load inserts, and when the update that inserts them is accepted.
use Rattle.modules.proofs.Words.{◌≡◌, ℕ, ◌+◌, ◌<◌, ◌≤◌, true, false, List, [], ◌∷◌, length, Some}
use Rattle.modules.proofs.Words.{None, refl, sym, ◌∙◌, ⊎_elim, arith, zero, suc, Result, Ok, Err}
use Rattle.modules.proofs.Words.{Contains, rules, common_steps, nat_tests}
use Rattle.modules.proofs.Lemmas.{without_none, all_are_valid, insert_accepted, no_test_holds}
use Rattle.modules.proofs.Lemmas.{none_meet, length-map, All-contains, Contains-append_left}
use Rattle.modules.proofs.Lemmas.{Contains-append_right, get_or_from_slice_get, slice_get_within}
use Rattle.modules.proofs.Definitions.{Item, half_open, Update, erased, inserted, refusal_for}
use Rattle.modules.proofs.Definitions.{some_overlap, update_of, GivesOrLacksMemory, load_of}
use Rattle.modules.proofs.Definitions.{Refusal, OutOfMemory, IsSoundCatalog, entries_of, module_of}
use Rattle.modules.proofs.Definitions.{CatalogEntries, ModuleEntry, items_at, Held}

-- the update that loads a module inserts its items, of which there is one at least
pub record LoadsItems (c : CatalogEntries) (k : ℕ) (u : Update) : Type 0 where
  pub is : u ≡ update_of [] (items_at c k)
  pub some : 0 < length (items_at c k)

-- what a table holds of a module that is not loaded
abbrev pub none_held : Held
none_held = record { core = false; init = false }

among_entries : (c : CatalogEntries) (k : ℕ) (m : ModuleEntry) → module_of c k ≡ Some m
    → Contains (entries_of c) m
among_entries c zero m e = search (rules, Contains-append_left)
among_entries c (suc j) m e =
    search (rules, Contains-append_right, slice_get_within, get_or_from_slice_get)

pub loads_items : (c : CatalogEntries) (k : ℕ) (u : Update) → IsSoundCatalog c
    → load_of c k none_held ≡ Ok u → LoadsItems c k u
loads_items c k u sound loads =
    grind (arith, common_steps, nat_tests, All-contains, among_entries, length-map)

-- a load that gives an update gives the one that is asked for
pub is_given : (asked r : Result Update Refusal) (u : Update) → GivesOrLacksMemory asked r
    → r ≡ Ok u → asked ≡ Ok u
is_given asked r u g is =
    ⊎_elim (λ e. sym e ∙ is) (λ h. let f : Err OutOfMemory ≡ Ok u = sym h.0 ∙ is in absurd (cc)) g

-- the update that inserts some items is accepted where these are apart from each other and from all
-- others, and have room
pub inserts_accepted : (n limit : ℕ) (items table : List Item) (seq : ℕ) → 0 < length items
    → ((i : Item) → Contains items i → i.a < i.b)
    → some_overlap half_open items ≡ false
    → ((x i : Item) → Contains table x → Contains items i → half_open.apart x i ≡ true)
    → length table + length items ≤ n → seq + 2 ≤ limit
    → refusal_for half_open n limit false table seq (update_of [] items) ≡ None
inserts_accepted n limit [] table seq some valid each apart room left = absurd (omega arith)
inserts_accepted n limit (i ∷ []) table seq some valid each apart room left =
    let here : Contains (i ∷ []) i = (0, omega arith, refl) in
    insert_accepted n limit i table seq (valid i here) (λ x m. apart x i m here) (omega arith) left
inserts_accepted n limit (i ∷ j ∷ rest) table seq some valid each apart room left =
    let items = i ∷ j ∷ rest in
    grind (
      arith,
      common_steps,
      nat_tests,
      no_test_holds,
      all_are_valid,
      without_none,
      none_meet,
      all_are_valid items valid,
      none_meet items table apart,
    )

-- the update that inserts these items, and erases none
pub inserts_these : (items : List Item) → inserted (update_of [] items) ≡ items
inserts_these items = grind arith

pub erases_none : (items : List Item) → erased (update_of [] items) ≡ []
erases_none items = grind arith
