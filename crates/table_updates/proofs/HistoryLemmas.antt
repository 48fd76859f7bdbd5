-- What histories of updates, and updates that insert alone, leave in a table.
use Rattle.table_updates.proofs.Words.{◌+◌, ◌<◌, ◌∙◌, ◌∷◌, ◌≡◌, ◌≤◌, Bool, List, None, [], ap}
use Rattle.table_updates.proofs.Words.{arith, false, flat_map, get_or, inl, inr, length}
use Rattle.table_updates.proofs.Words.{length-append, refl, subst, sym, true, ℕ, ⊎_elim, ◌||◌}
use Rattle.table_updates.proofs.Words.{◌⊎◌, Contains, nat_lt, not, lt-ltb, replay, after, erased}
use Rattle.table_updates.proofs.Words.{first_that_holds, inserted, refusal_for, some_invalid}
use Rattle.table_updates.proofs.Words.{some_meet, with_items, none_meets, Order, half_open, meets}
use Rattle.table_updates.proofs.Words.{with_item, without_all, Item}
use Rattle.std.proofs.lemmas.Bool.Decides.{nat_tests}
use Rattle.std.proofs.lemmas.List.Elements.{Contains-append_cases, Contains-append_left}
use Rattle.std.proofs.lemmas.List.Elements.{Contains-append_right, Contains-get_or}
use Rattle.std.proofs.lemmas.List.Folds.{list_any_none}
use Rattle.table_updates.proofs.BatchLemmas.{length_with_items}
use Rattle.table_updates.specs.declared.updates.Update.{Update}
use Rattle.table_updates.specs.declared.updates.Update.TheVariants.{Insert}
use Rattle.facts.proofs.Lists.{append_nil_left, append_nil_right}
use Rattle.facts.proofs.Members.{Contains-cons_cases, Contains-none, Contains-rest}
use Rattle.order_laws.proofs.PlaceLemmas.{without_none}
use Rattle.order_laws.proofs.SetLemmas.{in_with_item}
use Rattle.order_laws.specs.declared.refusals.Refusal.TheVariants.{BadItem, Full, NoSuchItem}
use Rattle.order_laws.specs.declared.refusals.Refusal.TheVariants.{Overlap, SequenceSpent}
use Rattle.order_laws.specs.declared.refusals.Refusal.TheVariants.{UpdateInHand}

module _ {K : Type 0} (o : Order K) (x : Item) where
  pub from_items : (is table : List Item) → Contains (with_items o is table) x
      → Contains is x ⊎ Contains table x
  from_items [] table h = inr h
  from_items (i ∷ is) table h =
      ⊎_elim (λ m. inl (Contains-rest i x is m))
      (λ m. ⊎_elim (λ e. inl (0, omega arith, sym e)) (λ q. inr q) ((in_with_item o i x table).0 m))
      (from_items is (with_item o i table) h)

  pub to_items : (is table : List Item) → Contains is x ⊎ Contains table x
      → Contains (with_items o is table) x
  to_items [] table h = ⊎_elim (λ m. absurd (Contains-none x m)) (λ m. m) h
  to_items (i ∷ is) table h =
      to_items is (with_item o i table)
      (⊎_elim
      (λ m. ⊎_elim (λ e. inr ((in_with_item o i x table).1 (inl (sym e)))) (λ q. inl q)
      (Contains-cons_cases i x is m))
      (λ m. inr ((in_with_item o i x table).1 (inr m)))
      h)

-- an update that erases nothing
pub after_inserts : {K : Type 0} (o : Order K) (table : List Item) (u : Update) → erased u ≡ []
    → after o table u ≡ with_items o (inserted u) table
after_inserts o table u none =
    ap (with_items o (inserted u)) (ap (λ gone. without_all gone table) none ∙ without_none table)

module _ {K : Type 0} (o : Order K) where
  pub from_replay : (x : Item) (us : List Update) (table : List Item) → flat_map erased us ≡ []
      → Contains (replay o table us) x → Contains table x ⊎ Contains (flat_map inserted us) x
  from_replay x [] table none h = inl h
  from_replay x (u ∷ us) table none h =
      let first = append_nil_left (erased u) (flat_map erased us) none in
      ⊎_elim
      (λ m. ⊎_elim (λ q. inr (Contains-append_left (inserted u) (flat_map inserted us) x q))
      (λ q. inl q)
      (from_items o x (inserted u) table
      (subst (λ t. Contains t x) (after_inserts o table u first) m)))
      (λ m. inr (Contains-append_right (inserted u) (flat_map inserted us) x m))
      (from_replay x us (after o table u) (append_nil_right (erased u) (flat_map erased us) none) h)

  pub to_replay : (x : Item) (us : List Update) (table : List Item) → flat_map erased us ≡ []
      → Contains table x ⊎ Contains (flat_map inserted us) x → Contains (replay o table us) x
  to_replay x [] table none h = ⊎_elim (λ m. m) (λ m. absurd (Contains-none x m)) h
  to_replay x (u ∷ us) table none h =
      let first = append_nil_left (erased u) (flat_map erased us) none in
      let put : Contains (inserted u) x ⊎ Contains table x → Contains (after o table u) x =
      λ m. subst (λ t. Contains t x) (sym (after_inserts o table u first))
      (to_items o x (inserted u) table m) in
      to_replay x us (after o table u) (append_nil_right (erased u) (flat_map erased us) none)
      (⊎_elim
      (λ m. inl (put (inr m)))
      (λ m. ⊎_elim (λ q. inl (put (inl q))) (λ q. inr q)
      (Contains-append_cases (inserted u) (flat_map inserted us) x m))
      h)

  pub length_replay : (us : List Update) (table : List Item) → flat_map erased us ≡ []
      → length (replay o table us) ≡ length table + length (flat_map inserted us)
  length_replay [] table none = omega arith
  length_replay (u ∷ us) table none =
      let first = append_nil_left (erased u) (flat_map erased us) none in
      omega (
        arith,
        length_replay us (after o table u) (append_nil_right (erased u) (flat_map erased us) none),
        ap length (after_inserts o table u first),
        length_with_items o (inserted u) table,
        length-append (inserted u) (flat_map inserted us),
      )

-- an item that is apart from all others is accepted where there is room for it
pub insert_accepted : (n limit : ℕ) (i : Item) (table : List Item) (seq : ℕ) → i.a < i.b
    → ((x : Item) → Contains table x → half_open.apart x i ≡ true)
    → length table < n → seq + 2 ≤ limit
    → refusal_for half_open n limit false table seq (Insert i) ≡ None
insert_accepted n limit i table seq valid apart room left =
    grind (arith, nat_tests, lt-ltb, none_meets)

-- of the tests of a batch none holds
pub no_test_holds : (invalid overlap meet full spent : Bool) → invalid ≡ false → overlap ≡ false
    → meet ≡ false → full ≡ false → spent ≡ false
    → first_that_holds ((false, UpdateInHand) ∷ (invalid, BadItem) ∷ (false, NoSuchItem)
    ∷ (overlap || meet, Overlap) ∷ (full, Full) ∷ (spent, SequenceSpent) ∷ []) ≡ None
no_test_holds invalid overlap meet full spent a b c d e = rw (a, b, c, d, e) refl

pub all_are_valid : (items : List Item) → ((i : Item) → Contains items i → i.a < i.b)
    → some_invalid half_open items ≡ false
all_are_valid items valid =
    list_any_none (λ i. not (nat_lt i.a i.b)) items
    (λ k d lt. ap not (lt-ltb (get_or items k d).a (get_or items k d).b
    (valid (get_or items k d) (Contains-get_or items k d lt))))

pub none_meet : (items table : List Item)
    → ((x i : Item) → Contains table x → Contains items i → half_open.apart x i ≡ true)
    → some_meet half_open items table ≡ false
none_meet items table apart =
    list_any_none (λ i. meets half_open i table) items
    (λ k d lt. none_meets (get_or items k d) table
    (λ x m. apart x (get_or items k d) m (Contains-get_or items k d lt)))
