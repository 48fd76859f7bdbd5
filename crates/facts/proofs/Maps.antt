-- Facts about maps by number alone: what an insert or a removal leaves at a key.
use Rattle.facts.proofs.Words.{◌&&◌, ◌∙◌, ◌∷◌, ◌≡◌, ◌≢◌, Bool, List, None, Option, Some, [], ap}
use Rattle.facts.proofs.Words.{arith, cond, false, inl, inr, refl, sym, true, ℕ, ⊎_elim, Contains}
use Rattle.facts.proofs.Words.{list_all, eq_by_cmp, is_eq, match_ordering, nat_cmp, Ordering, Equal}
use Rattle.facts.proofs.Words.{Greater, Less, cases_eq, nat_tests, nat_cmp_total}
use Rattle.std.proofs.Common.{◌⊎◌}
use Rattle.std.specs.BTreeMap.{BTreeMap, IsOrdered, Updates, get as tree_get, insert_entry, is_at}
use Rattle.std.specs.FinMap.{FinMap, get, get-insert, get-remove, insert, remove}
use Rattle.std.specs.Map.{lookup}
use Rattle.std.proofs.lemmas.Map.Lookups.{exact_unsigned}
use Rattle.std.proofs.lemmas.Map.Views.{btree_map_get_iff}

pub other_key : (q r : ℕ) → q ≢ r → eq_by_cmp nat_cmp q r ≡ false
other_key q r ne = grind (arith, nat_tests)

pub own_key : (r : ℕ) → eq_by_cmp nat_cmp r r ≡ true
own_key r = grind (arith, nat_tests)

module _ {X : Type 0} where
  pub get-insert_same : (m : FinMap nat_cmp X) (r : ℕ) (x : X) → get (insert m r x) r ≡ Some x
  get-insert_same m r x =
      get-insert nat_cmp_total m r x r ∙ ap (λ b. cond b (Some x) (get m r)) (own_key r)

  pub get-insert_other : (m : FinMap nat_cmp X) (q r : ℕ) (x : X) → q ≢ r
      → get (insert m r x) q ≡ get m q
  get-insert_other m q r x ne =
      get-insert nat_cmp_total m r x q ∙ ap (λ b. cond b (Some x) (get m q)) (other_key q r ne)

  pub get-remove_other : (m : FinMap nat_cmp X) (q r : ℕ) → q ≢ r → get (remove m r) q ≡ get m q
  get-remove_other m q r ne =
      get-remove nat_cmp_total m r q ∙ ap (λ b. cond b None (get m q)) (other_key q r ne)

  pub get-remove_same : (m : FinMap nat_cmp X) (r : ℕ) → get (remove m r) r ≡ None
  get-remove_same m r = get-remove nat_cmp_total m r r ∙ ap (λ b. cond b None (get m r)) (own_key r)

-- ---- by the list of a map's entries

-- a test of all entries, at one step of an insert
pub list_all-inserted : (p : ℕ × ℕ → Bool) (e : ℕ × ℕ) (es rest : List (ℕ × ℕ)) (k v : ℕ)
    (found : Option ℕ) (o : Ordering)
    → cond (is_eq o) (Some e.1) found ≡ None
    → (found ≡ None → list_all p rest ≡ (p (k, v) && list_all p es))
    → list_all p (match_ordering o ((k, v) ∷ e ∷ es) ((e.0, v) ∷ es) (e ∷ rest))
    ≡ (p (k, v) && (p e && list_all p es))
list_all-inserted p e es rest k v found Less h ih = refl
list_all-inserted p e es rest k v found Equal h ih = absurd (cc)
list_all-inserted p e es rest k v found Greater h ih = grind (arith, nat_tests)

-- a test of all entries after one more was put in
pub list_all-insert_entry : (p : ℕ × ℕ → Bool) (es : List (ℕ × ℕ)) (k v : ℕ)
    → lookup (is_at (nat_cmp k)) es ≡ None
    → list_all p (insert_entry nat_cmp es k v) ≡ (p (k, v) && list_all p es)
list_all-insert_entry p [] k v h = refl
list_all-insert_entry p (e ∷ es) k v h = list_all-inserted p e es (insert_entry nat_cmp es k v) k v
    (lookup (is_at (nat_cmp k)) es) (nat_cmp k e.0) h (λ none. list_all-insert_entry p es k v none)

-- an entry of the map after an insert is the new one or an old one
pub inserted_cases : (m n : BTreeMap ℕ ℕ) → IsOrdered nat_cmp m → IsOrdered nat_cmp n → (a b : ℕ)
    → Updates nat_cmp m n a (Some b) → (r : ℕ × ℕ) → Contains n.entries r
    → ((r.0 ≡ a) × (r.1 ≡ b)) ⊎ Contains m.entries r
inserted_cases m n om on a b updates r there =
    let now : tree_get nat_cmp n r.0 ≡ Some r.1 =
    (btree_map_get_iff nat_cmp_total exact_unsigned n on r.0 r.1).1 there in
    ⊎_elim
    (λ same. inl (
      same,
      let is : Some r.1 ≡ Some b = sym now ∙ ap (tree_get nat_cmp n) same ∙ updates.1 in cc,
    ))
    (λ other. inr ((btree_map_get_iff nat_cmp_total exact_unsigned m om r.0 r.1).0
    (sym (updates.2 r.0 (grind (arith, nat_tests))) ∙ now)))
    (cases_eq r.0 a)
