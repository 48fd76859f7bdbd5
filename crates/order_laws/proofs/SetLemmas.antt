-- Tables as sets of items.
use Rattle.order_laws.proofs.Words.{◌≡◌, ◌≢◌, ℕ, true, false, cond, List, [], ◌∷◌, refl, sym, ◌∙◌}
use Rattle.order_laws.proofs.Words.{ap, inl, inr, ⊎_elim, ◌⊎◌, ◌↔◌, Contains, not, ◌==◌}
use Rattle.order_laws.proofs.Words.{eq-eqb, eqb-true, Item, Order, Precedes, IsLawful, IsTable}
use Rattle.order_laws.proofs.Words.{with_item, without, all_at, Contains-cons_cases, Contains-head}
use Rattle.order_laws.proofs.Words.{Contains-none, Contains-one, Contains-rest}
use Rattle.std.proofs.Common.{arith}
use Rattle.std.proofs.lemmas.Bool.Decides.{nat_tests}

-- the items of a table with one item more
module _ {K : Type 0} (o : Order K) (i x : Item) where
  from_with_item : (xs : List Item) → Contains (with_item o i xs) x → (x ≡ i) ⊎ Contains xs x
  from_with_item [] h = inl (sym (Contains-one i x h))
  from_with_item (y ∷ xs) h =
      elim (o.less i y) as (λ b. Contains (cond b (i ∷ y ∷ xs) (y ∷ with_item o i xs)) x
      → (x ≡ i) ⊎ Contains (y ∷ xs) x) [
        | true ↦ λ m. ⊎_elim (λ e. inl (sym e)) (λ r. inr r) (Contains-cons_cases i x (y ∷ xs) m)
        | false ↦ λ m. ⊎_elim (λ e. inr (Contains-head y x xs e))
            (λ r. ⊎_elim (λ e. inl e) (λ q. inr (Contains-rest y x xs q)) (from_with_item xs r))
            (Contains-cons_cases y x (with_item o i xs) m)
      ] h

  the_item : (xs : List Item) → x ≡ i → Contains (with_item o i xs) x
  the_item [] e = Contains-head i x [] (sym e)
  the_item (y ∷ xs) e =
      elim (o.less i y) as (λ b. Contains (cond b (i ∷ y ∷ xs) (y ∷ with_item o i xs)) x) [
        | true ↦ Contains-head i x (y ∷ xs) (sym e)
        | false ↦ Contains-rest y x (with_item o i xs) (the_item xs e)
      ]

  the_others : (xs : List Item) → Contains xs x → Contains (with_item o i xs) x
  the_others [] h = absurd (Contains-none x h)
  the_others (y ∷ xs) h =
      elim (o.less i y) as (λ b. Contains (cond b (i ∷ y ∷ xs) (y ∷ with_item o i xs)) x) [
        | true ↦ Contains-rest i x (y ∷ xs) h
        | false ↦ ⊎_elim (λ e. Contains-head y x (with_item o i xs) e) (λ r.
            Contains-rest y x (with_item o i xs) (the_others xs r)) (Contains-cons_cases y x xs h)
      ]

  pub in_with_item : (xs : List Item) → Contains (with_item o i xs) x ↔ ((x ≡ i) ⊎ Contains xs x)
  in_with_item xs = (from_with_item xs, λ c. ⊎_elim (the_item xs) (the_others xs) c)

-- the items of a table without a first word
module _ (a : ℕ) (x : Item) where
  from_without : (xs : List Item) → Contains (without a xs) x → Contains xs x × (x.a ≢ a)
  from_without [] h = absurd (Contains-none x h)
  from_without (y ∷ xs) h =
      elim (y.a == a) as (λ b. (y.a == a) ≡ b → Contains
      (cond (not b) (y ∷ without a xs) (without a xs)) x → Contains (y ∷ xs) x × (x.a ≢ a)) [
        | true ↦ λ e m. let r = from_without xs m in (Contains-rest y x xs r.0, r.1)
        | false ↦ λ e m. ⊎_elim
            (λ same. (
              Contains-head y x xs same,
              λ f. let g : (y.a == a) ≡ true = eq-eqb y.a a (ap (λ z. z.a) same ∙ f) in absurd (cc),
            ))
            (λ q. let r = from_without xs q in (Contains-rest y x xs r.0, r.1))
            (Contains-cons_cases y x (without a xs) m)
      ] refl h

  kept : (xs : List Item) → x.a ≢ a → Contains xs x → Contains (without a xs) x
  kept [] ne h = absurd (Contains-none x h)
  kept (y ∷ xs) ne h =
      elim (y.a == a) as (λ b. (y.a == a) ≡ b
      → Contains (cond (not b) (y ∷ without a xs) (without a xs)) x) [
        | true ↦ λ e. ⊎_elim (λ same. absurd (ne (ap (λ z. z.a) (sym same) ∙ eqb-true y.a a e)))
            (λ r. kept xs ne r) (Contains-cons_cases y x xs h)
        | false ↦ λ e. ⊎_elim (λ same. Contains-head y x (without a xs) same)
            (λ r. Contains-rest y x (without a xs) (kept xs ne r)) (Contains-cons_cases y x xs h)
      ] refl

  pub in_without : (xs : List Item) → Contains (without a xs) x ↔ (Contains xs x × (x.a ≢ a))
  in_without xs = (from_without xs, λ h. kept xs h.1 h.0)

-- two tables of the same items
module _ {K : Type 0} (o : Order K) (law : IsLawful o) where
  not_before_itself : (x y : Item) → Precedes o x y → x ≡ y → ⊥
  not_before_itself x y p e = grind (arith, nat_tests)

  not_both : (x y : Item) → Precedes o x y → Precedes o y x → ⊥
  not_both x y p q = grind (arith, nat_tests)

  same_head : (x y : Item) (t u : List Item) → IsTable o (x ∷ t) → IsTable o (y ∷ u)
      → Contains (y ∷ u) x → Contains (x ∷ t) y → x ≡ y
  same_head x y t u is-t is-u in-u in-t =
      ⊎_elim (λ e. e)
      (λ y-in-t. ⊎_elim (λ e. sym e)
      (λ x-in-u. absurd (not_both x y (all_at (Precedes o x) t y is-t.1 y-in-t)
      (all_at (Precedes o y) u x is-u.1 x-in-u)))
      (Contains-cons_cases y x u in-u))
      (Contains-cons_cases x y t in-t)

  tail_member : (x y : Item) (t u : List Item) → IsTable o (x ∷ t) → x ≡ y
      → ((z : Item) → Contains (x ∷ t) z → Contains (y ∷ u) z) → (z : Item) → Contains t z
      → Contains u z
  tail_member x y t u is-t same f z m =
      ⊎_elim (λ e. absurd (not_before_itself x z (all_at (Precedes o x) t z is-t.1 m) (same ∙ e)))
      (λ r. r) (Contains-cons_cases y z u (f z (Contains-rest x z t m)))

  pub same_items : (t u : List Item) → IsTable o t → IsTable o u
      → ((x : Item) → Contains t x → Contains u x) → ((x : Item) → Contains u x → Contains t x)
      → t ≡ u
  same_items [] [] is-t is-u f g = refl
  same_items [] (y ∷ u) is-t is-u f g = absurd (Contains-none y (g y (Contains-head y y u refl)))
  same_items (x ∷ t) [] is-t is-u f g = absurd (Contains-none x (f x (Contains-head x x t refl)))
  same_items (x ∷ t) (y ∷ u) is-t is-u f g =
      let same = same_head x y t u is-t is-u (f x (Contains-head x x t refl))
      (g y (Contains-head y y u refl)) in
      let rest : t ≡ u = same_items t u is-t.2 is-u.2 (tail_member x y t u is-t same f)
      (tail_member y x u t is-u (sym same) g) in
      λ k. same k ∷ rest k
