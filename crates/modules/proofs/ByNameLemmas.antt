-- What has one name lies side by side in the order of names.
use Rattle.modules.proofs.Words.{common_steps, map, ◌≡◌, ℕ, ◌-◌, ◌<◌, ◌≤◌, Bool, true, false, List}
use Rattle.modules.proofs.Words.{[], ◌∷◌, length, get_or, take, drop, refl, ap, sym, subst, ◌∙◌}
use Rattle.modules.proofs.Words.{⊎_elim, arith, All, bytes_decides, filter, slice_cmp}
use Rattle.modules.proofs.Words.{IsNonDecreasingBy, IsPartitionPoint, IsPartitionedBy, IsSortedBy}
use Rattle.modules.proofs.Words.{IsStableBy, ties, is_eq, is_le, is_lt, nat_cmp, ordering_index}
use Rattle.modules.proofs.Words.{Ordering, bytes_eq, ◌||◌, Bor, list_any}
use Rattle.modules.proofs.Lemmas.{cases_lt, nat_list_cmp_total, searchable_from_sorted}
use Rattle.modules.proofs.Lemmas.{bytes_eq-neither, is_eq-between, is_le-index, is_lt-index}
use Rattle.modules.proofs.Lemmas.{is_lt-is_le, is_lt-not_eq, not_le-not_eq, filter-middle}
use Rattle.modules.proofs.Lemmas.{filter_agree, filter_passes, is_eq-slice_cmp, get_or-map}
use Rattle.modules.proofs.Lemmas.{length-map}
use Rattle.modules.proofs.Definitions.{IsCut, comes_first, lines_at, ListedRegion, lines_named}

module _ {X : Type 0} (named : X → List ℕ) where
  abbrev has : List ℕ → X → Bool
  has name x = bytes_eq (named x) name

  abbrev pub order_to : List ℕ → X → Ordering
  order_to name x = slice_cmp nat_cmp (named x) name

  rises : (index : List X) (name : List ℕ) → IsSortedBy (comes_first named) index
      → IsNonDecreasingBy (λ x. ordering_index (order_to name x)) index
  rises index name sorted = searchable_from_sorted nat_list_cmp_total named index name sorted

  pub lesser_first : (index : List X) (name : List ℕ) → IsSortedBy (comes_first named) index
      → IsPartitionedBy (λ x. is_lt (order_to name x)) index
  lesser_first index name sorted = λ i j d le lt h. is_lt-index (order_to name (get_or index i d))
      (order_to name (get_or index j d)) (rises index name sorted i j d le lt) h

  pub up_to_first : (index : List X) (name : List ℕ) → IsSortedBy (comes_first named) index
      → IsPartitionedBy (λ x. is_le (order_to name x)) index
  up_to_first index name sorted = λ i j d le lt h. is_le-index (order_to name (get_or index i d))
      (order_to name (get_or index j d)) (rises index name sorted i j d le lt) h

  -- the first cut does not lie after the second
  pub cuts_in_order : (index : List X) (name : List ℕ) (start end : ℕ)
      → IsCut (λ x. is_lt (order_to name x)) index start
      → IsCut (λ x. is_le (order_to name x)) index end → start ≤ end
  cuts_in_order index name start end first second =
      ⊎_elim (λ crossed. by_element index first second crossed) (λ le. le) (cases_lt end start)
    where
      by_element : (xs : List X) → IsCut (λ x. is_lt (order_to name x)) xs start
          → IsCut (λ x. is_le (order_to name x)) xs end → end < start → start ≤ end
      by_element [] first second crossed = absurd (omega (arith, first.bound))
      by_element (d ∷ ds) first second crossed =
          absurd (is_lt-is_le (order_to name (get_or (d ∷ ds) end d)) (first.below end d crossed)
          (second.others end d (omega arith) (let b = first.bound in omega arith)))

  -- between them lies what has the name
  pub between : (index : List X) (name : List ℕ) (start end : ℕ)
      → IsCut (λ x. is_lt (order_to name x)) index start
      → IsCut (λ x. is_le (order_to name x)) index end
      → take (end - start) (drop start index) ≡ filter (has name) index
  between index name start end first second =
      sym (filter-middle (has name) index start end
      (cuts_in_order index name start end first second)
      (λ k d lt within. differs name (get_or index k d)
      (is_lt-not_eq (order_to name (get_or index k d)) (first.below k d lt)))
      (λ k d le lt within. sym (is_eq-slice_cmp (named (get_or index k d)) name) ∙ is_eq-between
      (order_to name (get_or index k d)) (first.others k d le within) (second.below k d lt))
      (λ k d le within. differs name (get_or index k d)
      (not_le-not_eq (order_to name (get_or index k d)) (second.others k d le within))))
    where
      differs : (q : List ℕ) (x : X) → is_eq (order_to q x) ≡ false → has q x ≡ false
      differs q x not = sym (is_eq-slice_cmp (named x) q) ∙ not

  one_name : (xs ys : List X) → IsStableBy (comes_first named) xs ys → (name : List ℕ) (x : X)
      → has name x ≡ true → filter (has name) ys ≡ filter (has name) xs
  one_name xs ys stable name x is =
      let as_ties : (y : X) → ties (comes_first named) x y ≡ has name y =
      λ y. bytes_eq-neither (named x) (named y)
      ∙ ap (bytes_eq (named y)) ((bytes_decides (named x) name).0 is) in
      sym (filter_agree (ties (comes_first named) x) (has name) as_ties ys) ∙ stable x
      ∙ filter_agree (ties (comes_first named) x) (has name) as_ties xs

  -- a stable sort keeps the order of what has one name
  pub stays_in_order : (xs ys : List X) → IsStableBy (comes_first named) xs ys → (name : List ℕ)
      → filter (has name) ys ≡ filter (has name) xs
  stays_in_order xs ys stable name =
      by_first (filter (has name) ys) (filter (has name) xs) refl refl
    where
      with_one : (x : X) → has name x ≡ true → filter (has name) ys ≡ filter (has name) xs
      with_one x is = one_name xs ys stable name x is

      first_has : (zs : List X) (x : X) (rest : List X) → filter (has name) zs ≡ x ∷ rest
          → has name x ≡ true
      first_has zs x rest is =
          subst (All (λ y. has name y ≡ true)) is (filter_passes (has name) zs) 0 x (omega arith)

      by_first : (one other : List X) → filter (has name) ys ≡ one → filter (has name) xs ≡ other
          → filter (has name) ys ≡ filter (has name) xs
      by_first [] [] e f = e ∙ sym f
      by_first (x ∷ rest) other e f = with_one x (first_has ys x rest e)
      by_first [] (x ∷ rest) e f = with_one x (first_has xs x rest f)

pub IsCut-from_partition : {X : Type 0} (p : X → Bool) (index : List X) (place : ℕ)
    → place ≤ length index → IsPartitionPoint (λ x. p x ≡ true) (λ x. p x ≡ false) index place
    → IsCut p index place
IsCut-from_partition p index place bound point = grind arith

-- ---- the region lines

pub named_at : (name : List ℕ) (index : List (Bor ListedRegion))
    → lines_named name (lines_at index) ≡ lines_at (filter (λ l. bytes_eq l.now.name name) index)
named_at name [] = refl
named_at name (l ∷ ls) = grind (arith, named_at name ls)

pub any_mapped : {X Y : Type 0} (p : Y → Bool) (f : X → Y) (xs : List X)
    → list_any p (map f xs) ≡ list_any (λ x. p (f x)) xs
any_mapped p f [] = refl
any_mapped p f (x ∷ xs) = ap (λ b. p (f x) || b) (any_mapped p f xs)

pub all_at : (P : ListedRegion → Type 0) (index : List (Bor ListedRegion)) → All P (lines_at index)
    → All (λ l. P l.now) index
all_at P index all = λ k d lt.
    subst P (get_or-map (λ (l : Bor ListedRegion). l.now) index k d d.now lt)
    (all k d.now (rw (length-map index (λ (l : Bor ListedRegion). l.now)) lt))

pub ruleset lines_by_name = (common_steps, named_at, length-map)
