-- A walk over all of a tree: a link leads to one tree alone, of as many nodes as the walk visits.
use Rattle.word_layout.proofs.Words.{◌≡◌, ◌≢◌, ℕ, suc, ◌+◌, ◌-◌, ◌<◌, List, [], ◌∷◌, ◌++◌, length}
use Rattle.word_layout.proofs.Words.{refl, sym, ◌∙◌, ap, subst, append_assoc, length-append, arith}
use Rattle.word_layout.proofs.Words.{Item, at, root_word, left_word, right_word, Nodes, none, fork}
use Rattle.word_layout.proofs.Words.{listed, Leads, HoldsTable}
use Rattle.word_layout.proofs.HoldsLemmas.{size_items, size_listed}
use Rattle.std.proofs.lemmas.Bool.Decides.{nat_tests}

module _ (m : List ℕ) (n c : ℕ) where
  pub leads_once : (link : ℕ) (t u : Nodes) → Leads m n c link t → Leads m n c link u → t ≡ u
  leads_once link none none a b = refl
  leads_once link none (fork l i r) a b = absurd (let e : 0 ≡ suc i = sym a ∙ b.0 in cc)
  leads_once link (fork l i r) none a b = absurd (let e : 0 ≡ suc i = sym b ∙ a.0 in cc)
  leads_once link (fork l i r) (fork l' j r') a b =
      let same : i ≡ j = (let e : suc i ≡ suc j = sym a.0 ∙ b.0 in cc) in
      let left = leads_once (at m (left_word c i)) l l' a.2
      (subst (λ k. Leads m n c (at m (left_word c k)) l') (sym same) b.2) in
      let right = leads_once (at m (right_word c i)) r r' a.3
      (subst (λ k. Leads m n c (at m (right_word c k)) r') (sym same) b.3) in
      λ d. fork (left d) (same d) (right d)

  pub past_no_tree : (link : ℕ) (t : Nodes) → n < link → Leads m n c link t → ⊥
  past_no_tree link none past h = omega (arith, h)
  past_no_tree link (fork l i r) past h = omega (arith, h.0, h.1)

  pub some_visit : (link : ℕ) (t : Nodes) → link ≢ 0 → Leads m n c link t → 0 < length (listed t)
  some_visit link none some h = absurd (some h)
  some_visit link (fork l i r) some h = omega (arith, length-append (listed l) (i ∷ listed r))

  -- at a link to a node, the whole tree from the trees of its links
  module _ (link i : ℕ) (is : link ≡ suc i) where
    pub left_too_large : (left : ℕ) → 0 < left
        → ((u : Nodes) → Leads m n c (at m (left_word c i)) u → left - 1 < length (listed u))
        → (t : Nodes) → Leads m n c link t → left < length (listed t)
    left_too_large left some all_large none h = absurd (omega (arith, h, is))
    left_too_large left some all_large (fork l j r) h = grind (arith, nat_tests, length-append)

    pub right_too_large : (left rest : ℕ) (l : Nodes) → 0 < left
        → Leads m n c (at m (left_word c i)) l → rest + length (listed l) ≡ left - 1
        → ((u : Nodes) → Leads m n c (at m (right_word c i)) u → rest < length (listed u))
        → (t : Nodes) → Leads m n c link t → left < length (listed t)
    right_too_large left rest l some leads count all_large none h = absurd (omega (arith, h, is))
    right_too_large left rest l some leads count all_large (fork k j r) h =
        grind (arith, nat_tests, leads_once, length-append)

  -- a table is as long as its tree
  pub table_length : (link : ℕ) (table : List Item) → HoldsTable m n c table
      → ((t : Nodes) → Leads m n c (at m (root_word c)) t → link < length (listed t))
      → link < length table
  table_length link table (t, h) large =
      omega (arith, large t h.leads, size_items m t, size_listed t, ap length h.listed_items)

-- the items of a tree, appended in three parts
pub three_parts : (xs ls rs : List Item) (i : Item) (ys zs ws : List Item) → ys ≡ xs ++ ls
    → zs ≡ ys ++ i ∷ [] → ws ≡ zs ++ rs → ws ≡ xs ++ (ls ++ i ∷ rs)
three_parts xs ls rs i ys zs ws a b d = grind (arith, nat_tests, append_assoc)
