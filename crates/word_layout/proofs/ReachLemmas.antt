-- A walk comes to the nodes of the tree and to no others.
use Rattle.word_layout.proofs.Words.{◌≡◌, ℕ, suc, ◌<◌, List, ◌∷◌, sym, ◌∙◌, subst, inl, inr, ⊎_elim}
use Rattle.word_layout.proofs.Words.{arith, ◌⊎◌, Contains, AllByRecursion, Contains-append_left}
use Rattle.word_layout.proofs.Words.{Contains-append_right, Contains-append_cases, all_append, at}
use Rattle.word_layout.proofs.Words.{root_word, left_word, right_word, Nodes, none, fork, listed}
use Rattle.word_layout.proofs.Words.{Leads, Reaches, by_root, by_left, by_right}
use Rattle.facts.proofs.Members.{Contains-cons_cases, Contains-rest}
use Rattle.std.proofs.lemmas.Bool.Decides.{nat_tests}

abbrev pub IsIn : Nodes → ℕ → Type 0
IsIn none i = ⊥
IsIn (fork l j r) i = (i ≡ j) ⊎ (IsIn l i ⊎ IsIn r i)

-- the trees below a node
record Below (m : List ℕ) (n copy : ℕ) (t : Nodes) (i : ℕ) : Type 0 where
  l : Nodes
  r : Nodes
  leads_left : Leads m n copy (at m (left_word copy i)) l
  leads_right : Leads m n copy (at m (right_word copy i)) r
  in_left : (j : ℕ) → IsIn l j → IsIn t j
  in_right : (j : ℕ) → IsIn r j → IsIn t j

-- what is below a node of a subtree is below it in the tree
within : (m : List ℕ) (n copy i : ℕ) (part whole : Nodes)
    → ((j : ℕ) → IsIn part j → IsIn whole j) → Below m n copy part i → Below m n copy whole i
within m n copy i part whole is_part b = record {
  l = b.l;
  r = b.r;
  leads_left = b.leads_left;
  leads_right = b.leads_right;
  in_left = λ j q. is_part j (b.in_left j q);
  in_right = λ j q. is_part j (b.in_right j q);
}

below : (m : List ℕ) (n copy : ℕ) (t : Nodes) (link i : ℕ) → Leads m n copy link t → IsIn t i
    → Below m n copy t i
below m n copy none link i h is = absurd is
below m n copy (fork l j r) link i h is =
    ⊎_elim
    (λ e. record {
      l = l;
      r = r;
      leads_left = subst (λ k. Leads m n copy (at m (left_word copy k)) l) (sym e) h.2;
      leads_right = subst (λ k. Leads m n copy (at m (right_word copy k)) r) (sym e) h.3;
      in_left = λ k p. inr (inl p);
      in_right = λ k p. inr (inr p);
    })
    (⊎_elim
    (λ p. within m n copy i l (fork l j r) (λ k q. inr (inl q)) (below m n copy l _ i h.2 p))
    (λ p. within m n copy i r (fork l j r) (λ k q. inr (inr q)) (below m n copy r _ i h.3 p)))
    is

at_top : (m : List ℕ) (n copy : ℕ) (t : Nodes) (link i : ℕ) → Leads m n copy link t → link ≡ suc i
    → IsIn t i
at_top m n copy none link i h e = absurd (let f : 0 ≡ suc i = sym h ∙ e in cc)
at_top m n copy (fork l j r) link i h e = inl (let f : suc i ≡ suc j = sym e ∙ h.0 in cc)

pub reached_in : (m : List ℕ) (n copy : ℕ) (t : Nodes) → Leads m n copy (at m (root_word copy)) t
    → (i : ℕ) → Reaches m n copy i → IsIn t i
reached_in m n copy t h _ (by_root i lt e) = at_top m n copy t _ i h e
reached_in m n copy t h _ (by_left i j r lt e) = let b =
    below m n copy t _ i h (reached_in m n copy t h i r) in
    b.in_left j (at_top m n copy b.l _ j b.leads_left e)
reached_in m n copy t h _ (by_right i j r lt e) = let b =
    below m n copy t _ i h (reached_in m n copy t h i r) in
    b.in_right j (at_top m n copy b.r _ j b.leads_right e)

-- a node of the tree is one of those listed, and the other way round
pub in_listed : (t : Nodes) (i : ℕ) → IsIn t i → Contains (listed t) i
in_listed none i is = absurd is
in_listed (fork l j r) i is =
    ⊎_elim
    (λ e. Contains-append_right (listed l) (j ∷ listed r) i (0, omega arith, sym e))
    (⊎_elim
    (λ p. Contains-append_left (listed l) (j ∷ listed r) i (in_listed l i p))
    (λ p. Contains-append_right (listed l) (j ∷ listed r) i
    (Contains-rest j i (listed r) (in_listed r i p))))
    is

pub listed_in : (t : Nodes) (i : ℕ) → Contains (listed t) i → IsIn t i
listed_in none i is = absurd (omega (arith, is.1))
listed_in (fork l j r) i is =
    ⊎_elim
    (λ a. inr (inl (listed_in l i a)))
    (λ b. ⊎_elim (λ e. inl (sym e)) (λ c. inr (inr (listed_in r i c)))
    (Contains-cons_cases j i (listed r) b))
    (Contains-append_cases (listed l) (j ∷ listed r) i is)

-- a walk comes to no node that is not listed
pub reached_listed : (m : List ℕ) (n copy : ℕ) (t : Nodes)
    → Leads m n copy (at m (root_word copy)) t → (i : ℕ) → Reaches m n copy i
    → Contains (listed t) i
reached_listed m n copy t h i r = in_listed t i (reached_in m n copy t h i r)

-- the nodes of a tree that a link leads to are nodes of the memory
pub listed_below : (m : List ℕ) (n copy link : ℕ) (t : Nodes) → Leads m n copy link t
    → AllByRecursion (λ i. i < n) (listed t)
listed_below m n copy link none h = tt
listed_below m n copy link (fork l i r) h =
    grind (
      arith,
      nat_tests,
      listed_below m n copy (at m (left_word copy i)) l h.2,
      listed_below m n copy (at m (right_word copy i)) r h.3,
      all_append,
    )
