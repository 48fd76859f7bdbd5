-- From the links inside a tree to what a copy holds.
use Rattle.rb_trees.proofs.Words.{◌≡◌, ℕ, ◌<◌, ◌≤◌, true, false, cond, List, [], ◌∷◌, ◌++◌, length}
use Rattle.rb_trees.proofs.Words.{map, refl, sym, ◌∙◌, ap, subst, inl, inr, ⊎_elim, arith, ◌==◌}
use Rattle.rb_trees.proofs.Words.{Contains, slice_set, AllByRecursion, eqb-true, map-append}
use Rattle.rb_trees.proofs.Words.{Contains-append_left, Contains-append_right, all_append, all_left}
use Rattle.rb_trees.proofs.Words.{all_right, Contains-rest, Store, Nodes, none, fork, at, root_word}
use Rattle.rb_trees.proofs.Words.{left_word, right_word, item_at, items, listed, words_for, Leads}
use Rattle.rb_trees.proofs.Words.{words_after_all, AreLinkStores, at_stored, at_other}
use Rattle.rb_trees.proofs.Words.{untouched, after_append, length_after, Record, ColouredTree, tip}
use Rattle.rb_trees.proofs.Words.{branch, shape, rows, link, relink_root, Among, LeadLinks}
use Rattle.rb_trees.proofs.Words.{items_of_records, IsLinkOf, root_no_link, owns_no_root}
use Rattle.rb_trees.proofs.Words.{owns_links, owns_values, Relinks, length-map, Inner}
use Rattle.rb_trees.proofs.RelinkLemmas.{link_fits}
use Rattle.std.proofs.lemmas.Bool.Decides.{nat_tests}

pub leads_link : (m : List ℕ) (n c w : ℕ) (t : Nodes) → Leads m n c w t → w ≡ link t
leads_link m n c w none h = h
leads_link m n c w (fork l i r) h = h.0

pub leads_inner : (m : List ℕ) (n c w : ℕ) (t : Nodes) → Leads m n c w t → Inner m c t
leads_inner m n c w none h = tt
leads_inner m n c w (fork l i r) h = (
  leads_link m n c (at m (left_word c i)) l h.2,
  leads_link m n c (at m (right_word c i)) r h.3,
  leads_inner m n c (at m (left_word c i)) l h.2,
  leads_inner m n c (at m (right_word c i)) r h.3,
)

pub inner_leads : (m : List ℕ) (n c : ℕ) (t : Nodes) → ((i : ℕ) → Among t i → i < n) → Inner m c t
    → Leads m n c (link t) t
inner_leads m n c none below h = refl
inner_leads m n c (fork l i r) below h = (
  refl,
  below i (inl refl),
  subst (λ w. Leads m n c w l) (sym h.0) (inner_leads m n c l (λ j a. below j (inr (inl a))) h.2),
  subst (λ w. Leads m n c w r) (sym h.1) (inner_leads m n c r (λ j a. below j (inr (inr a))) h.3),
)

pub inner_same : (m m' : List ℕ) (c : ℕ) (t : Nodes)
    → ((i w : ℕ) → IsLinkOf c i w → at m' w ≡ at m w) → Inner m c t → Inner m' c t
inner_same m m' c none same h = tt
inner_same m m' c (fork l i r) same h = (
  same i (left_word c i) (inl refl) ∙ h.0,
  same i (right_word c i) (inr refl) ∙ h.1,
  inner_same m m' c l same h.2,
  inner_same m m' c r same h.3,
)

-- with the link of the root
module _ (n c : ℕ) (small : c ≤ 1) (P : ℕ → Type 0) (below : (i : ℕ) → P i → i < n) (t u : Nodes)
    (ss : List Store) (q : Relinks n c P t u ss) where
  root_fits : link u ≤ n
  root_fits = link_fits n u (λ i a. below i (q.within i a))

  root_links : AreLinkStores n c (ss ++ relink_root c (link t) (link u))
  root_links = grind (arith, nat_tests, all_append, owns_links)

  root_values : AllByRecursion (λ (s : Store). s.value ≤ n) (ss ++ relink_root c (link t) (link u))
  root_values = grind (arith, nat_tests, all_append, owns_values, root_fits)

  root_leads : (m : List ℕ) → length m ≡ words_for n → Leads m n c (at m (root_word c)) t
      → Leads (words_after_all m (ss ++ relink_root c (link t) (link u))) n c
      (at (words_after_all m (ss ++ relink_root c (link t) (link u))) (root_word c)) u
  root_leads m sized h =
      let m1 = words_after_all m ss in
      let low : (i : ℕ) → Among u i → i < n = λ i a. below i (q.within i a) in
      let len1 : length m1 ≡ words_for n = length_after m ss ∙ sized in
      let root1 : at m1 (root_word c) ≡ link t =
      untouched (λ w. w ≡ root_word c) m ss (owns_no_root n c P ss q.owns) (root_word c) refl
      ∙ leads_link m n c (at m (root_word c)) t h in
      let in1 : Inner m1 c u = q.leads m sized (leads_inner m n c (at m (root_word c)) t h) in
      let m2 = slice_set m1 (root_word c) (link u) in
      let in2 : Inner m2 c u = inner_same m1 m2 c u
      (λ i w is. at_other m1 (root_word c) (link u) w (root_no_link c i w is)) in1 in
      subst (λ w. Leads w n c (at w (root_word c)) u)
      (sym (after_append m ss (relink_root c (link t) (link u))))
      (elim (link t == link u) as (λ b. (link t == link u) ≡ b → Leads (words_after_all m1
      (cond b [] (record { word = root_word c; value = link u } ∷ []))) n c (at (words_after_all
      m1 (cond b [] (record { word = root_word c; value = link u } ∷ []))) (root_word c)) u) [
        | true ↦ λ e. subst (λ w. Leads m1 n c w u) (sym (root1 ∙ eqb-true (link t) (link u) e))
            (inner_leads m1 n c u low in1)
        | false ↦ λ e. subst (λ w. Leads m2 n c w u)
            (sym (at_stored m1 (root_word c) (link u) (omega (arith, len1))))
            (inner_leads m2 n c u low in2)
      ] refl)

  pub lead_links : LeadLinks n c t u (ss ++ relink_root c (link t) (link u))
  lead_links = record { words = root_links; values = root_values; leads = root_leads }

-- nodes as a list
pub listed_rows : (t : ColouredTree) → listed (shape t) ≡ map (λ r. r.node) (rows t)
listed_rows tip = refl
listed_rows (branch red l y r) = grind (arith, nat_tests, listed_rows l, listed_rows r, map-append)

pub as_many_rows : (t : ColouredTree)
    → length (listed (shape t)) ≡ length (items_of_records (rows t))
as_many_rows t = ap length (listed_rows t) ∙ length-map (rows t) (λ r. r.node)
    ∙ sym (length-map (rows t) (λ r. r.item))

pub all_among : (P : ℕ → Type 0) (t : Nodes) → AllByRecursion P (listed t) → (i : ℕ) → Among t i
    → P i
all_among P none h i a = absurd a
all_among P (fork l j r) h i a =
    let right = all_right P (listed l) (j ∷ listed r) h in
    ⊎_elim (λ e. subst P (sym e) right.0)
    (⊎_elim (λ b. all_among P l (all_left P (listed l) (j ∷ listed r) h) i b)
    (λ b. all_among P r right.1 i b)) a

pub among_listed : (t : Nodes) (i : ℕ) → Among t i → Contains (listed t) i
among_listed none i a = absurd a
among_listed (fork l j r) i a =
    ⊎_elim (λ e. Contains-append_right (listed l) (j ∷ listed r) i (0, omega arith, sym e))
    (⊎_elim (λ b. Contains-append_left (listed l) (j ∷ listed r) i (among_listed l i b))
    (λ b. Contains-append_right (listed l) (j ∷ listed r) i
    (Contains-rest j i (listed r) (among_listed r i b)))) a

-- items as a list
pub items_rows : (m : List ℕ) (t : ColouredTree)
    → items m (shape t) ≡ map (λ r. item_at m r.node) (rows t)
items_rows m tip = refl
items_rows m (branch red l y r) =
    grind (arith, nat_tests, items_rows m l, items_rows m r, map-append)

abbrev pub Stored : List ℕ → List Record → Type 0
Stored m rs = AllByRecursion (λ r. item_at m r.node ≡ r.item) rs

stored_list : (m : List ℕ) (rs : List Record) → Stored m rs
    → map (λ r. item_at m r.node) rs ≡ items_of_records rs
stored_list m [] h = refl
stored_list m (r ∷ rs) h =
    ap (λ i. i ∷ map (λ r. item_at m r.node) rs) h.0 ∙ ap (λ xs. r.item ∷ xs) (stored_list m rs h.1)

list_stored : (m : List ℕ) (rs : List Record) → map (λ r. item_at m r.node) rs ≡ items_of_records rs
    → Stored m rs
list_stored m [] e = tt
list_stored m (r ∷ rs) e =
    let first : item_at m r.node ≡ r.item = cc in
    let rest : map (λ r. item_at m r.node) rs ≡ items_of_records rs = cc in
    (first, list_stored m rs rest)

pub stored_items : (m : List ℕ) (t : ColouredTree) → Stored m (rows t)
    → items m (shape t) ≡ items_of_records (rows t)
stored_items m t h = items_rows m t ∙ stored_list m (rows t) h

pub items_stored : (m : List ℕ) (t : ColouredTree) → items m (shape t) ≡ items_of_records (rows t)
    → Stored m (rows t)
items_stored m t e = list_stored m (rows t) (sym (items_rows m t) ∙ e)
