-- When two memories hold the same table in one copy.
use Rattle.word_layout.proofs.Words.{◌≡◌, ℕ, suc, ◌+◌, ◌<◌, List, ◌∷◌, ◌++◌, length, refl, sym, ◌∙◌}
use Rattle.word_layout.proofs.Words.{subst, inl, inr, arith, length-append, AllByRecursion, Item}
use Rattle.word_layout.proofs.Words.{Store, at, root_word, a_word, b_word, tag_word, left_word}
use Rattle.word_layout.proofs.Words.{right_word, item_at, Nodes, none, fork, listed, items, Leads}
use Rattle.word_layout.proofs.Words.{Holds, HoldsTable, Reaches, by_root, by_left, by_right, InUse}
use Rattle.word_layout.proofs.Words.{words_after_all, ap, get_or-set_other, get_or-set_same}
use Rattle.word_layout.proofs.Words.{slice_set, words_after}
use Rattle.word_layout.proofs.WordLemmas.{IsCopyWord, in_copy}
use Rattle.word_layout.proofs.StoreLemmas.{Agree, untouched}
use Rattle.word_layout.proofs.WordLemmas.{used_not_zero}
use Rattle.std.proofs.lemmas.Bool.Decides.{nat_tests}

-- how many nodes a tree has
abbrev pub size : Nodes → ℕ
size none = 0
size (fork l i r) = suc (size l + size r)

pub size_items : (m : List ℕ) (t : Nodes) → length (items m t) ≡ size t
size_items m none = refl
size_items m (fork l i r) = omega
    (arith, length-append (items m l) (item_at m i ∷ items m r), size_items m l, size_items m r)

pub size_listed : (t : Nodes) → length (listed t) ≡ size t
size_listed none = refl
size_listed (fork l i r) =
    omega (arith, length-append (listed l) (i ∷ listed r), size_listed l, size_listed r)

-- a memory that has the same words in use holds the same, in the same tree
pub leads_on : (m m' : List ℕ) (n copy : ℕ) → ((w : ℕ) → InUse m n copy w → at m' w ≡ at m w)
    → (t : Nodes) (link : ℕ) → ((i : ℕ) → link ≡ suc i → i < n → Reaches m n copy i)
    → Leads m n copy link t → Leads m' n copy link t × (items m' t ≡ items m t)
leads_on m m' n copy same none link reached leads = (leads, refl)
leads_on m m' n copy same (fork l i r) link reached leads =
    let here : Reaches m n copy i = reached i leads.0 leads.1 in
    let ea : at m' (a_word i) ≡ at m (a_word i) = same (a_word i) (inr (i, here, inl refl)) in
    let eb : at m' (b_word i) ≡ at m (b_word i) = same (b_word i) (inr (i, here, inr (inl refl))) in
    let et : at m' (tag_word i) ≡ at m (tag_word i) =
    same (tag_word i) (inr (i, here, inr (inr (inl refl)))) in
    let el : at m' (left_word copy i) ≡ at m (left_word copy i) =
    same (left_word copy i) (inr (i, here, inr (inr (inr (inl refl))))) in
    let er : at m' (right_word copy i) ≡ at m (right_word copy i) =
    same (right_word copy i) (inr (i, here, inr (inr (inr (inr refl))))) in
    let hl = leads_on m m' n copy same l (at m (left_word copy i)) (λ j e lt. by_left i j here lt e)
    leads.2 in
    let hr = leads_on m m' n copy same r (at m (right_word copy i))
    (λ j e lt. by_right i j here lt e) leads.3 in
    let is : item_at m' i ≡ item_at m i = λ d. record { a = ea d; b = eb d; tag = et d } in (
      (
        leads.0,
        leads.1,
        subst (λ p. Leads m' n copy p l) (sym el) hl.0,
        subst (λ p. Leads m' n copy p r) (sym er) hr.0,
      ),
      (λ d. hl.1 d ++ is d ∷ hr.1 d),
    )

pub tree_on : (m m' : List ℕ) (n copy : ℕ) (table : List Item) (t : Nodes)
    → ((w : ℕ) → InUse m n copy w → at m' w ≡ at m w) → Holds m n copy table t
    → Holds m' n copy table t
tree_on m m' n copy table t same h =
    let k =
    leads_on m m' n copy same t (at m (root_word copy)) (λ i e lt. by_root i lt e) h.leads in
    record {
      leads = subst (λ p. Leads m' n copy p t) (sym (same (root_word copy) (inl refl))) k.0;
      listed_items = k.1 ∙ h.listed_items;
    }

pub holds_on : (m m' : List ℕ) (n copy : ℕ) (table : List Item)
    → ((w : ℕ) → InUse m n copy w → at m' w ≡ at m w) → HoldsTable m n copy table
    → HoldsTable m' n copy table
holds_on m m' n copy table same (t, h) = (t, tree_on m m' n copy table t same h)

-- the same, where all words of the copy agree
pub tree_agree : (m m' : List ℕ) (n copy : ℕ) (table : List Item) (t : Nodes)
    → Agree (IsCopyWord copy) m m' → Holds m n copy table t → Holds m' n copy table t
tree_agree m m' n copy table t same h =
    tree_on m m' n copy table t (λ w u. same w (in_copy m n copy w u)) h

-- stores of words that are not in use in a copy leave its tree and its table
pub tree_untouched : (m : List ℕ) (n copy : ℕ) (table : List Item) (t : Nodes) (ss : List Store)
    → AllByRecursion (λ (s : Store). InUse m n copy s.word → ⊥) ss → Holds m n copy table t
    → Holds (words_after_all m ss) n copy table t
tree_untouched m n copy table t ss away h =
    tree_on m (words_after_all m ss) n copy table t (untouched (InUse m n copy) m ss away) h

pub holds_untouched : (m : List ℕ) (n copy : ℕ) (table : List Item) (ss : List Store)
    → AllByRecursion (λ (s : Store). InUse m n copy s.word → ⊥) ss → HoldsTable m n copy table
    → HoldsTable (words_after_all m ss) n copy table
holds_untouched m n copy table ss away (t, h) = (t, tree_untouched m n copy table t ss away h)

-- a store of word 0, and one that adds one to it
pub flip_same : (n copy : ℕ) (m : List ℕ) (s : Store) → s.word ≡ 0 → (w : ℕ) → InUse m n copy w
    → at (words_after m s) w ≡ at m w
flip_same n copy m s z w u = grind (arith, nat_tests, used_not_zero, get_or-set_other)

pub flip_adds : (m : List ℕ) (s : Store) → 0 < length m → s.word ≡ 0 → s.value ≡ at m 0 + 1
    → at (words_after m s) 0 ≡ at m 0 + 1
flip_adds m s sized z v =
    ap (λ i. at (slice_set m i s.value) 0) z ∙ get_or-set_same m 0 s.value 0 sized ∙ v
