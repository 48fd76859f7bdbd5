-- The items of a table replaced by others: the tree that the writer's seat reads, and the update.
use Rattle.latch_table.proofs.Words.{◌≡◌, ℕ, suc, ◌+◌, ◌-◌, ◌*◌, ◌<◌, ◌≤◌, true, false, List, []}
use Rattle.latch_table.proofs.Words.{◌∷◌, ◌++◌, length, None, refl, sym, ◌∙◌, ap, subst, append-nil}
use Rattle.latch_table.proofs.Words.{length-append, take, arith, take_all, is_some, Me, TableId}
use Rattle.latch_table.proofs.Words.{Item, Order, IsLawful, IsTable, at, item_at, root_word}
use Rattle.latch_table.proofs.Words.{left_word, right_word, Nodes, none, fork, listed, items}
use Rattle.latch_table.proofs.Words.{size_items, size_listed, Update, after, refusal_for, replay}
use Rattle.latch_table.proofs.Words.{Difference, replacement, is_rising, update_found, Tells}
use Rattle.latch_table.proofs.Words.{WriterView, IsMemoryAtRest, words_after_all, table_at_rest}
use Rattle.latch_table.proofs.Words.{Knowledge, WriterKnowledge, writer_of, writer_knowledge}
use Rattle.latch_table.proofs.Words.{WriterState, writer_state, writer_refusal, pending_of, IsTied}
use Rattle.latch_table.proofs.Words.{LeadsToFew, TellsTree, IsReplacement, ◌≢◌}
use Rattle.word_layout.specs.Words.{Leads}
use Rattle.latch_core.proofs.ReplacementLemmas.{tells_both, replaced_table, table_rises}

-- ---- the tree that is read

module _ (m : List ℕ) (n link : ℕ) where
  -- a link to no node
  pub no_tree : link ≡ 0 → (t : Nodes) → Leads m n 0 link t → t ≡ none
  no_tree z none h = refl
  no_tree z (fork l i r) h = absurd (let e : 0 ≡ suc i = sym z ∙ h.0 in cc)

  -- a link to node i, whose links lead on
  module _ (i : ℕ) (is : link ≡ suc i) where
    pub forked : (t : Nodes) → Leads m n 0 link t
        → (l : Nodes) × (r : Nodes) × (t ≡ fork l i r) × (i < n)
        × Leads m n 0 (at m (left_word 0 i)) l × Leads m n 0 (at m (right_word 0 i)) r
    forked none h = absurd (let e : 0 ≡ suc i = sym h ∙ is in cc)
    forked (fork l j r) h =
        let same : j ≡ i = (let e : suc j ≡ suc i = sym h.0 ∙ is in cc) in (
          l,
          r,
          (λ d. fork l (same d) r),
          subst (λ k. k < n) same h.1,
          subst (λ k. Leads m n 0 (at m (left_word 0 k)) l) same h.2,
          subst (λ k. Leads m n 0 (at m (right_word 0 k)) r) same h.3,
        )

    pub few_below : (most : ℕ) → LeadsToFew m n link most
        → (i < n) × (0 < most) × LeadsToFew m n (at m (left_word 0 i)) (most - 1)
        × LeadsToFew m n (at m (right_word 0 i)) (most - 1)
    few_below most (t, leads, few) =
        let f = forked t leads in
        let count : length (listed t) ≡ length (listed f.0) + suc (length (listed f.1)) =
        ap (λ u. length (listed u)) f.2 ∙ length-append (listed f.0) (i ∷ listed f.1) in (
          f.3,
          omega (arith, count, few),
          (f.0, f.4, omega (arith, count, few)),
          (f.1, f.5, omega (arith, count, few)),
        )

    -- the items of the left tree, the node's and those of the right tree
    pub tells_fork : {K : Type 0} (o : Order K) (list : List Item) (d d1 d2 d3 : Difference)
        → TellsTree o list m n (at m (left_word 0 i)) d d1 → Tells o list d1 (item_at m i ∷ []) d2
        → TellsTree o list m n (at m (right_word 0 i)) d2 d3 → TellsTree o list m n link d d3
    tells_fork o list d d1 d2 d3 left here right t h =
        let f = forked t h in
        subst (λ xs. Tells o list d xs d3) (ap (items m) (sym f.2))
        (tells_both o list d d1 d3 (items m f.0) (item_at m i ∷ items m f.1) (left f.0 f.4)
        (tells_both o list d1 d2 d3 (item_at m i ∷ []) (items m f.1) here (right f.1 f.5)))

  pub few_here : (most : ℕ) → link ≢ 0 → LeadsToFew m n link most
      → (link - 1 < n) × (0 < most) × LeadsToFew m n (at m (left_word 0 (link - 1))) (most - 1)
      × LeadsToFew m n (at m (right_word 0 (link - 1))) (most - 1)
  few_here most some = few_below (link - 1) (omega (arith, some)) most

-- the same in the words that a seat knows after a load
pub few_there : (m : List ℕ) (n most : ℕ) (m' : List ℕ) (link' link : ℕ) → m' ≡ m → link' ≡ link
    → LeadsToFew m n link most
    → LeadsToFew m' n link' most
few_there m n most m' link' link words same few =
    subst (λ e. LeadsToFew m' n e most) (sym same)
    (subst (λ z. LeadsToFew z n link most) (sym words) few)

pub tells_there : {K : Type 0} (o : Order K) (list : List Item) (n : ℕ) (m m' : List ℕ)
    (link' link : ℕ) (d d' : Difference) → m' ≡ m
    → link' ≡ link → TellsTree o list m' n link' d d' → TellsTree o list m n link d d'
tells_there o list n m m' link' link d d' words same told =
    subst (λ e. TellsTree o list m n e d d') same
    (subst (λ z. TellsTree o list z n link' d d') words told)

pub still_writes : (s s' : Me (Unit {0}) Knowledge) → s' ≡ s
    → s ≡ (writer_knowledge (writer_of s.0), [])
    → s' ≡ (writer_knowledge (writer_of s'.0), [])
still_writes s s' same writes =
    subst (λ z. z ≡ (writer_knowledge (writer_of z.0), [])) (sym same) writes

-- ---- the update

module _ {S K : Type 0} (o : Order K) (law : IsLawful o) (place : TableId) (readers : ℕ)
    (m : Me S Knowledge) (core : WriterView) where
  abbrev here : WriterState
  here = writer_state place readers m.0 core

  abbrev p : WriterKnowledge
  p = writer_of m.0

  module _ (tied : IsTied o m core here) (idle : core.stores_left ≡ []) where
    at_rest : IsMemoryAtRest core p.picture
    at_rest =
        subst (λ ss. IsMemoryAtRest core (words_after_all p.picture ss)) idle tied.pictures.at_rest

    pub leads_to_few : LeadsToFew p.picture core.capacity (at p.picture (root_word 0))
        (length core.table)
    leads_to_few =
        let zero = at_rest.zero in (
          core.zero_tree,
          zero.leads,
          omega (
            arith,
            size_items p.picture core.zero_tree,
            size_listed core.zero_tree,
            ap length zero.listed_items,
          ),
        )

    rests : here.latch.pending ≡ None
    rests = ap (λ ss. pending_of ss p) idle

    newest_is_table : IsTable o core.table
    newest_is_table = subst (IsTable o) (sym tied.sound.table_is)
        (table_at_rest o core.capacity (2 * p.base) p.accepted here.latch tied.sound)

    -- what was found is the replacement, and leaves the items of the list
    module _ (list : List Item) (rises : is_rising o list ≡ true) (d d' : Difference) where
      pub all_told : ((table items : List Item)
          → update_found d items table ≡ replacement table items)
          → TellsTree o list p.picture core.capacity (at p.picture (root_word 0)) d d'
          → update_found d' list [] ≡ replacement core.table list
      all_told new told =
          let zero = at_rest.zero in
          let of_table : Tells o list d core.table d' = subst (λ xs. Tells o list d xs d')
          zero.listed_items (told core.zero_tree zero.leads) in
          let whole : core.table ++ [] ≡ core.table = append-nil core.table in
          of_table [] (subst (λ xs. is_rising o xs ≡ true) (sym whole)
          (table_rises o law core.table newest_is_table))
          ∙ new (core.table ++ []) list ∙ ap (λ t. replacement t list) whole

    newest_fits : length core.table ≤ core.capacity
    newest_fits =
        let whole : take (length p.accepted) p.accepted ≡ p.accepted =
        take_all (length p.accepted) p.accepted (omega arith) in
        subst (λ t. length t ≤ core.capacity) (sym tied.sound.table_is)
        (subst (λ us. length (replay o [] us) ≤ core.capacity) whole
        (tied.sound.tables (length p.accepted)).1)

    pub is_replacement : (list : List Item) (u : Update) → is_rising o list ≡ true
        → u ≡ replacement core.table list
        → IsReplacement o here list u
    is_replacement list u rises is =
        record {
          rests = rests;
          rises = rises;
          is = is;
          leaves =
              λ free. ap (after o core.table) is ∙ replaced_table o law core.capacity core.limit
              core.table list (at p.picture 0) newest_is_table newest_fits rises (accepted free);
        }
      where
        accepted : writer_refusal o here u ≡ None → refusal_for o core.capacity core.limit false
            core.table (at p.picture 0) (replacement core.table list) ≡ None
        accepted free = (λ i. refusal_for o core.capacity core.limit (is_some (sym rests i))
            core.table (at p.picture 0) (sym is i)) ∙ free
