-- A memory with more nodes holds what it held.
use Rattle.word_layout.proofs.Words.{◌≡◌, ℕ, ◌<◌, ◌≤◌, List, ◌∷◌, ◌++◌, length, refl, sym}
use Rattle.word_layout.proofs.Words.{subst, arith, length-append, replicate, cases_lt}
use Rattle.word_layout.proofs.Words.{get_or_append_left, get_or-append_right, get_or-replicate}
use Rattle.word_layout.proofs.Words.{length-replicate, Item, at, words_for}
use Rattle.word_layout.proofs.Words.{a_word, b_word, tag_word, left_word, right_word}
use Rattle.word_layout.proofs.Words.{item_at, Nodes, none, fork, items, Leads, Holds, HoldsTable}
use Rattle.std.proofs.Math.ListN.{get_or-eq_default}
use Rattle.word_layout.specs.Wider.{wider_words}
use Rattle.std.proofs.lemmas.Bool.Decides.{nat_tests}

pub length_wider : (n n' : ℕ) (m : List ℕ) → n ≤ n' → length m ≡ words_for n
    → length (wider_words n n' m) ≡ words_for n'
length_wider n n' m le sized = grind (arith, nat_tests, length-append, length-replicate)

all_zero : (k w : ℕ) → at (replicate k 0) w ≡ 0
all_zero k w =
    grind (arith, nat_tests, get_or-replicate, get_or-eq_default, length-replicate, cases_lt)

-- each word holds what it held: those after these hold 0, as a word that there is not
pub at_wider : (n n' : ℕ) (m : List ℕ) (w : ℕ) → at (wider_words n n' m) w ≡ at m w
at_wider n n' m w =
    grind (
      arith,
      nat_tests,
      get_or_append_left,
      get_or-append_right,
      all_zero,
      get_or-eq_default,
      cases_lt,
    )

-- so links lead where they led
module _ (m m' : List ℕ) (same : (w : ℕ) → at m' w ≡ at m w) (n n' copy : ℕ) (le : n ≤ n') where
  leads_wider : (t : Nodes) (link : ℕ) → Leads m n copy link t
      → Leads m' n' copy link t × (items m' t ≡ items m t)
  leads_wider none link leads = (leads, refl)
  leads_wider (fork l i r) link leads =
      let hl = leads_wider l (at m (left_word copy i)) leads.2 in
      let hr = leads_wider r (at m (right_word copy i)) leads.3 in
      let lt : i < n = leads.1 in
      let is : item_at m' i ≡ item_at m i = λ d.
      record { a = same (a_word i) d; b = same (b_word i) d; tag = same (tag_word i) d } in (
        (
          leads.0,
          omega (arith, lt, le),
          subst (λ p. Leads m' n' copy p l) (sym (same (left_word copy i))) hl.0,
          subst (λ p. Leads m' n' copy p r) (sym (same (right_word copy i))) hr.0,
        ),
        (λ d. hl.1 d ++ is d ∷ hr.1 d),
      )

  holds_there : (table : List Item) (t : Nodes) → Holds m n copy table t → Holds m' n' copy table t
  holds_there table t h = grind (arith, nat_tests, leads_wider)

pub holds_wider : (m : List ℕ) (n n' copy : ℕ) (table : List Item) (t : Nodes) → n ≤ n'
    → Holds m n copy table t → Holds (wider_words n n' m) n' copy table t
holds_wider m n n' copy table t le h =
    holds_there m (wider_words n n' m) (at_wider n n' m) n n' copy le table t h

pub table_wider : (m : List ℕ) (n n' copy : ℕ) (table : List Item) → n ≤ n'
    → HoldsTable m n copy table → HoldsTable (wider_words n n' m) n' copy table
table_wider m n n' copy table le (t, h) = (t, holds_wider m n n' copy table t le h)
