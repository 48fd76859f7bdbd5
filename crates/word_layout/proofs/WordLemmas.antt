-- Where words lie: words of different fields, nodes and copies differ.
use Rattle.word_layout.proofs.Words.{◌≡◌, ◌≢◌, ℕ, ◌+◌, ◌*◌, ◌<◌, ◌≤◌, List, inl, inr, ⊎_elim}
use Rattle.word_layout.proofs.Words.{arith, ◌⊎◌, words_per_node, words_for, root_word, left_word}
use Rattle.word_layout.proofs.Words.{right_word, IsWordOf, InUse, Reaches, IsItemWord, IsLinkWord}
use Rattle.std.proofs.lemmas.Bool.Decides.{nat_tests}

-- a word that readers of this copy could load
abbrev pub IsCopyWord : ℕ → ℕ → Type 0
IsCopyWord copy w = (w ≡ root_word copy) ⊎ ((i : ℕ) × IsWordOf copy i w)

pub in_copy : (m : List ℕ) (n copy w : ℕ) → InUse m n copy w → IsCopyWord copy w
in_copy m n copy w u = ⊎_elim (λ e. inl e) (λ (i, r, is). inr (i, is)) u

-- which of a node's words a word is
pub of_item : (i w : ℕ) → IsItemWord i w → (k : ℕ) × (k < 3) × (w ≡ 3 + k + words_per_node * i)
of_item i w is = ⊎_elim (λ e. (0, omega arith, omega arith))
    (⊎_elim (λ e. (1, omega arith, omega arith)) (λ e. (2, omega arith, omega arith))) is

pub of_word : (copy i w : ℕ) → copy ≤ 1 → IsWordOf copy i w
    → (k : ℕ) × (k < words_per_node) × (w ≡ 3 + k + words_per_node * i)
of_word copy i w c is =
    ⊎_elim (λ e. (0, omega arith, omega arith))
    (⊎_elim (λ e. (1, omega arith, omega arith))
    (⊎_elim (λ e. (2, omega arith, omega arith))
    (⊎_elim (λ e. (3 + 2 * copy, omega arith, omega arith))
    (λ e. (4 + 2 * copy, omega arith, omega arith))))) is

-- a word of two nodes makes them one
pub one_node : (copy i j w : ℕ) → copy ≤ 1 → IsItemWord i w → IsWordOf copy j w → j ≡ i
one_node copy i j w c a b = grind (arith, nat_tests, of_item, of_word)

pub one_item : (i j w : ℕ) → IsItemWord i w → IsItemWord j w → j ≡ i
one_item i j w a b = grind (arith, nat_tests, of_item)

-- a root or a link is no item word, no word of the other copy, and not the sequence
pub link_no_item : (n copy i w : ℕ) → copy ≤ 1 → IsLinkWord n copy w → IsItemWord i w → ⊥
link_no_item n copy i w c l is = grind (arith, nat_tests, of_item)

pub link_no_other : (n copy other w : ℕ) → copy + other ≡ 1 → IsLinkWord n copy w
    → IsCopyWord other w → ⊥
link_no_other n copy other w c l is = grind (arith, nat_tests, of_word)

pub link_place : (n copy w : ℕ) → copy ≤ 1 → IsLinkWord n copy w → (w ≢ 0) × (w < words_for n)
link_place n copy w c l = grind (arith, nat_tests)

pub item_place : (n i w : ℕ) → i < n → IsItemWord i w → (w ≢ 0) × (w < words_for n)
item_place n i w lt is = grind (arith, nat_tests, of_item)

-- an item word is neither the sequence nor a root nor a link
pub item_not_zero : (i w : ℕ) → IsItemWord i w → w ≢ 0
item_not_zero i w is z = let x = of_item i w is in let xe = x.2 in absurd (omega arith)

pub item_not_root : (i copy : ℕ) → copy ≤ 1 → IsItemWord i (root_word copy) → ⊥
item_not_root i copy c is = grind (arith, nat_tests, of_item)

pub item_not_left : (i copy j : ℕ) → copy ≤ 1 → IsItemWord i (left_word copy j) → ⊥
item_not_left i copy j c is = grind (arith, nat_tests, of_item)

pub item_not_right : (i copy j : ℕ) → copy ≤ 1 → IsItemWord i (right_word copy j) → ⊥
item_not_right i copy j c is = grind (arith, nat_tests, of_item)

-- word 0 is no word of a copy, and in no use
pub copy_not_zero : (copy w : ℕ) → IsCopyWord copy w → w ≢ 0
copy_not_zero copy w is z = grind (arith, nat_tests)

pub used_not_zero : (m : List ℕ) (n copy w : ℕ) → InUse m n copy w → w ≢ 0
used_not_zero m n copy w u = copy_not_zero copy w (in_copy m n copy w u)

-- an item word of a node that this copy does not reach is in no use there
pub unused_item : (m : List ℕ) (n copy node w : ℕ) → copy ≤ 1 → (Reaches m n copy node → ⊥)
    → IsItemWord node w → InUse m n copy w → ⊥
unused_item m n copy node w c free is u = grind (arith, nat_tests, of_item, one_node)

-- the links of one copy differ from one another
pub left_not_right : (copy i j : ℕ) → left_word copy i ≢ right_word copy j
left_not_right copy i j e = absurd (omega arith)

pub left_not_left : (copy i j : ℕ) → i ≢ j → left_word copy i ≢ left_word copy j
left_not_left copy i j ne e = ne (omega arith)

pub right_not_right : (copy i j : ℕ) → i ≢ j → right_word copy i ≢ right_word copy j
right_not_right copy i j ne e = ne (omega arith)
