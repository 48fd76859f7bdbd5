-- Where link words lie, and what stores of links leave as it was.
use Rattle.word_layout.proofs.Words.{◌+◌, ◌<◌, ◌∙◌, ◌≡◌, ◌≢◌, ◌≤◌, List, arith, inl, inr, refl, ℕ}
use Rattle.word_layout.proofs.Words.{All, AllByRecursion, All-from_recursion, all_weaker}
use Rattle.word_layout.proofs.Words.{AreLinkStores, IsItemWord, IsLinkWord, words_after_all, InUse}
use Rattle.word_layout.proofs.Words.{Reaches, a_word, at, b_word, by_left, by_right, by_root}
use Rattle.word_layout.proofs.Words.{item_at, left_word, right_word, root_word, tag_word, words_for}
use Rattle.word_layout.proofs.Words.{Store}
use Rattle.word_layout.proofs.StoreLemmas.{Agree, untouched}
use Rattle.word_layout.proofs.WordLemmas.{IsCopyWord, in_copy, link_no_item, link_no_other}
use Rattle.word_layout.proofs.WordLemmas.{link_place}
use Rattle.std.proofs.lemmas.Bool.Decides.{nat_tests}

pub left_in : (n c i : ℕ) → c ≤ 1 → i < n → left_word c i < words_for n
left_in n c i small lt = omega arith

pub right_in : (n c i : ℕ) → c ≤ 1 → i < n → right_word c i < words_for n
right_in n c i small lt = omega arith

pub links_in_range : (n copy : ℕ) (links : List Store) → copy ≤ 1 → AreLinkStores n copy links
    → All (λ (s : Store). s.word < words_for n) links
links_in_range n copy links one are =
    grind (arith, nat_tests, All-from_recursion, all_weaker, link_place)

-- links leave the words of items as they are
pub same_item : (m m' : List ℕ) (i : ℕ) → Agree (IsItemWord i) m m' → item_at m' i ≡ item_at m i
same_item m m' i same =
    λ k. record {
      a = same (a_word i) (inl refl) k;
      b = same (b_word i) (inr (inl refl)) k;
      tag = same (tag_word i) (inr (inr refl)) k;
    }

pub links_not_zero : (n copy : ℕ) (ss : List Store) → copy ≤ 1 → AreLinkStores n copy ss
    → AllByRecursion (λ (s : Store). s.word ≢ 0) ss
links_not_zero n copy ss c are = all_weaker (λ (s : Store). IsLinkWord n copy s.word)
    (λ (s : Store). s.word ≢ 0) (λ s a. (link_place n copy s.word c a).0) ss are

pub links_elsewhere : (n copy other : ℕ) (ss : List Store) → copy + other ≡ 1
    → AreLinkStores n copy ss → AllByRecursion (λ (s : Store). IsCopyWord other s.word → ⊥) ss
links_elsewhere n copy other ss c are = grind (arith, nat_tests, all_weaker, link_no_other)

pub zero_kept : (m : List ℕ) (ss : List Store) → AllByRecursion (λ (s : Store). s.word ≢ 0) ss
    → at (words_after_all m ss) 0 ≡ at m 0
zero_kept m ss away = untouched (λ w. w ≡ 0) m ss away 0 refl

pub not_in_use : (m : List ℕ) (n c : ℕ) (ss : List Store)
    → AllByRecursion (λ (s : Store). IsCopyWord c s.word → ⊥) ss
    → AllByRecursion (λ (s : Store). InUse m n c s.word → ⊥) ss
not_in_use m n c ss h = all_weaker (λ (s : Store). IsCopyWord c s.word → ⊥)
    (λ (s : Store). InUse m n c s.word → ⊥) (λ s a u. a (in_copy m n c s.word u)) ss h

-- a walk comes to the same nodes where the words in use are the same
pub reaches_on : (m m' : List ℕ) (n copy : ℕ) → ((w : ℕ) → InUse m n copy w → at m' w ≡ at m w)
    → (i : ℕ) → Reaches m n copy i → Reaches m' n copy i
reaches_on m m' n copy same _ (by_root i lt e) = by_root i lt (same (root_word copy) (inl refl) ∙ e)
reaches_on m m' n copy same _ (by_left i j r lt e) = by_left i j (reaches_on m m' n copy same i r)
    lt (same (left_word copy i) (inr (i, r, inr (inr (inr (inl refl))))) ∙ e)
reaches_on m m' n copy same _ (by_right i j r lt e) = by_right i j (reaches_on m m' n copy same i r)
    lt (same (right_word copy i) (inr (i, r, inr (inr (inr (inr refl))))) ∙ e)

-- links leave the items
pub item_kept : (m : List ℕ) (n c : ℕ) (links : List Store) (i : ℕ) → c ≤ 1
    → AreLinkStores n c links →
    item_at (words_after_all m links) i ≡ item_at m i
item_kept m n c links i small are =
    let away = all_weaker (λ (s : Store). IsLinkWord n c s.word) (λ s. IsItemWord i s.word → ⊥)
    (λ s l. link_no_item n c i s.word small l) links are in
    let ea = untouched (IsItemWord i) m links away (a_word i) (inl refl) in
    let eb = untouched (IsItemWord i) m links away (b_word i) (inr (inl refl)) in
    let et = untouched (IsItemWord i) m links away (tag_word i) (inr (inr refl)) in
    λ d. record { a = ea d; b = eb d; tag = et d }
