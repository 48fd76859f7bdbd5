-- Stores of links of certain nodes alone: what they leave.
use Rattle.word_layout.proofs.Words.{◌≡◌, ◌≢◌, ℕ, ◌<◌, ◌≤◌, List, [], ◌∷◌, ◌++◌, subst, inr, ⊎_elim}
use Rattle.word_layout.proofs.Words.{arith, ◌⊎◌, AllByRecursion, Store, at, left_word, right_word}
use Rattle.word_layout.proofs.Words.{root_word, words_after_all, AreLinkStores}
use Rattle.word_layout.proofs.StoreLemmas.{untouched}
use Rattle.std.proofs.lemmas.Bool.Decides.{nat_tests}

abbrev pub IsLinkOf : ℕ → ℕ → ℕ → Type 0
IsLinkOf c i w = (w ≡ left_word c i) ⊎ (w ≡ right_word c i)

pub link_owner : (c i j w : ℕ) → IsLinkOf c i w → IsLinkOf c j w → i ≡ j
link_owner c i j w a b = grind (arith, nat_tests)

-- stores of links of these nodes, each of a link to one of n nodes
abbrev pub Owns : ℕ → ℕ → (ℕ → Type 0) → List Store → Type 0
Owns n c P ss =
    AllByRecursion (λ (s : Store). ((i : ℕ) × P i × IsLinkOf c i s.word) × (s.value ≤ n)) ss

pub owns_append : (n c : ℕ) (P : ℕ → Type 0) (ss ts : List Store) → Owns n c P ss → Owns n c P ts
    → Owns n c P (ss ++ ts)
owns_append n c P [] ts h k = k
owns_append n c P (s ∷ ss) ts h k = (h.0, owns_append n c P ss ts h.1 k)

pub owns_weaker : (n c : ℕ) (P Q : ℕ → Type 0) → ((i : ℕ) → P i → Q i) → (ss : List Store)
    → Owns n c P ss → Owns n c Q ss
owns_weaker n c P Q w [] h = tt
owns_weaker n c P Q w (s ∷ ss) h =
    ((((h.0.0).0, w (h.0.0).0 (h.0.0).1, (h.0.0).2), h.0.1), owns_weaker n c P Q w ss h.1)

owns_away : (n c : ℕ) (P : ℕ → Type 0) (i : ℕ) → (P i → ⊥) → (ss : List Store) → Owns n c P ss
    → AllByRecursion (λ (s : Store). IsLinkOf c i s.word → ⊥) ss
owns_away n c P i off [] h = tt
owns_away n c P i off (s ∷ ss) h = (
  (λ is. off (subst P (link_owner c (h.0.0).0 i s.word (h.0.0).2 is) (h.0.0).1)),
  owns_away n c P i off ss h.1,
)

-- links of other nodes stay
pub link_kept : (n c : ℕ) (P : ℕ → Type 0) (m : List ℕ) (ss : List Store) → Owns n c P ss
    → (i w : ℕ) → (P i → ⊥) → IsLinkOf c i w → at (words_after_all m ss) w ≡ at m w
link_kept n c P m ss h i w off is = untouched (IsLinkOf c i) m ss (owns_away n c P i off ss h) w is

-- none of them is the root's, and each is one of the memory
pub root_no_link : (c i w : ℕ) → IsLinkOf c i w → w ≢ root_word c
root_no_link c i w is e = ⊎_elim (λ f. absurd (omega arith)) (λ f. absurd (omega arith)) is

pub owns_no_root : (n c : ℕ) (P : ℕ → Type 0) (ss : List Store) → Owns n c P ss
    → AllByRecursion (λ (s : Store). s.word ≡ root_word c → ⊥) ss
owns_no_root n c P [] h = tt
owns_no_root n c P (s ∷ ss) h =
    (root_no_link c (h.0.0).0 s.word (h.0.0).2, owns_no_root n c P ss h.1)

pub owns_links : (n c : ℕ) (P : ℕ → Type 0) → ((i : ℕ) → P i → i < n) → (ss : List Store)
    → Owns n c P ss → AreLinkStores n c ss
owns_links n c P below [] h = tt
owns_links n c P below (s ∷ ss) h =
    (inr ((h.0.0).0, below (h.0.0).0 (h.0.0).1, (h.0.0).2), owns_links n c P below ss h.1)

pub owns_values : (n c : ℕ) (P : ℕ → Type 0) (ss : List Store) → Owns n c P ss
    → AllByRecursion (λ (s : Store). s.value ≤ n) ss
owns_values n c P [] h = tt
owns_values n c P (s ∷ ss) h = (h.0.1, owns_values n c P ss h.1)
