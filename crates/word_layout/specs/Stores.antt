-- Stores: what they change, and which words they are of.
use Rattle.std.specs.Prelude.{◌≡◌, ℕ, ◌<◌, ◌⊎◌, List, [], ◌∷◌, slice_set}
use Rattle.std.specs.List.{AllByRecursion}
use Rattle.word_layout.specs.declared.stores.Store.{Store}
use Rattle.word_layout.specs.Words.{root_word, a_word, b_word, tag_word, left_word, right_word}

-- the words after a store
abbrev pub words_after : List ℕ → Store → List ℕ
words_after m s = slice_set m s.word s.value

-- the words after a list of stores
abbrev pub words_after_all : List ℕ → List Store → List ℕ
words_after_all m [] = m
words_after_all m (s ∷ ss) = words_after_all (words_after m s) ss

-- a word of the item that a node has
abbrev pub IsItemWord : ℕ → ℕ → Type 0
IsItemWord i w = (w ≡ a_word i) ⊎ (w ≡ b_word i) ⊎ (w ≡ tag_word i)

-- the root or a link of one copy
abbrev pub IsLinkWord : ℕ → ℕ → ℕ → Type 0
IsLinkWord n copy w = (w ≡ root_word copy)
    ⊎ ((i : ℕ) × (i < n) × ((w ≡ left_word copy i) ⊎ (w ≡ right_word copy i)))

-- stores of one copy's root and links
abbrev pub AreLinkStores : ℕ → ℕ → List Store → Type 0
AreLinkStores n copy ss = AllByRecursion (λ s. IsLinkWord n copy s.word) ss
