-- What is said of a node of a tree, by its sides.
use Rattle.rb_trees.proofs.Words.{◌≡◌, ◌≢◌, ℕ, suc, ◌<◌, ◌≤◌, List, refl, sym, inl, inr, ⊎_elim}
use Rattle.rb_trees.proofs.Words.{◌⊎◌, IsLinkOf, Nodes, fork, at, words_for, Record, Side, Left}
use Rattle.rb_trees.proofs.Words.{Right, ColouredTree, is_red, shape, opposite, sided, link_word}
use Rattle.rb_trees.proofs.Words.{link, Among, IsSeparate, Inner, Bool}
use Rattle.word_layout.proofs.WordLemmas.{left_not_left, left_not_right, right_not_right}
use Rattle.word_layout.proofs.LinkLemmas.{left_in, right_in}

-- a node with this tree on a side, and that one on the other
abbrev pub forked : Side → Nodes → ℕ → Nodes → Nodes
forked Left near i far = fork near i far
forked Right near i far = fork far i near

pub red_sided : (s : Side) (red : Bool) (t : ColouredTree) (y : Record) (other : ColouredTree)
    → is_red (sided s red t y other) ≡ red
red_sided Left red t y other = refl
red_sided Right red t y other = refl

pub link_sided : (s : Side) (red : Bool) (t : ColouredTree) (y : Record) (other : ColouredTree)
    → link (shape (sided s red t y other)) ≡ suc y.node
link_sided Left red t y other = refl
link_sided Right red t y other = refl

pub among_near : (s : Side) (red : Bool) (t : ColouredTree) (y : Record) (other : ColouredTree)
    (i : ℕ)
    → Among (shape t) i → Among (shape (sided s red t y other)) i
among_near Left red t y other i h = inr (inl h)
among_near Right red t y other i h = inr (inr h)

pub separate_near : (s : Side) (red : Bool) (t : ColouredTree) (y : Record) (other : ColouredTree)
    → IsSeparate (shape (sided s red t y other)) → IsSeparate (shape t)
separate_near Left red t y other h = h.3
separate_near Right red t y other h = h.4

pub link_forked : (s : Side) (a : Nodes) (i : ℕ) (b : Nodes) → link (forked s a i b) ≡ suc i
link_forked Left a i b = refl
link_forked Right a i b = refl

-- its links in a memory
pub record IsLinkedOn (m : List ℕ) (c : ℕ) (s : Side) (a : Nodes) (i : ℕ) (b : Nodes) : Type 0 where
  pub near : at m (link_word s c i) ≡ link a
  pub far : at m (link_word (opposite s) c i) ≡ link b
  pub in_near : Inner m c a
  pub in_far : Inner m c b

pub inner_on : (m : List ℕ) (c : ℕ) (s : Side) (a : Nodes) (i : ℕ) (b : Nodes)
    → Inner m c (forked s a i b) → IsLinkedOn m c s a i b
inner_on m c Left a i b h = record { near = h.0; far = h.1; in_near = h.2; in_far = h.3 }
inner_on m c Right a i b h = record { near = h.1; far = h.0; in_near = h.3; in_far = h.2 }

pub on_inner : (m : List ℕ) (c : ℕ) (s : Side) (a : Nodes) (i : ℕ) (b : Nodes)
    → IsLinkedOn m c s a i b → Inner m c (forked s a i b)
on_inner m c Left a i b h = (h.near, h.far, h.in_near, h.in_far)
on_inner m c Right a i b h = (h.far, h.near, h.in_far, h.in_near)

-- no node stands twice in it
pub record IsApart (a : Nodes) (i : ℕ) (b : Nodes) : Type 0 where
  pub not_near : Among a i → ⊥
  pub not_far : Among b i → ⊥
  pub apart : (j : ℕ) → Among a j → Among b j → ⊥
  pub near : IsSeparate a
  pub far : IsSeparate b

pub apart_on : (s : Side) (a : Nodes) (i : ℕ) (b : Nodes) → IsSeparate (forked s a i b)
    → IsApart a i b
apart_on Left a i b h = record { not_near = h.0; not_far = h.1; apart = h.2; near = h.3; far = h.4 }
apart_on Right a i b h =
    record { not_near = h.1; not_far = h.0; apart = λ j x y. h.2 j y x; near = h.4; far = h.3 }

pub on_apart : (s : Side) (a : Nodes) (i : ℕ) (b : Nodes) → IsApart a i b
    → IsSeparate (forked s a i b)
on_apart Left a i b h = (h.not_near, h.not_far, h.apart, h.near, h.far)
on_apart Right a i b h = (h.not_far, h.not_near, (λ j x y. h.apart j y x), h.far, h.near)

-- its nodes
pub among_on : (s : Side) (a : Nodes) (i : ℕ) (b : Nodes) (j : ℕ) → Among (forked s a i b) j
    → (j ≡ i) ⊎ Among a j ⊎ Among b j
among_on Left a i b j h = h
among_on Right a i b j h = ⊎_elim (λ e. inl e) (⊎_elim (λ x. inr (inr x)) (λ x. inr (inl x))) h

pub on_among : (s : Side) (a : Nodes) (i : ℕ) (b : Nodes) (j : ℕ) → (j ≡ i) ⊎ Among a j ⊎ Among b j
    → Among (forked s a i b) j
on_among Left a i b j h = h
on_among Right a i b j h = ⊎_elim (λ e. inl e) (⊎_elim (λ x. inr (inr x)) (λ x. inr (inl x))) h

-- the words of two links differ, and those of the memory's nodes are in it
pub other_side : (s : Side) (c i j : ℕ) → link_word s c i ≢ link_word (opposite s) c j
other_side Left c i j = left_not_right c i j
other_side Right c i j = λ q. left_not_right c j i (sym q)

pub other_node : (s : Side) (c i j : ℕ) → i ≢ j → link_word s c i ≢ link_word s c j
other_node Left c i j = left_not_left c i j
other_node Right c i j = right_not_right c i j

pub word_in : (s : Side) (n c i : ℕ) → c ≤ 1 → i < n → link_word s c i < words_for n
word_in Left n c i small lt = left_in n c i small lt
word_in Right n c i small lt = right_in n c i small lt

pub is_link : (s : Side) (c i : ℕ) → IsLinkOf c i (link_word s c i)
is_link Left c i = inl refl
is_link Right c i = inr refl
