-- A tree of node numbers as a list, from which it is built again: what a model that has a tree as
-- its value needs.
use Rattle.std.specs.Prelude.{◌≡◌, ℕ, List, [], ◌∷◌, ◌++◌, Option, Some, None, refl}
use Rattle.std.specs.Coded.{Coded, code_by, coded_ℕ, coded_list, coded_option}
use Rattle.std.proofs.Common.{◌∙◌, ap}
use Rattle.word_layout.specs.Words.{Nodes, none, fork}

-- both trees of a node before the node, and nothing for no tree
abbrev pub written : Nodes → List (Option ℕ)
written none = None ∷ []
written (fork l i r) = written l ++ (written r ++ Some i ∷ [])

-- the trees that are built so far, the last first
abbrev pub built_on : List Nodes → Option ℕ → List Nodes
built_on trees None = none ∷ trees
built_on [] (Some i) = []
built_on (r ∷ []) (Some i) = []
built_on (r ∷ l ∷ trees) (Some i) = fork l i r ∷ trees

abbrev pub built_all : List Nodes → List (Option ℕ) → List Nodes
built_all trees [] = trees
built_all trees (x ∷ xs) = built_all (built_on trees x) xs

abbrev pub first_tree : List Nodes → Nodes
first_tree [] = none
first_tree (t ∷ trees) = t

abbrev pub rebuilt : List (Option ℕ) → Nodes
rebuilt xs = first_tree (built_all [] xs)

built-append : (trees : List Nodes) (xs ys : List (Option ℕ)) →
    built_all trees (xs ++ ys) ≡ built_all (built_all trees xs) ys
built-append trees [] ys = refl
built-append trees (x ∷ xs) ys = built-append (built_on trees x) xs ys

built-written : (trees : List Nodes) (t : Nodes) → built_all trees (written t) ≡ t ∷ trees
built-written trees none = refl
built-written trees (fork l i r) =
    built-append trees (written l) (written r ++ Some i ∷ [])
    ∙ ap (λ ts. built_all ts (written r ++ Some i ∷ [])) (built-written trees l)
    ∙ built-append (l ∷ trees) (written r) (Some i ∷ [])
    ∙ ap (λ ts. built_all ts (Some i ∷ [])) (built-written (l ∷ trees) r)

pub rebuilt-written : (t : Nodes) → rebuilt (written t) ≡ t
rebuilt-written t = ap first_tree (built-written [] t)

-- a tree is stored as that list
abbrev pub nodes_code : Coded Nodes
nodes_code =
    code_by (List (Option ℕ)) (coded_list (coded_option coded_ℕ)) written rebuilt rebuilt-written
