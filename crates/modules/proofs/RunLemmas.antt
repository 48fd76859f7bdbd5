-- Lines that have the name of their module by their run.
use Rattle.modules.proofs.Words.{◌≡◌, ℕ, zero, suc, ◌<◌, Bool, true, false, ◌&&◌, cond, List, []}
use Rattle.modules.proofs.Words.{◌∷◌, ◌++◌, length, map, take, drop, get_or, Some, None, Option}
use Rattle.modules.proofs.Words.{refl, sym, ap, ◌∙◌, arith, append_assoc, find, is_none, is_some}
use Rattle.modules.proofs.Words.{Bor, option_and_then, option_copied, option_map, option_map_or}
use Rattle.modules.proofs.Words.{option_or, bytes_eq, common_steps}
use Rattle.modules.proofs.Lemmas.{false≢true, map-append, append-nil, flat_map-append, find-append}
use Rattle.modules.proofs.Lemmas.{take_more}
use Rattle.modules.proofs.Definitions.{SymbolEntry, first_address, first_owner, ListedSymbol}
use Rattle.modules.proofs.Definitions.{line_of, lines_of_run, lines_of_all, Run}

-- the lines of all runs, and those of the last
pub lines_of_all-last : (runs : List Run) (r : Run)
    → lines_of_all (runs ++ r ∷ []) ≡ lines_of_all runs ++ lines_of_run r
lines_of_all-last runs r = flat_map-append lines_of_run runs (r ∷ [])
    ∙ ap (λ xs. lines_of_all runs ++ xs) (append-nil (lines_of_run r))

-- a line of a module is none of the kernel itself
named_none : (owner name : List ℕ) (ss : List SymbolEntry) → find (λ (l : ListedSymbol).
    is_none l.owner && bytes_eq l.name name) (map (line_of (Some owner)) ss) ≡ None
named_none owner name [] = refl
named_none owner name (s ∷ ss) = named_none owner name ss

pub first_of_module : (owner name : List ℕ) (ss : List SymbolEntry)
    → first_address name (map (line_of (Some owner)) ss) ≡ None
first_of_module owner name ss =
    ap (option_map (λ (l : ListedSymbol). l.addr)) (named_none owner name ss)

-- the first line of this name, of lines of the kernel itself
pub first_of_kernel : (name : List ℕ) (ss : List SymbolEntry)
    → first_address name (map (line_of None) ss)
    ≡ option_map (λ (s : SymbolEntry). s.addr) (find (λ (s : SymbolEntry). bytes_eq s.name name) ss)
first_of_kernel name [] = refl
first_of_kernel name (s ∷ ss) = grind (arith, first_of_kernel name ss)

-- the first line of this name, of lines and of others after them
pub first_address-append : (name : List ℕ) (xs ys : List ListedSymbol)
    → first_address name (xs ++ ys) ≡ option_or (first_address name xs) (first_address name ys)
first_address-append name xs ys =
    grind (arith, find-append (λ (l : ListedSymbol). is_none l.owner && bytes_eq l.name name) xs ys)

-- of a run
pub first_of_some : (m : Option (Bor (List ℕ))) (name : List ℕ) (ss : List SymbolEntry)
    → is_some m ≡ true → None ≡ first_address name (map (line_of (option_copied m)) ss)
first_of_some m name ss some = grind (arith, first_of_module)

pub first_of_none : (m : Option (Bor (List ℕ))) (name : List ℕ) (ss : List SymbolEntry)
    → is_some m ≡ false
    → option_map (λ (s : SymbolEntry). s.addr) (find (λ (s : SymbolEntry). bytes_eq s.name name) ss)
    ≡ first_address name (map (line_of (option_copied m)) ss)
first_of_none m name ss none = grind (arith, first_of_kernel)

-- the run at a place stands between the runs before it and those after it
pub lines_of_all-at : (runs : List Run) (i : ℕ) (d : Run) → i < length runs
    → lines_of_all runs ≡ lines_of_all (take i runs)
    ++ (lines_of_run (get_or runs i d) ++ lines_of_all (drop (suc i) runs))
lines_of_all-at [] i d lt = absurd (omega arith)
lines_of_all-at (r ∷ runs) zero d lt = refl
lines_of_all-at (r ∷ runs) (suc i) d lt =
    ap (λ xs. lines_of_run r ++ xs) (lines_of_all-at runs i d (omega arith))
    ∙ sym (append_assoc (lines_of_run r) (lines_of_all (take i runs))
    (lines_of_run (get_or runs i d) ++ lines_of_all (drop (suc i) runs)))

-- one symbol more in the last run
pub lines_of-more : (m n : Option (Bor (List ℕ))) (ss ts : List SymbolEntry) (s : SymbolEntry)
    → option_copied m ≡ option_copied n → ts ≡ ss ++ s ∷ [] → map (line_of (option_copied m)) ts
    ≡ map (line_of (option_copied m)) ss ++ line_of (option_copied n) s ∷ []
lines_of-more m n ss ts s same more = grind (arith, map-append)

-- the first line of a name, in all runs but the last or in the last
pub first_in_runs : (runs : List Run) (last : Run) (name : List ℕ)
    → first_address name (lines_of_all (runs ++ last ∷ []))
    ≡ option_or (first_address name (lines_of_all runs)) (first_address name (lines_of_run last))
first_in_runs runs last name = ap (first_address name) (lines_of_all-last runs last)
    ∙ first_address-append name (lines_of_all runs) (lines_of_run last)

-- ---- the first line of a module whose name passes

-- that of a line and others after it
owner_first : (passes : List ℕ → Bool) (l : ListedSymbol) (ls : List ListedSymbol) (b : Bool)
    → option_map_or passes l.owner false ≡ b
    → first_owner passes (l ∷ ls) ≡ cond b l.owner (first_owner passes ls)
owner_first passes l ls true pass = ap (λ b. option_and_then (λ (m : ListedSymbol). m.owner)
    (cond b (Some l) (find (λ m. option_map_or passes m.owner false) ls))) pass
owner_first passes l ls false fail = ap (λ b. option_and_then (λ (m : ListedSymbol). m.owner)
    (cond b (Some l) (find (λ m. option_map_or passes m.owner false) ls))) fail

owner_or : (passes : List ℕ → Bool) (owner rest : Option (List ℕ))
    → option_map_or passes owner false ≡ true → owner ≡ option_or owner rest
owner_or passes None rest pass = absurd (false≢true pass)
owner_or passes (Some name) rest pass = refl

one_more : (passes : List ℕ → Bool) (l : ListedSymbol) (ls ys : List ListedSymbol) (b : Bool)
    → option_map_or passes l.owner false ≡ b
    → first_owner passes (ls ++ ys) ≡ option_or (first_owner passes ls) (first_owner passes ys)
    → first_owner passes (l ∷ (ls ++ ys))
    ≡ option_or (first_owner passes (l ∷ ls)) (first_owner passes ys)
one_more passes l ls ys true pass rest =
    owner_first passes l (ls ++ ys) true pass
    ∙ owner_or passes l.owner (first_owner passes ys) pass
    ∙ ap (λ o. option_or o (first_owner passes ys)) (sym (owner_first passes l ls true pass))
one_more passes l ls ys false fail rest =
    owner_first passes l (ls ++ ys) false fail
    ∙ rest
    ∙ ap (λ o. option_or o (first_owner passes ys)) (sym (owner_first passes l ls false fail))

pub first_owner-append : (passes : List ℕ → Bool) (xs ys : List ListedSymbol)
    → first_owner passes (xs ++ ys) ≡ option_or (first_owner passes xs) (first_owner passes ys)
first_owner-append passes [] ys = refl
first_owner-append passes (l ∷ ls) ys =
    one_more passes l ls ys (option_map_or passes l.owner false) refl
    (first_owner-append passes ls ys)

-- of a run none of whose lines passes, and of one whose lines do
pub no_owner : (passes : List ℕ → Bool) (owner : Option (List ℕ)) (ss : List SymbolEntry)
    → option_map_or passes owner false ≡ false → None ≡ first_owner passes (map (line_of owner) ss)
no_owner passes owner [] fail = refl
no_owner passes owner (s ∷ ss) fail =
    no_owner passes owner ss fail
    ∙ sym (owner_first passes (line_of owner s) (map (line_of owner) ss) false fail)

pub its_owner : (passes : List ℕ → Bool) (owner : List ℕ) (ss : List SymbolEntry) → 0 < length ss
    → passes owner ≡ true → Some owner ≡ first_owner passes (map (line_of (Some owner)) ss)
its_owner passes owner [] some pass = absurd (omega arith)
its_owner passes owner (s ∷ ss) some pass =
    sym (owner_first passes (line_of (Some owner) s) (map (line_of (Some owner)) ss) true pass)

pub no_lines : (passes : List ℕ → Bool) (owner : Option (List ℕ)) (ss : List SymbolEntry)
    → length ss ≡ 0 → None ≡ first_owner passes (map (line_of owner) ss)
no_lines passes owner [] none = refl
no_lines passes owner (s ∷ ss) none = absurd (omega arith)

-- of all runs but the last or of the last
pub last_owner : (runs : List Run) (last : Run) (passes : List ℕ → Bool)
    → first_owner passes (lines_of_all (runs ++ last ∷ []))
    ≡ option_or (first_owner passes (lines_of_all runs)) (first_owner passes (lines_of_run last))
last_owner runs last passes = ap (first_owner passes) (lines_of_all-last runs last)
    ∙ first_owner-append passes (lines_of_all runs) (lines_of_run last)

pub ruleset owner_of_run = (common_steps, no_owner, its_owner, no_lines)

pub ruleset owner_by_run = (common_steps, take_more, last_owner, first_owner-append)

-- run by run
pub ruleset run_by_run = (common_steps, take_more, first_in_runs)
