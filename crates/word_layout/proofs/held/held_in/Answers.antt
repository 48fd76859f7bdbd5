use Rattle.word_layout.proofs.Words.{◌<◌, length, subst, arith, IfNone, capacity_of, copy_number}
use Rattle.word_layout.proofs.Words.{at, root_word, Nodes, listed, Leads}
use Rattle.word_layout.proofs.HeldLemmas.{table_length}
use Rattle.word_layout.proofs.held.held_in.Goals as goal

pub returns-in-None-clause-none : goal.returns-in-None-clause-none
returns-in-None-clause-none c =
    let m = c.args.words.now in
    let n = capacity_of c.args.l in
    let copy = copy_number c.args.copy in
    let at_root : (t : Nodes) → Leads m n copy (at m c.root_of.result) t
    → c.capacity.result < length (listed t) =
    subst (λ o. IfNone o ((t : Nodes) → Leads m n copy (at m c.root_of.result) t
    → c.capacity.result < length (listed t))) c.in-None.is c.in_ok-walk.ensures.none in
    let large : (t : Nodes) → Leads m n copy (at m (root_word copy)) t
    → c.capacity.result < length (listed t) =
    subst (λ w. (t : Nodes) → Leads m n copy (at m w) t → c.capacity.result < length (listed t))
    c.root_of.ensures at_root in
    λ table h.
    omega (arith, table_length m n copy c.capacity.result table h large, c.capacity.ensures.is)
