use Rattle.latch_table.proofs.Words.{◌≡◌, ◌∙◌, [], List, ℕ, sym, ap, subst, arith, length}
use Rattle.latch_table.proofs.Words.{nil_from_length, at, root_word, Difference, WriterState}
use Rattle.latch_table.proofs.Words.{writer_of, LeadsToFew, TellsTree, IsReplacement}
use Rattle.latch_table.proofs.ReplacingLemmas.{few_there, tells_there, leads_to_few, all_told}
use Rattle.latch_table.proofs.ReplacingLemmas.{is_replacement}
use Rattle.latch_table.proofs.writers.Writer.replacement.Goals as goal

pub note_tree-requires-clause-tree : goal.note_tree-requires-clause-tree
note_tree-requires-clause-tree g c =
    let w = c.self.inside in
    let o = g.O.TreeOrder.order in
    let idle : w.core.stores_left ≡ [] = nil_from_length w.core.stores_left
    (omega (arith, c.remaining.ensures.count, c.if-remaining-gt0.false)) in
    let few = leads_to_few _ g.met.O.TreeOrder.lawful _ _ _ _ c.self.invariant.2 idle in
    let m : List ℕ = (writer_of w.seat.me.0).picture in
    let of = c.copied_word-root.ensures in
    let root : c.copied_word-root.result ≡ at m (root_word 0) =
    of.value ∙ ap (at m) c.root_of.ensures in
    subst (λ (z : ℕ × ℕ). LeadsToFew (writer_of c.copied_word-root.new.seat.me.0).picture z.0
    c.copied_word-root.result z.1)
    (λ i. (sym c.layout-layout.ensures.capacity i, sym c.len-most.ensures.is i))
    (few_there m w.core.capacity (length w.core.table) _ _ _
    (ap (λ s. (writer_of s.0).picture) of.view) root few)

pub returns-clause-found : goal.returns-clause-found
returns-clause-found g c =
    let w = c.self.inside in
    let o = g.O.TreeOrder.order in
    let law = g.met.O.TreeOrder.lawful in
    let idle : w.core.stores_left ≡ [] = nil_from_length w.core.stores_left
    (omega (arith, c.remaining.ensures.count, c.if-remaining-gt0.false)) in
    let list = c.args.list.now in
    let rises = sym c.rises.ensures ∙ c.if-not-rises.false in
    let m : List ℕ = (writer_of w.seat.me.0).picture in
    let of = c.copied_word-root.ensures in
    let root : c.copied_word-root.result ≡ at m (root_word 0) =
    of.value ∙ ap (at m) c.root_of.ensures in
    let new : Difference = c.difference-difference.result in
    let told : Difference = c.note_tree.new.difference in
    let there = tells_there o list w.core.capacity m _ _ _ new told
    (ap (λ s. (writer_of s.0).picture) of.view) root
    (subst (λ n. TellsTree o list (writer_of c.copied_word-root.new.seat.me.0).picture n
    c.copied_word-root.result new told) c.layout-layout.ensures.capacity
    c.in_ok-note_tree.ensures.told) in
    let is = c.in_ok-into_update.ensures ∙ all_told _ law _ _ _ _ c.self.invariant.2 idle list rises
    new told c.difference-difference.ensures there in
    subst (λ (s : WriterState). IsReplacement o s list c.in_ok-into_update.field-0) c.self.view_is
    (is_replacement _ law _ _ _ _ c.self.invariant.2 idle list c.in_ok-into_update.field-0 rises is)
