use Rattle.latch_table.proofs.Words.{rules, sym, ap, ◌∙◌, subst, capacity_of, words_for}
use Rattle.latch_table.proofs.Words.{wider_words, WriterView, writer_of, WriterState, writer_state}
use Rattle.latch_table.proofs.Words.{Enlarges}
use Rattle.latch_table.proofs.EnlargingLemmas.{opens_wider, tied_there, enlarges}
use Rattle.latch_table.proofs.writers.Writer.move_to.Goals as goal

pub build-requires-clause-rule : goal.build-requires-clause-rule
build-requires-clause-rule g c =
    let words = c.in_ok-words.ensures.all ∙ ap (λ n. wider_words n (capacity_of c.args.l)
    (writer_of c.self.inside.seat.me.0).picture) c.layout-layout.ensures.capacity in
    opens_wider c.self.invariant.2 c.args.l (sym c.why_not_widened.ensures ∙ c.in_default.is)
    (ap (λ s. s.me) c.of.ensures ∙ c.copied.ensures.view) (ap (λ v. v.items) c.of-2.ensures ∙ words)
    (c.deref-2.ensures.value ∙ sym (ap (λ v. v.items) c.of-2.ensures))

pub invariant_of-self-2 : goal.invariant_of-self-2
invariant_of-self-2 g c =
    let words = c.in_ok-words.ensures.all ∙ ap (λ n. wider_words n (capacity_of c.args.l)
    (writer_of c.self.inside.seat.me.0).picture) c.layout-layout.ensures.capacity in (
      c.in_ok-table.ensures.seat.0,
      c.in_ok-table.ensures.seat.1
          ∙ ap (λ (v : WriterView). words_for v.capacity) (sym c.in_ok-widen.ensures.widened),
      tied_there c.self.invariant.2 c.args.l (sym c.why_not_widened.ensures ∙ c.in_default.is)
          c.in_ok-widen.ensures.widened c.in_ok-widen.ensures.pictures
          (ap (λ s. s.me) c.of.ensures ∙ c.copied.ensures.view)
          (ap (λ v. v.items) c.of-2.ensures ∙ words) c.in_ok-table.ensures.seat.2,
    )

pub returns-clause-enlarged : goal.returns-clause-enlarged
returns-clause-enlarged g c =
    let w = c.self.inside in
    let built = c.in_ok-table.field-0 in
    let words = c.in_ok-words.ensures.all
    ∙ ap (λ n. wider_words n (capacity_of c.args.l) (writer_of w.seat.me.0).picture)
    c.layout-layout.ensures.capacity in
    subst (λ (before : WriterState). Enlarges before c.args.l (writer_state built.seat.table_id
    w.readers built.seat.me.0 c.widen.new.self) built.readers.items) c.self.view_is
    (enlarges c.self.invariant.2 c.args.l (sym c.why_not_widened.ensures ∙ c.in_default.is)
    c.in_ok-widen.ensures.widened c.in_ok-widen.ensures.pictures
    (ap (λ s. s.me) c.of.ensures ∙ c.copied.ensures.view)
    (ap (λ v. v.items) c.of-2.ensures ∙ words) c.in_ok-table.ensures.seat.2 (search rules)
    c.in_ok-table.ensures.readers.1)
