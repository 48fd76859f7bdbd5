use Rattle.latch_weak.proofs.Words.{◌≡◌, sym, ◌∙◌, ap, subst, take, suc, inr, refl, [], ◌∷◌, ◌++◌}
use Rattle.latch_weak.proofs.Words.{◌+◌, take_all, take_more, capacity_of, limit_of, opening_latch}
use Rattle.latch_weak.proofs.Words.{opening_writer, CarriesOutAll, HasMade, RefusesRecording}
use Rattle.std.proofs.Common.{drop}
use Rattle.std.proofs.Math.Seq.{split_at}
use Rattle.latch_weak.proofs.RecordingLemmas.{carried_more, works_of, passed_on}
use Rattle.latch_weak.proofs.recording.record.Goals as goal

pub loop-update-init : goal.loop-update-init
loop-update-init g c = (
  record {
    latch = opening_latch (capacity_of c.args.l) c.args.start;
    deeds = [];
    works = refl;
    updates_are = refl;
    stores_are = sym c.new-stores.ensures.items;
    pictures = c.in_ok-writer.ensures.pictures;
    capacity = ap (λ x. x.capacity) c.in_ok-writer.ensures.opened;
    limit_is = ap (λ x. x.limit) c.in_ok-writer.ensures.opened;
  },
  (c.new-stores.ensures.items, c.in_ok-writer.ensures.opened),
)

pub loop-update-preserved : goal.loop-update-preserved
loop-update-preserved g c =
    let o = g.O.TreeOrder.order in
    let l = c.args.l in
    let before = take c.loop-update.update-index c.args.updates.now in
    let i = c.loop-update.update-index in
    let u = c.update-item.result in
    let all : before ++ u ∷ [] ≡ take (i + 1) c.args.updates.now =
    sym (take_more c.args.updates.now i u c.loop-update-test.true
    ∙ ap (λ x. before ++ x ∷ []) (sym c.update-item.is)) in
    let (made, one, stores) = c.in_ok-carry_out.ensures.carried in
    let w = opening_writer l c.args.start in (
      subst (λ us. HasMade o (capacity_of l) (limit_of l) c.args.start us
          c.carry_out.new.stores.items c.carry_out.new.writer) all
          (c.in_ok-carry_out.ensures.made (capacity_of l) (limit_of l) c.args.start before
          c.loop-update.invariant.0),
      subst (λ us. CarriesOutAll o w us c.carry_out.new.stores.items c.carry_out.new.writer) all
          (subst (λ ss. CarriesOutAll o w (before ++ u ∷ []) ss c.carry_out.new.writer) (sym stores)
          (carried_more o w c.loop-update.writer c.carry_out.new.writer before u
          c.loop-update.stores.items made c.loop-update.invariant.1 one)),
    )

pub returns-clause-stores : goal.returns-clause-stores
returns-clause-stores g c =
    let o = g.O.TreeOrder.order in
    let l = c.args.l in
    let made = c.loop-update.invariant.0 in
    let all : take c.loop-update.update-index c.args.updates.now ≡ c.args.updates.now =
    take_all c.loop-update.update-index c.args.updates.now c.loop-update-test.false in
    record {
      deeds = made.deeds;
      works = works_of o (capacity_of l) (limit_of l) _ made.latch made.deeds made.works;
      updates_are = made.updates_are ∙ all;
      stores_are = made.stores_are;
    }

pub returns-clause-core : goal.returns-clause-core
returns-clause-core g c =
    let all : take c.loop-update.update-index c.args.updates.now ≡ c.args.updates.now =
    take_all c.loop-update.update-index c.args.updates.now c.loop-update-test.false in (
      c.loop-update.writer,
      subst (λ us. CarriesOutAll g.O.TreeOrder.order (opening_writer c.args.l c.args.start) us
          c.loop-update.stores.items c.loop-update.writer) all c.loop-update.invariant.1,
    )

pub returns-in_err-carry_out-clause-refused : goal.returns-in_err-carry_out-clause-refused
returns-in_err-carry_out-clause-refused g c =
    let us = c.args.updates.now in
    let i = c.loop-update.update-index in
    let u = c.update-item.result in
    passed_on c.from_residual-in_err-carry_out.result c.in_err-carry_out.field-0.0
    (RefusesRecording g.O.TreeOrder.order c.args.l c.args.start us)
    c.from_residual-in_err-carry_out.ensures.1
    (inr (record {
      before = take i us;
      stopper = u;
      rest = drop (suc i) us;
      split = split_at us i u c.loop-update-test.true
          ∙ ap (λ x. take i us ++ x ∷ drop (suc i) us) (sym c.update-item.is);
      stores = c.loop-update.stores.items;
      writer = c.loop-update.writer;
      made = c.loop-update.invariant.0;
      carried = c.loop-update.invariant.1;
      refused = c.in_err-carry_out.ensures.refused;
    }))
