use Rattle.order_laws.proofs.Words.{◌∙◌, sym, ap, arith, insert}
use Rattle.order_laws.proofs.PlaceLemmas.{with_place, place_for_fits}
use Rattle.order_laws.proofs.tables.with_item.Goals as goal

pub insert-requires : goal.insert-requires
insert-requires g c = omega (
  arith,
  c.in_ok-all.ensures.len,
  c.place_for.ensures,
  place_for_fits g.O.TreeOrder.order c.args.item c.args.table.now,
)

pub returns : goal.returns
returns g c =
    let copied = c.in_ok-all.ensures.items_if_clones_equal (λ x y e. e) in
    c.in_ok-insert.ensures.items
    ∙ ap (λ xs. insert xs c.place_for.result c.args.item) copied
    ∙ ap (λ place. insert c.args.table.now place c.args.item) c.place_for.ensures
    ∙ sym (with_place g.O.TreeOrder.order c.args.item c.args.table.now)
