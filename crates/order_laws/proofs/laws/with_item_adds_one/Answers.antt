use Rattle.order_laws.proofs.SetLemmas.{in_with_item}
use Rattle.order_laws.proofs.laws.with_item_adds_one.Goals as goal

pub returns : goal.returns
returns g c = λ i x table. in_with_item g.O.TreeOrder.order i x table
