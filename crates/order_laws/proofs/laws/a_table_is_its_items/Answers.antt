use Rattle.order_laws.proofs.SetLemmas.{same_items}
use Rattle.order_laws.proofs.laws.a_table_is_its_items.Goals as goal

pub returns : goal.returns
returns g c = λ table other is others same. same_items g.O.TreeOrder.order g.met.O.TreeOrder.lawful
    table other is others (λ x. (same x).0) (λ x. (same x).1)
