use Rattle.order_laws.proofs.TableLemmas.{look_only}
use Rattle.order_laws.proofs.laws.look_is_one.Goals as goal

pub returns : goal.returns
returns g c = λ k table found is looks.
    look_only g.O.TreeOrder.order g.met.O.TreeOrder.lawful k table found is looks
