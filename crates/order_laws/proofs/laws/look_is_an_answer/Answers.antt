use Rattle.order_laws.proofs.TableLemmas.{look_is}
use Rattle.order_laws.proofs.laws.look_is_an_answer.Goals as goal

pub returns : goal.returns
returns g c = λ k table. look_is g.O.TreeOrder.order k table
