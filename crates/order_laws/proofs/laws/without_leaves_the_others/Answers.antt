use Rattle.order_laws.proofs.SetLemmas.{in_without}
use Rattle.order_laws.proofs.laws.without_leaves_the_others.Goals as goal

pub returns : goal.returns
returns c = λ a x table. in_without a x table
