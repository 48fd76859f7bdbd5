use Rattle.histories.proofs.Words.{◌-◌, List, ℕ, take, drop, length, lines}
use Rattle.histories.proofs.OrderLemmas.{in_order_from}
use Rattle.histories.proofs.history.read_history.Goals as goal

pub invariant_of-result : goal.invariant_of-result
invariant_of-result c =
    let text = c.args.text.now in
    let end = c.line_length-end.result in
    let rest : List ℕ = take (length text - end) (drop end text) in
    in_order_from 2 (lines rest) c.in_ok-parts.parts.items c.in_ok-parts.ensures
