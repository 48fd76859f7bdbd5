use Rattle.modules.proofs.Words.{◌<◌, length, rules}
use Rattle.modules.proofs.Lemmas.{YieldsList-from_slice, serves_from_places, YieldsList-at}
use Rattle.modules.proofs.OrderedLemmas.{entry_within}
use Rattle.modules.proofs.symbols.in_order_of.Goals as goal

pub collect-requires-clause-can : goal.collect-requires-clause-can
collect-requires-clause-can c = (
  tt,
  serves_from_places (YieldsList-at c.map.ensures.source
      (YieldsList-from_slice c.args.index.now c.iter.ensures.rest))
      (λ x q called. search rules)
      (λ x k lt at.
      let within : x.now.place < length c.args.symbols.now =
      entry_within c.args.symbols.now c.args.index.now c.requires x.now k lt at in
      search (rules, c.map.ensures.closure)),
)
