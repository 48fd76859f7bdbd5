use Rattle.modules.proofs.Words.{arith, common_steps}
use Rattle.modules.proofs.Lemmas.{take_all}
use Rattle.modules.proofs.SymbolNameLemmas.{counted, one_more}
use Rattle.modules.proofs.symbol_names.push_symbols.Goals as goal

pub loop-place-preserved : goal.loop-place-preserved
loop-place-preserved c = grind (
  arith,
  common_steps,
  one_more c.args.number c.args.symbols.now c.loop-place.place c.index-symbols-place.result,
)

pub returns : goal.returns
returns c = grind (arith, common_steps, take_all, counted)
