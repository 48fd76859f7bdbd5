use Rattle.modules.proofs.Words.{◌∙◌, ap}
use Rattle.modules.proofs.Definitions.{all_of_name}
use Rattle.modules.proofs.symbol_names.SymbolNames.of.Goals as goal

pub returns : goal.returns
returns c =
    λ name. c.in_ok-sort_by_name.ensures.each name ∙ ap (all_of_name name) c.in_ok-by_name.ensures
