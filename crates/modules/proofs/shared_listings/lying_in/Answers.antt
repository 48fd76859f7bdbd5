use Rattle.modules.proofs.Words.{rules}
use Rattle.std.proofs.lemmas.Fn.{filter_same}
use Rattle.modules.proofs.Definitions.{SymbolEntry, lies_in_any}
use Rattle.modules.proofs.shared_listings.lying_in.Goals as goal

pub returns : goal.returns
returns c = filter_same _ (λ (s : SymbolEntry). lies_in_any c.args.regions.now s.addr) _
    (λ x b f' k. search rules) _ _ c.retain.ensures.filtered
