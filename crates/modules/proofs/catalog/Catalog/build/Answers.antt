use Rattle.modules.proofs.Words.{List, ap, ◌∙◌, option_copied}
use Rattle.modules.proofs.Definitions.{counts_of, ListedRegion}
use Rattle.modules.proofs.catalog.Catalog.build.Goals as goal

pub returns-clause-counted : goal.returns-clause-counted
returns-clause-counted c =
    c.in_ok-assemble.ensures.counted
    ∙ ap (λ (rs : List ListedRegion). counts_of (option_copied c.args.names) c.args.modules.now rs
    c.args.symbols) c.in_ok-regions.ensures
