use Rattle.modules.proofs.Words.{◌∙◌, List, ap, subst}
use Rattle.modules.proofs.Definitions.{Item, IsItemSplit, item_of_address}
use Rattle.modules.proofs.RegionIndexLemmas.{nothing_below}
use Rattle.modules.proofs.region_index.IndexedCatalog.find_near.Goals as goal

pub returns-then-split-eq0-clause-is : goal.returns-then-split-eq0-clause-is
returns-then-split-eq0-clause-is c =
    let items = c.self.inside.items.items in
    let parts : IsItemSplit items c.args.addr c.split_at-split.result =
    subst (λ (l : List Item). IsItemSplit l c.args.addr c.split_at-split.result)
    c.deref.ensures.value c.split_at-split.ensures in
    nothing_below c.self.inside.catalog c.self.invariant.sound items c.self.invariant.indexed
    c.args.addr c.split_at-split.result parts c.if-split-eq0.true
    ∙ ap (λ k. item_of_address k c.args.addr) c.self.view_is
