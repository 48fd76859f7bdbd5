use Rattle.follower.proofs.Words.{◌≡◌, ◌∙◌, List, nat_le, ap, sym, subst, rules}
use Rattle.follower.proofs.Words.{IsPartitionPoint-from_clause, IsPartitionedBy-leb, DatedCatalog}
use Rattle.follower.proofs.Words.{AreInOrder, number_of, start_by, IsSplitBy}
use Rattle.follower.proofs.CatalogLemmas.{in_order}
use Rattle.modules.proofs.IndexLemmas.{IsSplitBy-from_partition}
use Rattle.follower.proofs.catalogs.Catalogs.begun_by.Goals as goal

pub returns : goal.returns
returns c =
    let dated : List DatedCatalog = c.deref.result.now in
    let moment = c.args.moment in
    let inside : dated ≡ c.self.inside.dated.items = c.deref.ensures.value in
    let shown : dated ≡ c.args.self.now.items = inside ∙ ap (λ v. v.items) c.self.view_is in
    let ordered : AreInOrder dated = subst AreInOrder (sym inside) c.self.invariant in
    subst (λ xs. IsSplitBy (start_by moment) xs (number_of moment) c.partition_point.result) shown
    (IsSplitBy-from_partition (start_by moment) dated (number_of moment) c.partition_point.result
    c.partition_point.ensures.bound
    (IsPartitionPoint-from_clause (λ (d : DatedCatalog).
    nat_le (start_by moment d) (number_of moment)) dated c.partition_point.result
    c.partition_point.ensures.partitioned (IsPartitionedBy-leb (start_by moment) dated
    (number_of moment) (in_order moment dated ordered)) (λ a r q k. search rules)))
