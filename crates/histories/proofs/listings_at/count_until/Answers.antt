use Rattle.histories.proofs.Words.{nat_le}
use Rattle.histories.proofs.OrderLemmas.{count_of_point}
use Rattle.std.proofs.Common.{rules}
use Rattle.std.proofs.lemmas.List.Sorted.{IsPartitionPoint-from_clause, IsPartitionedBy-leb}
use Rattle.histories.specs.Grammar.{HistoryPart}
use Rattle.histories.proofs.listings_at.count_until.Goals as goal

pub returns-clause-is : goal.returns-clause-is
returns-clause-is c =
    let parts = c.args.parts.now in
    let i = c.partition_point.result in
    count_of_point parts c.args.time i c.partition_point.ensures.bound
    (IsPartitionPoint-from_clause (λ (x : HistoryPart). nat_le x.header.time c.args.time) parts i
    c.partition_point.ensures.partitioned
    (IsPartitionedBy-leb (λ (x : HistoryPart). x.header.time) parts c.args.time c.requires)
    (λ a r q k. search rules))
