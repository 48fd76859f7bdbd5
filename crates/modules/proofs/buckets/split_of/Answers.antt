use Rattle.modules.proofs.Words.{nat_le, rules, IsPartitionPoint-from_clause, IsPartitionedBy-leb}
use Rattle.modules.proofs.IndexLemmas.{IsSplitBy-from_partition}
use Rattle.modules.proofs.buckets.split_of.Goals as goal

pub returns : goal.returns
returns g c =
    IsSplitBy-from_partition g.T.Addressed.addr_of c.args.listed.now c.args.addr
    c.partition_point.result c.partition_point.ensures.bound
    (IsPartitionPoint-from_clause (λ x. nat_le (g.T.Addressed.addr_of x) c.args.addr)
    c.args.listed.now c.partition_point.result c.partition_point.ensures.partitioned
    (IsPartitionedBy-leb g.T.Addressed.addr_of c.args.listed.now c.args.addr c.requires)
    (λ a r q k. search rules))
