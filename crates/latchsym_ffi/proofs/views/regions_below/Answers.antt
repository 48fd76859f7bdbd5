use Rattle.latchsym_ffi.proofs.Words.{nat_le, rules, IsPartitionPoint-from_clause}
use Rattle.latchsym_ffi.proofs.Words.{IsPartitionedBy-leb, IsSplitBy-from_partition, ViewRegion}
use Rattle.latchsym_ffi.proofs.views.regions_below.Goals as goal

pub returns : goal.returns
returns c =
    IsSplitBy-from_partition (λ (r : ViewRegion). r.a) c.args.regions.now c.args.addr
    c.partition_point.result c.partition_point.ensures.bound
    (IsPartitionPoint-from_clause (λ (r : ViewRegion). nat_le r.a c.args.addr) c.args.regions.now
    c.partition_point.result c.partition_point.ensures.partitioned
    (IsPartitionedBy-leb (λ (r : ViewRegion). r.a) c.args.regions.now c.args.addr c.requires)
    (λ a r q k. search rules))
