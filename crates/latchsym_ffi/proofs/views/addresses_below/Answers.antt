use Rattle.latchsym_ffi.proofs.Words.{ℕ, nat_le, rules, IsPartitionPoint-from_clause}
use Rattle.latchsym_ffi.proofs.Words.{IsPartitionedBy-leb, IsSplitBy-from_partition}
use Rattle.latchsym_ffi.proofs.views.addresses_below.Goals as goal

pub returns : goal.returns
returns c =
    IsSplitBy-from_partition (λ (a : ℕ). a) c.args.addresses.now c.args.addr
    c.partition_point.result c.partition_point.ensures.bound
    (IsPartitionPoint-from_clause (λ (a : ℕ). nat_le a c.args.addr) c.args.addresses.now
    c.partition_point.result c.partition_point.ensures.partitioned
    (IsPartitionedBy-leb (λ (a : ℕ). a) c.args.addresses.now c.args.addr c.requires)
    (λ a r q k. search rules))
