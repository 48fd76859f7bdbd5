use Rattle.modules.proofs.Words.{nat_lt, rules, IsPartitionPoint-from_clause, IsPartitionedBy-ltb}
use Rattle.modules.proofs.Words.{SymbolEntry}
use Rattle.modules.proofs.RisingLemmas.{IsFirstOf-from_partition}
use Rattle.modules.proofs.symbols.listed_below.Goals as goal

pub returns : goal.returns
returns c =
    IsFirstOf-from_partition c.args.symbols.now c.args.addr c.partition_point.result
    c.partition_point.ensures.bound
    (IsPartitionPoint-from_clause (λ (s : SymbolEntry). nat_lt s.addr c.args.addr)
    c.args.symbols.now c.partition_point.result c.partition_point.ensures.partitioned
    (IsPartitionedBy-ltb (λ (s : SymbolEntry). s.addr) c.args.symbols.now c.args.addr
    c.requires) (λ a r q k. search rules))
