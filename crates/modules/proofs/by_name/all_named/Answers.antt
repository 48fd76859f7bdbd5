use Rattle.modules.proofs.Words.{rules, is_le, is_lt, IsPartitionPoint-from_clause}
use Rattle.modules.proofs.ByNameLemmas.{IsCut-from_partition, between, cuts_in_order, lesser_first}
use Rattle.modules.proofs.ByNameLemmas.{order_to, up_to_first}
use Rattle.modules.proofs.Definitions.{IsCut}
use Rattle.modules.proofs.by_name.all_named.Given.{Over}
use Rattle.modules.proofs.by_name.all_named.Goals as goal
use Rattle.modules.proofs.by_name.all_named.Goals.{After-partition_point-end}

-- the cut before what has the name
start_cut : (g : Over) (c : After-partition_point-end g)
    → IsCut (λ x. is_lt (order_to g.T.Named.name_of c.args.name.now x)) c.args.index.now
    c.partition_point-start.result
start_cut g c =
    IsCut-from_partition (λ x. is_lt (order_to g.T.Named.name_of c.args.name.now x))
    c.args.index.now c.partition_point-start.result
    c.partition_point-start.ensures.bound
    (IsPartitionPoint-from_clause (λ x. is_lt (order_to g.T.Named.name_of c.args.name.now x))
    c.args.index.now c.partition_point-start.result
    c.partition_point-start.ensures.partitioned
    (lesser_first g.T.Named.name_of c.args.index.now c.args.name.now c.requires)
    (λ a r q k. search rules))

-- the cut behind it
end_cut : (g : Over) (c : After-partition_point-end g)
    → IsCut (λ x. is_le (order_to g.T.Named.name_of c.args.name.now x)) c.args.index.now
    c.partition_point-end.result
end_cut g c =
    IsCut-from_partition (λ x. is_le (order_to g.T.Named.name_of c.args.name.now x))
    c.args.index.now c.partition_point-end.result
    c.partition_point-end.ensures.bound
    (IsPartitionPoint-from_clause (λ x. is_le (order_to g.T.Named.name_of c.args.name.now x))
    c.args.index.now c.partition_point-end.result
    c.partition_point-end.ensures.partitioned
    (up_to_first g.T.Named.name_of c.args.index.now c.args.name.now c.requires)
    (λ a r q k. search rules))

pub slice_bounds-result-count : goal.slice_bounds-result-count
slice_bounds-result-count g c =
    let d = (goal.at.slice_bounds-result-count g c).After-partition_point-end in
    cuts_in_order g.T.Named.name_of c.args.index.now c.args.name.now
    c.partition_point-start.result c.partition_point-end.result (start_cut g d) (end_cut g d)

pub slice_bounds-result-start : goal.slice_bounds-result-start
slice_bounds-result-start g c =
    let d = (goal.at.slice_bounds-result-start g c).After-partition_point-end in
    cuts_in_order g.T.Named.name_of c.args.index.now c.args.name.now
    c.partition_point-start.result c.partition_point-end.result (start_cut g d) (end_cut g d)

pub returns : goal.returns
returns g c =
    let d = (goal.at.returns g c).After-partition_point-end in
    between g.T.Named.name_of c.args.index.now c.args.name.now c.partition_point-start.result
    c.partition_point-end.result (start_cut g d) (end_cut g d)
