use Rattle.listing.proofs.TabLemmas.{end_behind, no_end_behind}
use Rattle.listing.proofs.symbol_listing.tab_and_end.Goals as goal

pub returns-in-Some-memchr-clause-end : goal.returns-in-Some-memchr-clause-end
returns-in-Some-memchr-clause-end c =
    let (end, passes) = c.in-Some-memchr.ensures in
    end_behind c.args.bytes.now c.in-Some.place c.in-Some-memchr.more c.in-Some.ensures.0
    c.if-bytes-place-eq10.false end passes

pub returns-in-None-clause-end : goal.returns-in-None-clause-end
returns-in-None-clause-end c = no_end_behind c.args.bytes.now c.in-Some.place c.in-Some.ensures.0
    c.if-bytes-place-eq10.false c.in-None.ensures
