use Rattle.command_tables.proofs.Words.{◌≤◌, arith, length, regions_of, capacity_of}
use Rattle.command_tables.proofs.WorldOpeningLemmas.{opened}
use Rattle.command_tables.proofs.table.open_for.Goals as goal

pub returns-clause-holds : goal.returns-clause-holds
returns-clause-holds c =
    let room : length (regions_of c.args.catalog.now) ≤ capacity_of c.in_ok-wide.field-0 =
    grind arith in
    opened c.args.catalog.now c.open.result c.in_ok-wide.field-0 c.stays_sound.ensures
    c.open.ensures.layout c.open.ensures.shows c.open.ensures.after room
    c.in_ok-wide.ensures.limit
