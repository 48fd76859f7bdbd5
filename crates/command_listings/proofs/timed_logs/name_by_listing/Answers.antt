use Rattle.command_listings.proofs.TimedLemmas.{answers_after}
use Rattle.command_listings.proofs.Words.{◌∙◌}
use Rattle.std.specs.Option.{option_copied}
use Rattle.command_listings.proofs.timed_logs.name_by_listing.Goals as goal

pub returns-clause-turn : goal.returns-clause-turn
returns-clause-turn g c =
    let a = c.args in
    let by = a.catalogs.now in
    let made = c.new-answers in
    c.name_by.ensures.turn (option_copied by.kernel) by.rule
    (answers_after (option_copied by.kernel) by.rule by.history.now a.listing.now
    c.in_ok-index.index made.result.index c.in_ok-index.field-0-1 made.result.rule
    made.result.is_narrow c.text.result.now c.requires.of c.text.ensures c.in_ok-index.ensures
    made.ensures.index made.ensures.rule
    (made.ensures.narrow ∙ c.requires.narrow))
