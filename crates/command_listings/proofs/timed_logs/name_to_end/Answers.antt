use Rattle.command_listings.proofs.Words.{◌∙◌, Ok, ap}
use Rattle.command_listings.proofs.timed_logs.name_to_end.Goals as goal

pub returns-in-Other : goal.returns-in-Other
returns-in-Other g c = λ first begun n turned.
    let (m, many, timed) = rw (c.in_ok-names.was ∙ ap Ok c.in-Other.is) at turned in
    c.name_on.ensures first begun m timed
