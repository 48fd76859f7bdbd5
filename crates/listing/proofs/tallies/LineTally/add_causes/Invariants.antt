use Rattle.listing.proofs.Words.{◌≡◌, ◌++◌, take, rows_of}
use Rattle.listing.proofs.tallies.LineTally.add_causes.Given as goal

-- there is a row for each cause so far
abbrev pub invariant-loop-cause : goal.invariant-loop-cause
invariant-loop-cause g l =
    l.self ≡ record l.fn.self {
      rows = l.fn.self.rows ++ rows_of g.C.Cause.place_of g.C.Cause.name_of l.counts.by_place
          (take l.cause-index l.causes);
    }
