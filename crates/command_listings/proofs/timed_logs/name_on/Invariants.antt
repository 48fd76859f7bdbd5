use Rattle.command_listings.proofs.Words.{◌≡◌, ◌≤◌, ℕ, length, Counted, Output}
use Rattle.std.specs.Option.{option_copied}
use Rattle.histories.specs.ListingsAt.{IsOf}
use Rattle.command_listings.specs.TimedLogs.{IsTimedTo}
use Rattle.command_listings.proofs.timed_logs.name_on.Given as goal

-- each turn asks one listing
abbrev pub invariant-loop-turns : goal.invariant-loop-turns
invariant-loop-turns g l =
    IsOf l.catalogs.history.now l.listing
    × (length l.log.room.items ≡ length l.fn.log.room.items)
    × ((first : Counted g.row.L.Denot) (begun : Output g.row.W.Denot) (n : ℕ)
    → IsTimedTo (option_copied l.catalogs.kernel) l.catalogs.rule l.catalogs.history.now
    g.L.Read.remaining g.W.Write.contents first begun n l.fn.log l.fn.reader l.fn.writer
    → (m : ℕ) × (l.turns ≤ m)
    × IsTimedTo (option_copied l.catalogs.kernel) l.catalogs.rule l.catalogs.history.now
    g.L.Read.remaining g.W.Write.contents first begun m l.log l.reader l.writer)
