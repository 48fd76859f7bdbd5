use Rattle.latchsym.proofs.jobs.look_up.Goals as goal

pub returns-in-Listing : goal.returns-in-Listing
returns-in-Listing g c = rw c.in-Listing.is c.lookup_engine.ensures

pub returns-in-History : goal.returns-in-History
returns-in-History g c = rw c.in-History.is c.lookup_engine_at.ensures
