use Rattle.latchsym.proofs.jobs.check.Goals as goal

pub returns-in-Listing : goal.returns-in-Listing
returns-in-Listing g c =
    rw c.in-Listing.is (rw c.as_ref-kernel.ensures.value at c.check_engine.ensures)

pub returns-in-History : goal.returns-in-History
returns-in-History g c =
    rw c.in-History.is (rw c.as_ref-kernel.ensures.value at c.check_engine_at.ensures)
