use Rattle.latchsym.proofs.jobs.run_address.Goals as goal

pub returns-in-Listing : goal.returns-in-Listing
returns-in-Listing g c =
    rw c.in-Listing.is
    (rw (c.as_ref-kernel.ensures.value, c.deref.ensures.value) at c.address_engine.ensures)

pub returns-in-History : goal.returns-in-History
returns-in-History g c =
    rw c.in-History.is (rw (
      c.as_ref-kernel.ensures.value,
      c.deref-in-History.ensures.value,
    ) at c.address_engine_at.ensures)
