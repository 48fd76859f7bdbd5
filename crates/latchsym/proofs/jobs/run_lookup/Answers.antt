use Rattle.latchsym.proofs.jobs.run_lookup.Goals as goal

pub returns : goal.returns
returns g c = (
  c.look_up.result,
  rw (c.as_ref.ensures.value, c.deref.ensures.value) at c.look_up.ensures,
  c.with_status.ensures,
)
