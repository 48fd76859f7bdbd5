use Rattle.command_listings.proofs.checks.put_notes_if_listed.Goals as goal

pub returns-in-Some : goal.returns-in-Some
returns-in-Some g c = rw c.in-Some.is (rw (
  c.as_bytes.ensures.value,
  c.modules_name.ensures,
  c.deref.ensures.value,
  c.deref-in-Some.ensures.value,
) at c.put_module_notes.ensures)
