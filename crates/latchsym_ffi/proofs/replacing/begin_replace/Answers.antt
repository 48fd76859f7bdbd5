use Rattle.latchsym_ffi.proofs.Words.{◌∙◌, inl, inr, refl, subst, OutOfMemory, half_open}
use Rattle.latchsym_ffi.proofs.Words.{RefusesReplacing}
use Rattle.latchsym_ffi.proofs.replacing.begin_replace.Goals as goal

pub returns-in_default-clause-refused : goal.returns-in_default-clause-refused
returns-in_default-clause-refused c refused = (OutOfMemory, c.number.ensures, inr refl)

pub returns-clause-refused : goal.returns-clause-refused
returns-clause-refused c refused = (
  c.in-Err.refusal,
  c.number-in-Err.ensures,
  inl (subst (λ l. RefusesReplacing half_open c.args.writer.now l c.in-Err.refusal)
      (c.as_slice.ensures.value ∙ c.in-Ok.ensures) c.in-Err.ensures.refused),
)
