use Rattle.logs.proofs.TextLemmas.{never_found}
use Rattle.logs.proofs.kernel_reports.lacks.Goals as goal

pub returns-in-None : goal.returns-in-None
returns-in-None c = λ _. never_found c.args.text.now c.args.bytes.now c.in-None.ensures
