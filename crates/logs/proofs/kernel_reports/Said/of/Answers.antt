use Rattle.logs.proofs.kernel_reports.Said.of.Goals as goal

pub returns-then-is_silent : goal.returns-then-is_silent
returns-then-is_silent c = c.requires c.if-is_silent.true
