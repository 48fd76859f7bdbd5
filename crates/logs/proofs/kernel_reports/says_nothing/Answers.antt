use Rattle.logs.proofs.kernel_reports.says_nothing.Goals as goal

pub returns-then-lacks : goal.returns-then-lacks
returns-then-lacks c = λ is. (c.lacks.ensures c.if-lacks.true, c.lacks_offset.ensures is)
