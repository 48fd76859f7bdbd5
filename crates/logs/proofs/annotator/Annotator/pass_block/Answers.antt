use Rattle.logs.proofs.annotator.Annotator.pass_block.Goals as goal

pub returns-clause-put : goal.returns-clause-put
returns-clause-put g c = rw c.prepare.ensures at c.pass.ensures
