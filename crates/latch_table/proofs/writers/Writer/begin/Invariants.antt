use Rattle.latch_table.proofs.writers.Writer.begin.Given as goal

abbrev pub ghosts-take_update : goal.ghosts-take_update
ghosts-take_update g a = record { update = a.update.now }
