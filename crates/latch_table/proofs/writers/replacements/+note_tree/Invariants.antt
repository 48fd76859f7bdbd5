use Rattle.latch_table.proofs.writers.replacements.+note_tree.Given as goal

abbrev pub decreases-note_tree : goal.decreases-note_tree
decreases-note_tree g l = l.most
