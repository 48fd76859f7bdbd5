use Rattle.rb_cursor.proofs.Words.{weight}
use Rattle.rb_cursor.proofs.FieldLemmas.{show}
use Rattle.rb_cursor.proofs.SeekLemmas.{SeekState}
use Rattle.rb_cursor.proofs.cursors.Cursor.seek.Given as goal

abbrev pub invariant-loop-link : goal.invariant-loop-link
invariant-loop-link g l = SeekState (g.P.Probe.seen l.sought)
    (record l.self-inside { tree = l.link; depth = l.depth }) l.fn.self

abbrev pub decreases-loop-link : goal.decreases-loop-link
decreases-loop-link g l =
    weight (show (record l.self-inside { tree = l.link; depth = l.depth })).tree
