use Rattle.latchsym_ffi.proofs.opening_tables.in_boxes.Goals as goal

pub returns-clause-each : goal.returns-clause-each
returns-clause-each c r all = c.in_ok-readers.ensures.each r all
