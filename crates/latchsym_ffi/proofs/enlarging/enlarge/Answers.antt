use Rattle.latchsym_ffi.proofs.Words.{rules, reader_beside}
use Rattle.latchsym_ffi.proofs.enlarging.enlarge.Goals as goal

pub returns-in-Ok-clause-enlarged : goal.returns-in-Ok-clause-enlarged
returns-in-Ok-clause-enlarged c zero = (
  search rules,
  record {
    readers = c.in-Ok.all.items;
    moved = c.in-Ok.ensures.moved;
    each = c.replace_readers.ensures.each (reader_beside c.move_writer.new.writer)
        c.in-Ok.ensures.moved.enlarges.readers;
  },
)
