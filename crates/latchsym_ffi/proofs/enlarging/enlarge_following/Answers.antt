use Rattle.latchsym_ffi.proofs.Words.{rules, reader_beside}
use Rattle.latchsym_ffi.proofs.enlarging.enlarge_following.Goals as goal

pub returns-in-Ok-clause-enlarged : goal.returns-in-Ok-clause-enlarged
returns-in-Ok-clause-enlarged c zero = (
  search rules,
  record {
    readers = c.in-Ok.all.items;
    moved = c.in-Ok.ensures.moved;
    each = c.replace_readers.ensures.each (reader_beside c.move_follower.new.follower.writer)
        c.in-Ok.ensures.moved.enlarges.readers;
  },
  c.in-Ok.ensures.others.0,
  c.in-Ok.ensures.others.1,
)
