use Rattle.latch_table.proofs.Words.{◌≡◌, ◌-◌, ◌++◌, take, replicate, capacity_of, words_for}
use Rattle.latch_table.proofs.Words.{writer_of}
use Rattle.latch_table.proofs.enlarging.copied.Given as goal

abbrev pub invariant-loop-word : goal.invariant-loop-word
invariant-loop-word g l =
    (l.seat.table_id ≡ l.fn.seat.table_id) × (l.seat.me ≡ l.fn.seat.me)
    × (l.all.items ≡ take l.word (writer_of l.fn.seat.me.0).picture
    ++ replicate (words_for (capacity_of l.fn.to) - l.word) 0)
