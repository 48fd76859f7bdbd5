use Rattle.texts.proofs.Words.{◌-◌, ◌^◌, ◌≡◌, vec_len, Consumes}
use Rattle.texts.specs.Counted.{device_of, failures_of}
use Rattle.texts.proofs.input.read_whole.Given as goal

-- what is read so far is gone from the reader
abbrev pub invariant-loop-count : goal.invariant-loop-count
invariant-loop-count g l = record {
  taken : Consumes (g.R.Read.remaining (device_of l.fn.reader))
      (g.R.Read.remaining (device_of l.reader)) l.bytes.items;
  none_failed : failures_of l.reader ≡ failures_of l.fn.reader;
}

abbrev pub decreases-loop-count : goal.decreases-loop-count
decreases-loop-count g l = 2 ^ 64 - vec_len l.bytes
