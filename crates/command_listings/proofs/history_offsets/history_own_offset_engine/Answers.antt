use Rattle.command_listings.proofs.Words.{Given, ap, inr, read_said}
use Rattle.command_listings.proofs.history_offsets.history_own_offset_engine.Goals as goal

pub returns-in-None : goal.returns-in-None
returns-in-None g c =
    let read = rw (← c.deref.ensures.value) at c.in_ok-file.ensures.bytes in
    let said = read_said g.H.Read.remaining c.args.history.now c.read_at.new.reader
    c.deref.result.now _ read c.in_ok-history.ensures in
    rw c.in-None.is (inr (
      c.in_ok-history.history,
      (c.in_ok-file.ensures.read, said),
      inr (
        c.in_ok-log.log.items,
        c.in_ok-log.ensures.bytes,
        c.in_ok-log.ensures.read,
        rw c.deref-in-None.ensures.value at c.write_timed.ensures,
      ),
    ))

pub returns : goal.returns
returns g c =
    let read = rw (← c.deref.ensures.value) at c.in_ok-file.ensures.bytes in
    let said = read_said g.H.Read.remaining c.args.history.now c.read_at.new.reader
    c.deref.result.now _ read c.in_ok-history.ensures in
    rw c.in-Some.is (inr (
      c.in_ok-history.history,
      (c.in_ok-file.ensures.read, said),
      inr (
        c.in_ok-log.log.items,
        c.in_ok-log.ensures.bytes,
        c.in_ok-log.ensures.read,
        inr (rw (
          c.own_offset-said.ensures,
          c.deref-in-Some.ensures.value,
          c.deref-in-Some-2.ensures.value,
          c.deref-in-Some-3.ensures.value,
          c.in_ok-texts-in-Some.ensures,
          ap (λ (g : Given). g.kallsyms) c.in_ok-texts-in-Some.ensures,
          c.in-Some.is,
        ) at c.write_by_own_offset.ensures),
      ),
    ))
