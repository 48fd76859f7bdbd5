use Rattle.command_listings.proofs.Words.{inr, read_said}
use Rattle.command_listings.proofs.history_annotations.history_annotate_engine.Goals as goal

pub returns-in-None : goal.returns-in-None
returns-in-None g c =
    let read = rw (← c.deref.ensures.value) at c.in_ok-file.ensures.bytes in
    let said = read_said g.H.Read.remaining c.args.history.now c.read_at.new.reader
    c.deref.result.now _ read c.in_ok-history.ensures in
    rw c.in-None.is (inr (
      c.in_ok-history.history,
      (c.in_ok-file.ensures.read, said),
      c.annotate_timed.ensures,
    ))

pub returns : goal.returns
returns g c =
    let read = rw (← c.deref.ensures.value) at c.in_ok-file.ensures.bytes in
    let said = read_said g.H.Read.remaining c.args.history.now c.read_at.new.reader
    c.deref.result.now _ read c.in_ok-history.ensures in
    rw c.in-Some.is (inr (
      c.in_ok-history.history,
      (c.in_ok-file.ensures.read, said),
      rw (c.in_ok-texts-in-Some.ensures, c.in-Some.is) at c.annotate_by_texts.ensures,
    ))
