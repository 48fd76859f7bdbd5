use Rattle.recordings.proofs.Words.{inr}
use Rattle.recordings.proofs.recorder.record.Goals as goal

pub returns : goal.returns
returns g c =
    let put = c.put_text.new.writer in
    inr (inr (
      put,
      rw c.first_text.ensures at c.in_ok-put_text.ensures,
      c.record_blocks.ensures,
    ))
