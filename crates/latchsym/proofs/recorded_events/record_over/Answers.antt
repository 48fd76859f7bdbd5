use Rattle.latchsym.proofs.FileTextLemmas.{seen_by}
use Rattle.latchsym.proofs.recorded_events.record_over.Goals as goal

pub record_engine-requires : goal.record_engine-requires
record_engine-requires g c = rw c.reopened-events.ensures.read

pub returns : goal.returns
returns g c =
    let events = c.reopened-events.ensures in
    let after = c.record_engine.new.events in (
      seen_by g.F.File.Read.remaining (g.F.FileSource.file_text after.files.now) after.names.now
          after.listings.now after.log.now after.is_read,
      rw (events.files, events.names, events.log, events.read) at c.record_engine.ensures,
    )
