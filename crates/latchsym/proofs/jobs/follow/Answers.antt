use Rattle.latchsym.proofs.FileTextLemmas.{seen_by}
use Rattle.latchsym.proofs.jobs.follow.Goals as goal

pub returns : goal.returns
returns g c =
    let log = c.new-log.ensures in
    let after = c.follow_engine.new.log in (
      seen_by g.F.File.Read.remaining (g.F.FileSource.file_text after.files.now) after.names.now
          after.listings.now after.log.now after.is_read,
      rw (log.files, log.names, log.listings, log.log, log.unread) at c.follow_engine.ensures,
    )
