use Rattle.command_listings.proofs.Words.{inl, inr, refl, texts_in, listing_failures}
use Rattle.texts.specs.Counted.{failures_of}
use Rattle.command_listings.proofs.OwnOffsetLemmas.{listing_unread, log_unread, none_then}
use Rattle.logs.proofs.PutLemmas.{is_handed}
use Rattle.command_listings.proofs.own_offsets.own_offset_engine.Goals as goal

pub returns-in_err-texts : goal.returns-in_err-texts
returns-in_err-texts g c =
    let log = c.args.log.now in
    rw (is_handed c.from_residual.result c.from_residual.ensures.1) (inl (
      c.in_err-texts.field-0.0,
      listing_unread (failures_of log, failures_of log)
          (listing_failures c.args.listings.now c.read_given.new.readers)
          c.in_err-texts.field-0.0 c.in_err-texts.ensures.read refl,
      (refl, (refl, refl)),
    ))

pub returns-in_err-log : goal.returns-in_err-log
returns-in_err-log g c =
    rw (is_handed c.from_residual-in_err-log.result c.from_residual-in_err-log.ensures.1) (inl (
      c.in_err-log.field-0.0,
      log_unread (failures_of c.args.log.now, failures_of c.read_at.new.reader) _ _ _
          c.in_ok-texts.ensures.read c.in_err-log.field-0.0 c.in_err-log.ensures.read,
      (refl, (refl, refl)),
    ))

pub returns : goal.returns
returns g c =
    let a = c.args in
    let given = texts_in c.in_ok-texts.texts in
    let log = c.in_ok-log.log.items in
    inr (record {
      given = given;
      log = log;
      is_given = c.in_ok-texts.ensures.bytes;
      is_log = c.in_ok-log.ensures.bytes;
      read = none_then (failures_of a.log.now, failures_of c.read_at.new.reader)
          (listing_failures a.listings.now c.read_given.new.readers) c.in_ok-texts.ensures.read
          c.in_ok-log.ensures.read;
      writes = rw (
        c.own_offset-said.ensures,
        c.deref.ensures.value,
        c.deref-2.ensures.value,
        c.deref-3.ensures.value,
      ) at c.write_by_own_offset.ensures;
    })
