use Rattle.command_listings.proofs.Words.{inl, inr, refl, not_understood, read_said, unread}
use Rattle.logs.proofs.PutLemmas.{is_handed}
use Rattle.command_listings.proofs.checks.check_engine_at.Goals as goal

pub returns-in_err-file : goal.returns-in_err-file
returns-in_err-file g c = rw (is_handed c.from_residual.result c.from_residual.ensures.1)
    (inl (
      unread g.R.Read.remaining c.args.history.now c.read_at.new.reader
          c.in_err-file.field-0.0 c.in_err-file.ensures.read,
      refl,
    ))

pub returns-in_err-history : goal.returns-in_err-history
returns-in_err-history g c =
    let read = rw (← c.deref.ensures.value) at c.in_ok-file.ensures.bytes in
    rw (is_handed c.from_residual-in_err-history.result c.from_residual-in_err-history.ensures.1)
    (inl (
      not_understood g.R.Read.remaining c.args.history.now c.read_at.new.reader
          c.deref.result.now c.in_err-history.field-0.0 c.in_ok-file.ensures.read read
          c.in_err-history.ensures,
      refl,
    ))

pub returns-in_err-texts : goal.returns-in_err-texts
returns-in_err-texts g c =
    rw (is_handed c.from_residual-in_err-texts.result c.from_residual-in_err-texts.ensures.1)
    (inl (c.in_ok-file.ensures.read, refl))

pub returns : goal.returns
returns g c =
    let read = rw (← c.deref.ensures.value) at c.in_ok-file.ensures.bytes in
    let said = read_said g.R.Read.remaining c.args.history.now c.read_at.new.reader
    c.deref.result.now _ read c.in_ok-history.ensures in
    inr (
      c.in_ok-history.history,
      (c.in_ok-file.ensures.read, said),
      rw c.in_ok-texts.ensures at c.check_given.ensures,
    )
