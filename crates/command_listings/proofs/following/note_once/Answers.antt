use Rattle.texts.proofs.OutputLemmas.{nothing_said}
use Rattle.command_listings.proofs.FollowingLemmas.{some_note}
use Rattle.command_listings.proofs.following.note_once.Goals as goal

pub returns-then-is_told : goal.returns-then-is_told
returns-then-is_told g c =
    let (note, tells) = some_note c.args.files.now c.args.why.now in (
      note,
      tells,
      rw c.if-is_told.true (nothing_said c.args.errors.now),
    )

pub returns : goal.returns
returns g c =
    let (note, tells, said) = c.put_unread.ensures in (
      note,
      tells,
      rw c.if-is_told.false said,
    )
