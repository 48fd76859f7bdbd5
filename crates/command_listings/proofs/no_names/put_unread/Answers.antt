use Rattle.command_listings.proofs.Words.{◌∙◌, ap, refl}
use Rattle.command_listings.specs.NoNames.{file_at}
use Rattle.texts.proofs.OutputLemmas.{then}
use Rattle.command_listings.proofs.no_names.put_unread.Goals as goal

pub returns : goal.returns
returns g c =
    let (words, are, said) = c.put_words.ensures in
    let file = c.file_at.ensures ∙ ap (file_at c.args.files.now) c.place.ensures in (
      _,
      (words, are, refl),
      rw file at (then (then (then c.put_note_head.ensures c.put.ensures) said) c.put-2.ensures),
    )
