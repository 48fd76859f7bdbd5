use Rattle.command_listings.proofs.Words.{◌∙◌, listed_kernel, ap, inr, is_narrow, lines_of}
use Rattle.command_listings.proofs.Words.{texts_in}
use Rattle.command_listings.proofs.following.follow_engine.Goals as goal

pub returns : goal.returns
returns g c =
    let a = c.args in
    let listings = c.in_ok-texts.ensures.listings in
    let sized =
    c.is_narrow-is_narrow.ensures ∙ ap (λ t. is_narrow (lines_of t)) c.deref.ensures.value in
    inr (inr (
      texts_in c.in_ok-texts.texts,
      g.L.LastingLog.seen c.read_listings.new.self,
      listings.event,
      listings.texts,
      inr (
        c.note_texts.new.errors,
        c.in_ok-note_texts.ensures,
        listings.left,
        listings.later,
        c.follow_blocks-end.new.outputs.errors,
        c.follow_blocks-end.result,
        rw sized at c.follow_blocks-end.ensures,
        rw (c.listed_kernel-kernel.ensures
            ∙ ap (λ t. listed_kernel t a.request.job.now.rule.offset) c.deref-2.ensures.value) at
            c.conclude_log.ensures,
      ),
    ))
