use Rattle.recordings.proofs.Words.{◌∙◌, ap, List, ℕ, said_in, EventLine, BlockWritten, after_block}
use Rattle.recordings.proofs.Words.{option_copied, Option}
use Rattle.recordings.proofs.RecorderLemmas.{puts_failed}
use Rattle.recordings.proofs.recorder.put_lines.Goals as goal

pub returns-in_err-put_text : goal.returns-in_err-put_text
returns-in_err-put_text g c =
    let said = said_in c.args.text.now in
    let first = c.deref.ensures.value ∙ c.in_ok-said.ensures in
    let again = c.deref-2.ensures.value ∙ c.in_ok-said.ensures in
    let reads = rw first at c.in_ok-listing.ensures in
    let part =
    c.in_ok-part.ensures ∙ ap (λ (s : List EventLine).
    after_block s (option_copied c.as_ref.result) c.args.recording) again
    ∙ ap (λ (l : Option (List ℕ)). after_block said l c.args.recording) c.as_ref.ensures.value in
    puts_failed g.W.Write.contents c.args.recording said c.in_ok-listing.listing c.in_ok-part.part
    c.deref-3.result.now (g.L.LastingLog.seen c.args.events.now)
    (g.L.LastingLog.seen c.read_if_needed.new.events) c.args.writer.now c.put_text.new.writer
    c.in_err-put_text.field-0.0 c.from_residual-in_err-put_text.result reads part
    (c.deref-3.ensures.value ∙ ap (λ (p : BlockWritten). p.text) c.part.view_is)
    c.in_err-put_text.ensures c.from_residual-in_err-put_text.ensures.1
