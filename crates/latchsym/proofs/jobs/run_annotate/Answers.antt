use Rattle.latchsym.proofs.Words.{◌∙◌, ap, with_notes}
use Rattle.latchsym.proofs.LogOutcomeLemmas.{outcome_of}
use Rattle.latchsym.proofs.jobs.run_annotate.Goals.{in-Listing-Blocks, in-Listing-Followed}
use Rattle.latchsym.proofs.jobs.run_annotate.Goals.{in-Listing-Whole, in-History-Whole}
use Rattle.latchsym.proofs.jobs.run_annotate.Goals.{in-History-Blocks, in-History-Followed}
use Rattle.latchsym.proofs.jobs.run_annotate.Goals as goal

pub returns : goal.returns
returns g c =
    let a = c.args in
    let m = c.match-request in
    let l = a.listings.now in
    let noted = c.with_notes.ensures ∙ ap (λ n. with_notes n m.done) c.none.ensures in
    let outcome = outcome_of g.F.File.Read.remaining (g.F.FileSource.file_text a.files.now)
    g.W.Write.contents g.E.Write.contents a.outputs.now.writer a.outputs.now.errors
    a.request.sources.now a.request.job.now l c.in-Some.log in
    elim m.branch [
      | in-Listing-Blocks w ↦
          let done = w.annotate_engine-done in
          outcome done.new.log _ _ m.outputs done.new.outputs m.listings done.new.listings a.log.now
          m.log m.done done.result c.with_notes.result w.in-Listing-Blocks.is-0
          w.in-Listing-Blocks.is-1 c.in-Some.is w.log-is w.outputs-is w.listings-is w.done-is
          noted done.ensures
      | in-Listing-Followed w ↦
          let done = w.follow-done in
          outcome done.new.log _ _ m.outputs done.new.outputs m.listings done.new.listings a.log.now
          m.log m.done done.result c.with_notes.result w.in-Listing-Followed.is-0
          w.in-Listing-Followed.is-1 c.in-Some.is w.log-is w.outputs-is w.listings-is w.done-is
          noted done.ensures
      | in-Listing-Whole w ↦
          let done = w.own_offset_engine-done in
          outcome done.new.log _ _ m.outputs done.new.outputs m.listings done.new.listings a.log.now
          m.log m.done done.result c.with_notes.result w.in-Listing-Whole.is-0
          w.in-Listing-Whole.is-1 c.in-Some.is w.log-is w.outputs-is w.listings-is w.done-is
          noted done.ensures
      | in-History-Whole w ↦
          let done = w.history_own_offset_engine-done in
          outcome done.new.log _ _ m.outputs done.new.outputs m.listings
          (record l { kallsyms = done.new.history }) a.log.now m.log m.done done.result
          c.with_notes.result w.in-History-Whole.is-0 w.in-History-Whole.is-1 c.in-Some.is
          w.log-is w.outputs-is w.listings-is w.done-is noted done.ensures
      | in-History-Blocks w ↦
          let done = w.history_annotate_engine-done in
          outcome done.new.log _ _ m.outputs done.new.outputs m.listings
          (record l { kallsyms = done.new.history }) a.log.now m.log m.done done.result
          c.with_notes.result w.in-History-Blocks.is-0 w.in-History-Blocks.is-1 c.in-Some.is
          w.log-is w.outputs-is w.listings-is w.done-is noted done.ensures
      | in-History-Followed w ↦
          let done = w.history_annotate_engine-done-in-History-Followed in
          outcome done.new.log _ _ m.outputs done.new.outputs m.listings
          (record l { kallsyms = done.new.history }) a.log.now m.log m.done done.result
          c.with_notes.result w.in-History-Followed.is-0 w.in-History-Followed.is-1 c.in-Some.is
          w.log-is w.outputs-is w.listings-is w.done-is noted done.ensures
    ]
