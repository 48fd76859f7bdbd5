use Rattle.command_listings.proofs.Words.{◌∙◌, ◌++◌, List, ℕ, ap, sym}
use Rattle.logs.proofs.PutLemmas.{is_handed, puts_as}
use Rattle.logs.specs.Annotation.{Passes}
use Rattle.command_listings.specs.TimedLogs.{PutsRun}
use Rattle.command_listings.proofs.timed_logs.name_run.Goals as goal

pub returns-in_err-pass_block-clause-run : goal.returns-in_err-pass_block-clause-run
returns-in_err-pass_block-clause-run g c =
    let a = c.args in
    let run = c.in_ok-run.run' in
    let parted = c.in_ok-run.ensures.parts
    ∙ ap (λ (l : List ℕ). run.named.now ++ l) (sym c.in_ok-pending.ensures) in
    let after = rw c.is_narrow-is_narrow.ensures at c.in_ok-run.ensures.run in
    rw (is_handed c.from_residual-in_err-pass_block.result
    c.from_residual-in_err-pass_block.ensures.1)
    (puts_as g.W.Write.contents (λ (u : Unit {0}).
    Passes (g.A.Answers.answering a.answers.now) a.lines.now.annotator c.pass_block.new.self
    run.named.now) (PutsRun a.history.now a.listing.now.count
    (g.A.Answers.answering a.answers.now) a.lines.now
    (record { annotator = c.pass_block.new.self; times = run.times }) a.bytes.now) a.writer.now
    c.pass_block.new.writer (λ u. c.in_ok-pending.pending)
    (λ u text passes. (run.named.now, parted, passes, after)) c.in_err-pass_block.field-0.0
    c.in_err-pass_block.ensures.put)

pub returns-clause-run : goal.returns-clause-run
returns-clause-run g c =
    let run = c.in_ok-run.run' in
    let (text, put, passes) = c.in_ok-pass_block.ensures.put in (
      text,
      put,
      (
        run.named.now,
        c.in_ok-run.ensures.parts
            ∙ ap (λ (l : List ℕ). run.named.now ++ l) (sym c.in_ok-pending.ensures),
        passes,
        rw c.is_narrow-is_narrow.ensures at c.in_ok-run.ensures.run,
      ),
    )
