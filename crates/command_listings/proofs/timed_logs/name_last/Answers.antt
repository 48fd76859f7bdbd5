use Rattle.command_listings.proofs.Words.{◌∙◌, ap, append-nil}
use Rattle.logs.proofs.PutLemmas.{is_handed, puts_as}
use Rattle.logs.specs.Annotation.{EndsLog}
use Rattle.logs.specs.Lines.{unless_long}
use Rattle.logs.specs.declared.log_names.LogNames.{LogNames}
use Rattle.command_listings.specs.TimedLogs.{EndsBy}
use Rattle.command_listings.proofs.timed_logs.name_last.Goals as goal

pub returns-in_err-names-in-Ok : goal.returns-in_err-names-in-Ok
returns-in_err-names-in-Ok g c =
    let a = c.args in
    let answer = g.A.Answers.answering a.answers.now in
    rw (is_handed c.from_residual-in_err-names-in-Ok.result
    c.from_residual-in_err-names-in-Ok.ensures.1)
    (puts_as g.W.Write.contents (EndsLog answer a.lines.now.annotator) (λ x. EndsBy
    a.history.now a.listing.now.count answer a.lines.now x.0 x.1) a.writer.now c.end.new.writer
    (λ (names : LogNames). (names, c.in-Ok.times))
    (λ names text ends. (
      ends,
      λ line is_open. rw c.is_narrow-is_narrow.ensures at (c.in-Ok.ensures line
          (c.in_ok-whole.ensures line is_open ∙ ap unless_long (append-nil line))),
    )) c.in_err-names-in-Ok.field-0.0 c.in_err-names-in-Ok.ensures)
