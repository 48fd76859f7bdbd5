use Rattle.command_traces.proofs.Words.{◌≡◌, subst, sym, device_of, command_lines, trace_of}
use Rattle.command_traces.proofs.Words.{IsBegunOf, IsBegunText, IsCutText, IsStepsText, StopsAfter}
use Rattle.command_traces.proofs.Words.{IsTextOf}
use Rattle.std.specs.Prelude.{IfSome}
use Rattle.command_traces.proofs.StepLemmas.{begun_read}
use Rattle.command_traces.proofs.TraceLineLemmas.{answers_read}
use Rattle.command_traces.proofs.steps.steps_engine.Goals as goal

pub returns : goal.returns
returns g c =
    let contents = g.W.Write.contents in
    let left = g.R.Read.remaining (device_of c.args.reader.now) in
    let text = c.deref.result.now in
    let whole : IfSome left (λ l. text ≡ l) = subst (λ b. IfSome left (λ l. b ≡ l))
    (sym c.deref.ensures.value) c.in_ok-bytes.ensures.bytes in
    answers_read (λ read said. IsStepsText said (command_lines read))
    (λ read said. IsCutText said (command_lines read))
    (StopsAfter (IsBegunOf (command_lines text) (trace_of text)) contents)
    (StopsAfter (λ t. IfSome left
    (λ read. IsTextOf (λ bytes said. IsBegunText said (command_lines bytes)) read t)) contents)
    g.R.Read.remaining contents c.args.reader.now c.read_at.new.reader c.args.writer.now
    c.put_steps.new.writer
    text whole c.in_ok-bytes.ensures.read
    (begun_read contents left text whole c.args.writer.now c.put_steps.new.writer)
    c.put_steps.result c.put_steps.ensures
