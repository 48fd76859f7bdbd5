use Rattle.command_traces.proofs.Words.{◌≡◌, subst, sym, device_of, IsTraceRun, Stays}
use Rattle.std.proofs.Common.{IfSome}
use Rattle.command_traces.proofs.TraceLineLemmas.{answers_read}
use Rattle.command_traces.proofs.trace.trace_engine.Goals as goal

pub returns : goal.returns
returns g c =
    let left = g.R.Read.remaining (device_of c.args.reader.now) in
    let text = c.deref.result.now in
    let whole : IfSome left (λ l. text ≡ l) = subst (λ b. IfSome left (λ l. b ≡ l))
    (sym c.deref.ensures.value) c.in_ok-bytes.ensures.bytes in
    answers_read (λ read. IsTraceRun) (λ read. IsTraceRun) Stays Stays g.R.Read.remaining
    g.W.Write.contents c.args.reader.now c.read_at.new.reader c.args.writer.now
    c.run_text.new.writer
    text whole c.in_ok-bytes.ensures.read (λ h. h) c.run_text.result c.run_text.ensures
