use Rattle.logs.proofs.Definitions.{Passes}
use Rattle.logs.proofs.PutLemmas.{added, puts}
use Rattle.logs.proofs.annotator.Annotator.pass.Goals as goal

pub returns : goal.returns
returns g c =
    let passes = Passes (g.A.Answers.answering c.args.answers.now) c.args.self.now
    c.pass_bytes.new.self c.args.bytes.now in
    puts g.W.Write.contents passes c.args.writer.now c.put_now.new.writer c.deref.result.now
    c.put_now.result
    (added c.in_ok-out.out.items c.pass_bytes.new.out.items c.deref.result.now passes
    c.in_ok-out.ensures.items c.deref.ensures.value c.in_ok-pass_bytes.ensures)
    c.put_now.ensures.written c.put_now.ensures.fault c.put_now.ensures.begun
