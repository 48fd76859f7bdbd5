use Rattle.run_files.proofs.Words.{lines_of}
use Rattle.run_files.proofs.TraceLineLemmas.{trace_by_lines}
use Rattle.run_files.proofs.laws.trace_by_its_lines.Goals as goal

pub returns : goal.returns
returns c = λ bytes. trace_by_lines (lines_of bytes)
