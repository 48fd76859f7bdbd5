use Rattle.command_parts.proofs.FaultLemmas.{is_handed}
use Rattle.command_line.proofs.arguments.request_in.Goals as goal

pub returns-in_err-kernel : goal.returns-in_err-kernel
returns-in_err-kernel c =
    let name = c.args.name.now in
    rw (is_handed c.from_residual.result c.from_residual.ensures.1) (c.in_err-kernel.ensures name)

pub returns-in_err-symbols : goal.returns-in_err-symbols
returns-in_err-symbols c =
    let name = c.args.name.now in
    rw (is_handed c.from_residual-in_err-symbols.result c.from_residual-in_err-symbols.ensures.1)
    (c.in_err-symbols.ensures name)

pub returns : goal.returns
returns c = record {
  files = c.files_in-files.ensures;
  symbols = c.in_ok-symbols.ensures c.args.name.now;
  kernel = c.in_ok-kernel.ensures c.args.name.now;
  subcommand = c.in_ok-subcommand.ensures;
}
