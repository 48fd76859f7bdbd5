use Rattle.command_line.proofs.parser.latchsym_command.Goals as goal

pub returns : goal.returns
returns c =
    let one = c.in_ok-command.ensures _ c.top_command-command.ensures in
    let two = c.in_ok-command-2.ensures _ one in
    let three = c.in_ok-command-3.ensures _ two in
    let four = c.in_ok-command-4.ensures _ three in
    let five = c.in_ok-command-5.ensures _ four in
    let six = c.in_ok-command-6.ensures _ five in
    c.with_subcommand-7.ensures _ six
