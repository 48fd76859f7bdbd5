use Rattle.run_files.proofs.Words.{◌∙◌, [], ap, none_before}
use Rattle.run_files.proofs.TraceLineLemmas.{gone_past}
use Rattle.run_files.proofs.command_lines.CommandLines.understand.Goals as goal

pub loop-init : goal.loop-init
loop-init c = ([], none_before _ ∙ ap (λ l. l.said) c.self.view_is)

pub loop-preserved-in-Some : goal.loop-preserved-in-Some
loop-preserved-in-Some c =
    gone_past _ _ _ c.in_ok-next_command.field-0 c.in-Some.field-0 c.in-Some.is
    c.in_ok-next_command.ensures.next
    c.loop.invariant

pub loop-preserved-in-Some-2 : goal.loop-preserved-in-Some-2
loop-preserved-in-Some-2 c =
    gone_past _ _ _ c.in_ok-next_command.field-0 c.in-Some.field-0 c.in-Some.is
    c.in_ok-next_command.ensures.next
    c.loop.invariant

pub loop-preserved-in-Some-3 : goal.loop-preserved-in-Some-3
loop-preserved-in-Some-3 c =
    gone_past _ _ _ c.in_ok-next_command.field-0 c.in-Some.field-0 c.in-Some.is
    c.in_ok-next_command.ensures.next
    c.loop.invariant
