use Rattle.command_traces.proofs.Words.{ap, flat_map, same_text, note_text}
use Rattle.command_traces.proofs.GatheredLemmas.{command_gathered}
use Rattle.command_traces.proofs.trace.gather_command.Goals as goal

pub returns-clause-gathered : goal.returns-clause-gathered
returns-clause-gathered g c =
    command_gathered g.O.TreeOrder.order g.W.Write.contents c.args.command.now c.args.driver.now
    c.obey.new.self c.forget_notes.new.self
    _ _ c.in_ok-obey.ensures.driven c.forget_notes.ensures.taken c.forget_notes.ensures.none
    (same_text (ap (flat_map note_text) c.notes.ensures) c.put_notes.ensures)
