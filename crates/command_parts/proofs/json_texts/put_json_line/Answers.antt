use Rattle.command_parts.proofs.Words.{then}
use Rattle.command_parts.specs.JsonTexts.{json_line}
use Rattle.command_parts.proofs.json_texts.put_json_line.Goals as goal

pub returns : goal.returns
unfolding json_line
returns g c = then (then c.put_address_member.ensures c.put_answer_members.ensures) c.put.ensures
