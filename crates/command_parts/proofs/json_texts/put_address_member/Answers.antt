use Rattle.command_parts.proofs.Words.{then}
use Rattle.command_parts.proofs.json_texts.put_address_member.Goals as goal

pub returns : goal.returns
returns g c = then (then c.put.ensures c.put_hexadecimal.ensures) c.put-2.ensures
