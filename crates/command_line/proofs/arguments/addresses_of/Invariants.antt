use Rattle.command_line.proofs.Words.{◌≡◌, take, None, find, filter_map, address_of_text}
use Rattle.command_line.proofs.Words.{is_no_address}
use Rattle.command_line.proofs.AddressLemmas.{texts}
use Rattle.command_line.proofs.arguments.addresses_of.Given as goal

abbrev pub invariant-loop-word : goal.invariant-loop-word
invariant-loop-word l = record {
  none_bad : find is_no_address (texts (take l.word-index l.words)) ≡ None;
  items : l.addresses.items ≡ filter_map address_of_text (texts (take l.word-index l.words));
}
