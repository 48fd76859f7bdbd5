use Rattle.command_listings.proofs.Words.{ap, then, Kept}
use Rattle.command_listings.specs.AddressTexts.{address_object}
use Rattle.command_listings.specs.declared.address_texts.AskedWord.{AskedWord}
use Rattle.command_listings.proofs.address_texts.put_address_object.Goals as goal

pub returns : goal.returns
unfolding address_object
returns g c =
    let at = rw c.told_address.ensures at c.put_address_member.ensures in
    let symbol = then at (rw (
      ap (λ (x : Kept). x.name) c.symbol.view_is,
      ap (λ (it : AskedWord). it.asked.above.offset) c.it.view_is,
      c.size.ensures,
    ) at c.put_symbol_members.ensures) in
    let owner = then symbol
    (rw (ap (λ (x : Kept). x.owner) c.symbol.view_is) at c.put_owner_member.ensures) in
    then owner c.put.ensures
