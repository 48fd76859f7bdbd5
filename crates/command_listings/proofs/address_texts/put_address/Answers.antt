use Rattle.command_listings.proofs.Words.{ap, then, Kept}
use Rattle.command_listings.specs.AddressTexts.{address_line}
use Rattle.command_listings.proofs.address_texts.put_address.Goals as goal

pub returns : goal.returns
unfolding address_line
returns g c =
    let word = then c.put.ensures c.put-2.ensures in
    let at = then word (rw c.told_address-addr.ensures at c.put_hexadecimal.ensures) in
    let blank = then at c.put-3.ensures in
    let size = then blank (rw c.size.ensures at c.put_hexadecimal-2.ensures) in
    let owner = then size
    (rw (ap (λ (x : Kept). x.owner) c.symbol.view_is) at c.put_owner.ensures) in
    then owner c.put-4.ensures
