use Rattle.listing.proofs.Words.{◌≡◌, ℕ, IfSome, subst, sym, Vec, addresses_of}
use Rattle.texts.specs.Counted.{device_of}
use Rattle.texts.proofs.ReadLemmas.{gives_read}
use Rattle.listing.proofs.addresses.read_addresses.Goals as goal

pub returns-clause-addresses : goal.returns-clause-addresses
returns-clause-addresses g c =
    let left = g.R.Read.remaining (device_of c.args.reader.now) in
    let text = c.deref.result.now in
    let whole : IfSome left (λ l. text ≡ l) = subst (λ b. IfSome left (λ l. b ≡ l))
    (sym c.deref.ensures.value) c.in_ok-bytes.ensures.bytes in
    gives_read (λ (addresses : Vec ℕ). addresses.items) addresses_of left text _ whole
    c.entries_in.ensures
