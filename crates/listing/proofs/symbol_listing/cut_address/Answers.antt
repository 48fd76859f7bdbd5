use Rattle.listing.proofs.Words.{◌≡◌, ℕ, ◌<◌, List, Some, length, get_or, take, sym, ap, ◌∙◌, arith}
use Rattle.listing.proofs.Words.{take_rest, numeral}
use Rattle.listing.proofs.SymbolLineLemmas.{usual_address}
use Rattle.listing.proofs.symbol_listing.cut_address.Goals as goal

pub returns-in-Some : goal.returns-in-Some
returns-in-Some c =
    let text = c.args.text.now in
    let long : 16 < length text = omega arith in
    let blank : get_or text 16 0 ≡ 32 = omega arith in
    let is : numeral 16 16 (take 16 text) ≡ Some c.in-Some.addr = sym c.in-Some.ensures in
    ap (λ (rest : List ℕ). Some (c.in-Some.addr, rest)) (take_rest text 17)
    ∙ sym (usual_address text c.in-Some.addr long blank is)
