use Rattle.listing.proofs.Words.{◌≡◌, ◌+◌, ap, arith, suc, sym, ◌∙◌, module_of, has_symbols}
use Rattle.listing.proofs.ListingNoteLemmas.{none_more}
use Rattle.listing.proofs.listing_notes.lacks_symbols.Goals as goal

pub loop-place-preserved : goal.loop-place-preserved
loop-place-preserved c =
    let next : suc c.loop-place.place ≡ c.loop-place.place + 1 = omega arith in
    none_more has_symbols c.args.catalog.now.modules c.loop-place.place
    (omega (arith, c.loop-place-test.true, c.len-count.ensures))
    (ap (λ n. has_symbols (module_of c.args.catalog.now n)) next
    ∙ sym (ap has_symbols c.module.ensures) ∙ sym c.has_symbols.ensures
    ∙ c.if-has_symbols.false)
    c.loop-place.invariant
