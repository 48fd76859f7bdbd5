use Rattle.listing.proofs.Words.{◌≡◌, ◌+◌, ap, arith, suc, sym, ◌∙◌, refl, module_of, has_name}
use Rattle.listing.proofs.ListingNoteLemmas.{none_more, some_at}
use Rattle.listing.proofs.overlaps.lists_module.Goals as goal

pub returns-then-has_name : goal.returns-then-has_name
returns-then-has_name c =
    let next : suc c.loop-place.place ≡ c.loop-place.place + 1 = omega arith in
    sym (some_at (has_name c.args.name.now) c.args.catalog.now.modules c.loop-place.place refl
    (ap (λ n. has_name c.args.name.now (module_of c.args.catalog.now n)) next
    ∙ sym (ap (has_name c.args.name.now) c.module.ensures) ∙ sym c.has_name.ensures
    ∙ c.if-has_name.true))

pub loop-place-preserved : goal.loop-place-preserved
loop-place-preserved c =
    let next : suc c.loop-place.place ≡ c.loop-place.place + 1 = omega arith in
    none_more (has_name c.args.name.now) c.args.catalog.now.modules c.loop-place.place
    (omega (arith, c.loop-place-test.true, c.len-place-end.ensures))
    (ap (λ n. has_name c.args.name.now (module_of c.args.catalog.now n)) next
    ∙ sym (ap (has_name c.args.name.now) c.module.ensures) ∙ sym c.has_name.ensures
    ∙ c.if-has_name.false)
    c.loop-place.invariant
