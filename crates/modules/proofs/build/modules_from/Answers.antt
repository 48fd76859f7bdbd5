use Rattle.modules.proofs.Words.{◌≡◌, ℕ, suc, [], ◌∷◌, ◌++◌, length, sym, subst, ◌∙◌, arith}
use Rattle.modules.proofs.Words.{length-append, append_assoc, into_iter_items, common_steps}
use Rattle.modules.proofs.Words.{nat_tests, nil_from_length}
use Rattle.std.proofs.lemmas.List.{append-nil}
use Rattle.modules.proofs.Definitions.{IsPlaced}
use Rattle.modules.proofs.MakingLemmas.{EachMade-push, drop_next}
use Rattle.modules.proofs.build.modules_from.Goals as goal

pub new-requires : goal.new-requires
new-requires c =
    let places = c.args.places.items in
    let n : ℕ = length c.loop-symbols.yielded in
    let place = c.in-Some-next.place in
    let next = drop_next places (into_iter_items c.next-in-loop-symbols.new.self) n place
    (sym c.loop-symbols.invariant.left ∙ c.in-Some-next.ensures.items) in
    subst IsPlaced (next.1 place) (c.requires.placed n place next.0)

-- there is a place for each list
pub loop-symbols-preserved : goal.loop-symbols-preserved
loop-symbols-preserved c = grind (arith, common_steps, nil_from_length, length-append)

pub loop-symbols-preserved-in-Continue-1 : goal.loop-symbols-preserved-in-Continue-1
loop-symbols-preserved-in-Continue-1 c =
    let i = c.loop-symbols.invariant in
    let done = c.loop-symbols.yielded in
    let places = c.args.places.items in
    let place = c.in-Some-next.place in
    let next = drop_next places (into_iter_items c.next-in-loop-symbols.new.self) (length done)
    place (sym i.left ∙ c.in-Some-next.ensures.items) in
    let more : suc (length done) ≡ length (done ++ c.in-Some.symbols ∷ []) =
    omega (arith, length-append done (c.in-Some.symbols ∷ [])) in
    grind (arith, common_steps, nat_tests, drop_next, length-append, append_assoc, EachMade-push)

pub returns : goal.returns
returns c = grind (arith, common_steps, nil_from_length, append-nil)
