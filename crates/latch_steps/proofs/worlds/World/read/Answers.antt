use Rattle.latch_steps.proofs.Definitions.{Some, cond, ◌∙◌, ap, sym, subst, refl, IsSome, ◌≡◌, ℕ}
use Rattle.latch_steps.proofs.Definitions.{Option, Lookup}
use Rattle.latch_steps.proofs.Definitions.{option_copied_mut, option_flatten, nat_cmp, is_at}
use Rattle.latch_steps.proofs.Definitions.{capacity_of, Loaded, Retried, lookup_at, Goes, Retries}
use Rattle.latch_steps.proofs.WorldLemmas.{lookup_set, lookup_kept, idle, stays, returns}
use Rattle.latch_steps.proofs.worlds.World.read.Given as given
use Rattle.latch_steps.proofs.worlds.World.read.Goals as goal
use Rattle.latch_steps.proofs.worlds.World.read.Goals.{In-Some-take}

pub returns-in_default-clause-steps : goal.returns-in_default-clause-steps
returns-in_default-clause-steps g c =
    let nowhere = sym c.get_mut.ensures.value ∙ ap option_copied_mut c.in_default.is in
    idle g.O.TreeOrder.order c.args.self.now c.args.reader _ _ (ap option_flatten nowhere)
    (λ q. ap (λ m. lookup_at m q) c.get_mut.follows.holds-at-none) c.counted_up-self.ensures

pub returns-in_default-take-clause-steps : goal.returns-in_default-take-clause-steps
returns-in_default-take-clause-steps g c =
    let free = sym (ap option_flatten c.in-Some.ensures.value) ∙ sym c.take.ensures.value
    ∙ c.in_default-take.is in
    idle g.O.TreeOrder.order c.args.self.now c.args.reader _ _ free
    (lookup_kept c.args.self.now.lookups (c.get_mut.follows.lender c.take.new.self) c.args.reader
    c.take.new.self
    ((c.get_mut.follows.holds c.take.new.self).3 (subst IsSome c.in-Some.ensures.value refl)).0
    (c.take.ensures.after ∙ sym free))
    c.counted_up-self.ensures

-- the lookup that was pending
pending : (g : given.Over) (c : In-Some-take g)
    → Some c.in-Some-take.lookup ≡ lookup_at c.args.self.now.lookups c.args.reader
pending g c =
    sym c.in-Some-take.is ∙ c.take.ensures.value ∙ ap option_flatten c.in-Some.ensures.value

-- the pending lookups once the reader's place ends so
ended : (g : given.Over) (c : In-Some-take g)
    (place : Option (Lookup g.row.O.Denot g.row.O-Key.Denot)) (q : ℕ)
    → lookup_at (c.get_mut.follows.lender place) q
    ≡ cond (is_at (nat_cmp c.args.reader) q) place (lookup_at c.args.self.now.lookups q)
ended g c place =
    lookup_set c.args.self.now.lookups (c.get_mut.follows.lender place) c.args.reader place
    ((c.get_mut.follows.holds place).3 (subst IsSome c.in-Some.ensures.value refl)).0

pub returns-in-Going-clause-steps : goal.returns-in-Going-clause-steps
returns-in-Going-clause-steps g c =
    let known = (goal.at.returns-in-Going-clause-steps g c).In-Some-take in
    stays g.O.TreeOrder.order c.args.self.now c.args.reader _ Goes Loaded c.in-Some-take.lookup
    c.in-Going.next _ c.as_slice.result.now (pending g known) c.as_slice.ensures.value
    (c.in-Going.ensures (capacity_of c.args.self.now.layout)) (λ w next. refl)
    (ended g known (Some c.in-Going.next)) c.counted_up-self.ensures

pub returns-in-Retrying-clause-steps : goal.returns-in-Retrying-clause-steps
returns-in-Retrying-clause-steps g c =
    let known = (goal.at.returns-in-Retrying-clause-steps g c).In-Some-take in
    stays g.O.TreeOrder.order c.args.self.now c.args.reader _ Retries Retried c.in-Some-take.lookup
    c.in-Retrying.next _ c.as_slice.result.now (pending g known) c.as_slice.ensures.value
    (c.in-Retrying.ensures (capacity_of c.args.self.now.layout)) (λ w next. refl)
    (ended g known (Some c.in-Retrying.next)) c.counted_up-self.ensures

pub returns-in-Returned-clause-steps : goal.returns-in-Returned-clause-steps
returns-in-Returned-clause-steps g c =
    let known = (goal.at.returns-in-Returned-clause-steps g c).In-Some-take in
    let old = c.args.self.now.lookups in
    returns g.O.TreeOrder.order c.args.self.now c.args.reader _ c.in-Some-take.lookup
    c.in-Returned.returned _ c.as_slice.result.now (pending g known) c.as_slice.ensures.value
    (c.in-Returned.ensures (capacity_of c.args.self.now.layout))
    (λ q. ended g known c.take.new.self q
    ∙ ap (λ p. cond (is_at (nat_cmp c.args.reader) q) p (lookup_at old q)) c.take.ensures.after)
    c.counted_up-self.ensures
