-- What one event does to a world, and when it may be given up because memory ran out.
use Rattle.std.specs.Prelude.{◌≡◌, None, ◌⊎◌, Bool, true, false}
use Rattle.std.specs.FinMap.{get}
use Rattle.order_laws.specs.declared.refusals.Refusal.TheVariants.{OutOfMemory}
use Rattle.latch_steps.specs.declared.events.Event.{Event}
use Rattle.latch_steps.specs.declared.events.Event.TheVariants.{Begin, Write, Start, Read}
use Rattle.latch_steps.specs.declared.replies.Reply.{Reply}
use Rattle.latch_steps.specs.declared.replies.Reply.TheVariants.{Refused}
use Rattle.order_laws.specs.Orders.{Order}
use Rattle.latch_steps.specs.declared.worlds.World.{World}
use Rattle.latch_steps.specs.Runs.{Moment}
use Rattle.latch_steps.specs.Steps.{Machine, Step, refusal_of}
use Rattle.latch_steps.specs.Worlds.{RepresentsMoment, machine_in}

-- from each moment that the old world shows, the event leads by a step of the definitions to one
-- that the new world shows
abbrev pub Does : {O K : Type 0} → Order K → World O K → Event K → Reply K → World O K → Type 0
Does {O} {K} o old e reply new =
    (w : Moment K) → RepresentsMoment o old w
    → (next : Moment K)
    × Step (machine_in o old) w e reply next
    × RepresentsMoment o new next

-- nothing is against the event but that memory ran out, which only these two may meet
abbrev pub IsUnopposed : {K : Type 0} → Machine K → Moment K → Event K → Type 0
IsUnopposed m w (Begin u) = refusal_of m w.latch u ≡ None
IsUnopposed m w (Start r k) = get w.lookups r ≡ None
IsUnopposed m w _ = ⊥

-- a reply that says that memory ran out
abbrev pub is_refused_for_memory : {K : Type 0} → Reply K → Bool
is_refused_for_memory (Refused OutOfMemory) = true
is_refused_for_memory _ = false

-- it is refused because memory ran out, when nothing else is against it, and nothing has
-- changed
abbrev pub GivesUp : {O K : Type 0} → Order K → World O K → Event K → Reply K → World O K → Type 0
GivesUp {O} {K} o old e reply new =
    (reply ≡ Refused OutOfMemory)
    × ((w : Moment K) → RepresentsMoment o old w
    → IsUnopposed (machine_in o old) w e × RepresentsMoment o new w)

-- it does the event, or gives it up
abbrev pub MayDo : {O K : Type 0} → Order K → World O K → Event K → Reply K → World O K → Type 0
MayDo o old e reply new = Does o old e reply new ⊎ GivesUp o old e reply new

-- one event: only the two that take memory may be given up
abbrev pub IsWorldStep : {O K : Type 0} → Order K → World O K → Event K → Reply K → World O K
    → Type 0
IsWorldStep o old (Begin u) reply new = MayDo o old (Begin u) reply new
IsWorldStep o old Write reply new = Does o old Write reply new
IsWorldStep o old (Start r k) reply new = MayDo o old (Start r k) reply new
IsWorldStep o old (Read r) reply new = Does o old (Read r) reply new
