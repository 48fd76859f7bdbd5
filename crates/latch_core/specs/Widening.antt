-- A writer's core at rest that goes on with more nodes.
use Rattle.std.specs.Prelude.{◌≡◌, ◌⊎◌, ℕ, [], ◌∷◌, ◌||◌, Option, Some, None, nat_lt}
use Rattle.order_laws.specs.declared.refusals.Refusal.{Refusal}
use Rattle.order_laws.specs.declared.refusals.Refusal.TheVariants.{BadCapacity, UpdateInHand}
use Rattle.order_laws.specs.declared.refusals.Refusal.TheVariants.{OutOfMemory}
use Rattle.word_layout.specs.declared.layouts.Layout.{Layout}
use Rattle.word_layout.specs.Layouts.{capacity_of, limit_of}
use Rattle.word_layout.specs.Wider.{wider_words}
use Rattle.table_updates.specs.Updates.{first_that_holds}
use Rattle.latch_core.specs.Latches.{Latch}
use Rattle.latch_core.specs.WriterViews.{WriterView}
use Rattle.latch_core.specs.Writers.{RepresentsLatch, has_pending}

-- why a core does not take a layout, or none: an update is pending, or the layout has fewer nodes
-- or a smaller greatest sequence
abbrev pub why_not_widened : WriterView → Layout → Option Refusal
why_not_widened w l =
    first_that_holds
    ((has_pending w, UpdateInHand)
    ∷ (nat_lt (capacity_of l) w.capacity || nat_lt (limit_of l) w.limit, BadCapacity)
    ∷ [])

-- a layout is refused by what its tests say, and else because memory ran out
abbrev pub IsWideningRefused : WriterView → Layout → Refusal → Type 0
IsWideningRefused w l e =
    (why_not_widened w l ≡ Some e) ⊎ ((why_not_widened w l ≡ None) × (e ≡ OutOfMemory))

-- the core with the layout: its table, its trees and its sequence stay
abbrev pub widened_writer : WriterView → Layout → WriterView
widened_writer w l = record w { capacity = capacity_of l; limit = limit_of l }

-- a latch that had n nodes, and now has n'
abbrev pub widened_latch : ℕ → ℕ → Latch → Latch
widened_latch n n' l = record l { words = wider_words n n' l.words }

-- each latch at rest that the old core pictures, the new one pictures once it has as many nodes
abbrev pub RepresentsWidened : WriterView → WriterView → Type 0
RepresentsWidened old new =
    (l : Latch) → RepresentsLatch old l → l.pending ≡ None →
    RepresentsLatch new (widened_latch old.capacity new.capacity l)
