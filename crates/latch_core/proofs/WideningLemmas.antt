-- A latch that has more nodes is pictured and sound as it was.
use Rattle.latch_core.proofs.Words.{◌≡◌, ℕ, ◌≤◌, List, [], None, sym, subst, arith, length-append}
use Rattle.latch_core.proofs.Words.{ltb-false, or_parts, Order, nil-from_length, Layout}
use Rattle.latch_core.proofs.Words.{capacity_of, limit_of, at, Holds, Update, stable_copy_of, Latch}
use Rattle.latch_core.proofs.Words.{IsSound, IsLatched, WriterView, IsShallow, why_not_widened}
use Rattle.latch_core.proofs.Words.{widened_writer, widened_latch, RepresentsWidened, nat_tests}
use Rattle.word_layout.specs.Wider.{wider_words}
use Rattle.word_layout.proofs.WiderLemmas.{at_wider, length_wider, holds_wider, table_wider}
use Rattle.latch_core.proofs.TestLemmas.{none_holds}
use Rattle.latch_core.proofs.WriterLemmas.{rest_now}

-- no update is pending where a layout is taken, and it has no fewer nodes and no smaller greatest
-- sequence
pub may_widen : (w : WriterView) (l : Layout) → why_not_widened w l ≡ None
    → (w.stores_left ≡ []) × (w.capacity ≤ capacity_of l) × (w.limit ≤ limit_of l)
may_widen w l e = grind (arith, nat_tests, none_holds, or_parts, nil-from_length, ltb-false)

shallow_wider : (n n' : ℕ) (m : List ℕ) → n ≤ n' → IsShallow n m → IsShallow n' (wider_words n n' m)
shallow_wider n n' m le is = (
  is.0,
  is.1,
  subst (λ q. Holds (wider_words n n' m) n' (stable_copy_of q) is.0 is.1) (sym (at_wider n n' m 0))
      (holds_wider m n n' (stable_copy_of (at m 0)) is.0 is.1 le is.2),
  is.3,
)

-- what a core at rest pictures, it pictures with the nodes of a greater layout
pub widened_pictures : (w : WriterView) (l : Layout) → w.stores_left ≡ []
    → w.capacity ≤ capacity_of l → RepresentsWidened w (widened_writer w l)
widened_pictures w l idle le latch p rest =
    grind (arith, nat_tests, rest_now, at_wider, length_wider, holds_wider, shallow_wider)

-- a sound latch stays sound
pub widened_sound : {K : Type 0} (o : Order K) (n n' start : ℕ) (us : List Update) (l : Latch)
    → n ≤ n' → IsSound o n start us l → IsSound o n' start us (widened_latch n n' l)
widened_sound o n n' start us l le is =
    grind (arith, nat_tests, at_wider, table_wider, length-append)

-- words of which the stable copy holds what was shown hold it with more nodes
pub latched_wider : {K : Type 0} (o : Order K) (n n' base : ℕ) (m : List ℕ) (known : List Update)
    → n ≤ n' → IsLatched o n base m known → IsLatched o n' base (wider_words n n' m) known
latched_wider o n n' base m known le is =
    grind (arith, nat_tests, at_wider, length_wider, table_wider)
