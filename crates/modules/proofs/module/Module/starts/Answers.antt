use Rattle.modules.proofs.Words.{◌≡◌, ℕ, ◌∙◌, true, List, length, Some, None, Option, sym, ap}
use Rattle.modules.proofs.Words.{arith, is_some, position, option_and_then}
use Rattle.modules.proofs.Lemmas.{position_from-zero, position-Some, slice_get-get_or, Some_ne_None}
use Rattle.modules.proofs.Lemmas.{is_some-position_from}
use Rattle.modules.proofs.Definitions.{placed_module_of, ModuleEntry, IsPlaced, first_start}
use Rattle.modules.proofs.Definitions.{start_at, module_view, is_core, start_where, Part, Core}
use Rattle.modules.proofs.module.Module.starts.Goals as goal

start_by : (o : Option ℕ) (regions : List (ℕ × ℕ)) (parts : List Part) → position is_core parts ≡ o
    → is_some o ≡ true → length parts ≡ length regions → option_and_then (start_at regions) o ≡ None
    → ⊥
start_by None regions parts is some same none = absurd (cc)
start_by (Some k) regions parts is some same none = grind (
  arith,
  Some_ne_None,
  position-Some is_core parts k Core is,
  slice_get-get_or regions k (0, 0),
)

core_starts : (m : ModuleEntry) → IsPlaced (placed_module_of m) → first_start is_core m ≡ None → ⊥
core_starts m placed none = grind (arith, start_by, position_from-zero, is_some-position_from)

pub unreachable-requires : goal.unreachable-requires
unreachable-requires c =
    let m = module_view c.self.inside in
    core_starts m c.self.invariant
    (ap (λ (rs : List (ℕ × ℕ)). start_where is_core rs m.parts) (sym c.as_slice.ensures.value)
    ∙ ap (λ (ps : List Part). start_where is_core c.as_slice.result.now ps)
    (sym c.as_slice-2.ensures.value)
    ∙ sym c.core_start.ensures
    ∙ c.in_default.is)
