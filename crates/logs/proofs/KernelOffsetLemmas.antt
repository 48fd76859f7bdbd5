-- A log that does not say where its kernel lay.
use Rattle.logs.proofs.Definitions.{◌≡◌, ℕ, suc, List, [], ◌∷◌, arith, refl, FindsNeedle, OccursAt}
use Rattle.logs.proofs.Definitions.{Some, ap, kernel_offset_in}
use Rattle.std.specs.Option.{option_or}
use Rattle.logs.specs.KernelOffsets.{kernel_offset_at}
use Rattle.logs.specs.declared.kernel_offsets.KernelOffset.{KernelOffset}
use Rattle.logs.specs.declared.kernel_offsets.TheConstants.{OFFSET}
use Rattle.std.proofs.Common.{None}
use Rattle.logs.proofs.TextLemmas.{later_occurs, no_begin}

pub never_said : (log : List ℕ) → ((k : ℕ) → OccursAt log OFFSET.now k → ⊥)
    → kernel_offset_in log ≡ None
never_said [] none = refl
never_said (b ∷ log) none = rw (
  no_begin (b ∷ log) OFFSET.now none,
  never_said log (λ k at. none (suc k) (later_occurs b log OFFSET.now k at)),
) refl

pub none_without_head : (log : List ℕ) → FindsNeedle log OFFSET.now 0 None
    → kernel_offset_in log ≡ None
none_without_head log none =
    never_said log (λ k at. none k (omega arith) (omega (arith, at.fits)) at)

pub said_here : (log : List ℕ) (k : KernelOffset) → Some k ≡ kernel_offset_at log
    → Some k ≡ kernel_offset_in log
said_here [] k is = is
said_here (b ∷ log) k is = ap (λ o. option_or o (kernel_offset_in log)) is
