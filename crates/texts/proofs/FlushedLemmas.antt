-- What a device holds after a text was delivered.
use Rattle.texts.proofs.Words.{◌≡◌, ℕ, List, [], ◌∷◌, Option, Some, None, Bool, true, false, refl}
use Rattle.texts.proofs.Words.{ap, ◌∙◌, subst, append-nil, length, if◌then◌else◌, arith, Appends}
use Rattle.texts.proofs.Words.{append_known, is_settled, Output, Delivered, IsOpenedOver}
use Rattle.texts.proofs.Words.{contents_of, is_flushed, kept_back, writer_of}
use Rattle.std.proofs.Common.{nat_eq}

-- the device took all that was delivered since the output was opened over it
module _ {W : Type 0} (contents : W → Option (List ℕ)) where
  nothing_kept : (o : Output W) → is_flushed o ≡ true
      → contents_of contents o ≡ contents (writer_of o)
  nothing_kept o flushed = ap (append_known (contents (writer_of o)))
      (kept_none (kept_back o) (is_settled o.device) flushed)
      ∙ append_known-nil (contents (writer_of o))
    where
      kept_none : (kept : List ℕ) (settled : Bool)
          → (if nat_eq (length kept) 0 then settled else false) ≡ true → kept ≡ []
      kept_none [] settled is = refl
      kept_none (x ∷ kept) settled is = absurd (grind (arith, is))

      append_known-nil : (known : Option (List ℕ)) → append_known known [] ≡ known
      append_known-nil None = refl
      append_known-nil (Some bytes) = ap (λ l. Some l) (append-nil bytes)

  pub device_took : (device : W) (opened new : Output W) (text : List ℕ)
      → IsOpenedOver device opened → Delivered contents opened new text
      → Appends (contents device) (contents (writer_of new)) text
  device_took device opened new text (writer, _, _, empty) (_, _, appended, flushed) =
      subst (λ w. Appends (contents w) (contents (writer_of new)) text) writer
      (subst (λ l. Appends l (contents (writer_of new)) text) (nothing_kept opened empty)
      (subst (λ l. Appends (contents_of contents opened) l text) (nothing_kept new flushed)
      appended))
