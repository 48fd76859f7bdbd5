use Rattle.command_parts.proofs.Words.{◌≡◌, ◌∙◌, ℕ, zero, suc, ◌+◌, ◌≤◌, ◌<◌, List, ◌++◌, length}
use Rattle.command_parts.proofs.Words.{take, drop, refl, sym, ap, ⊎_elim, arith, length-drop}
use Rattle.command_parts.proofs.Words.{eq-eqb, ne_eqb, append_assoc, ◌-◌, IsUtf8, escaped}
use Rattle.command_parts.proofs.Words.{text_within, same_text, then}
use Rattle.std.proofs.Common.{flat_map}
use Rattle.std.specs.Str.Lossy.{replacement_bytes, utf8_valid_len}
use Rattle.std.proofs.lemmas.Grind.{flat_map-append}
use Rattle.std.proofs.lemmas.Bool.Decides.{eqb_tells}
use Rattle.std.proofs.lemmas.Str.{utf8_valid_len-IsUtf8, utf8_valid_len_le}
use Rattle.command_parts.specs.Json.{text_of}
use Rattle.std.proofs.lemmas.List.{drop-drop, take_rest}
use Rattle.command_parts.proofs.json.put_text.Goals as goal

whole : (most : ℕ) (bytes : List ℕ) → utf8_valid_len bytes ≡ length bytes
    → text_within most bytes ≡ bytes
whole zero bytes is = refl
whole (suc most) bytes is = rw (eq-eqb _ _ is)

faulty : (most : ℕ) (bytes : List ℕ) → (utf8_valid_len bytes ≡ length bytes → ⊥)
    → text_within (suc most) bytes ≡ take (utf8_valid_len bytes) bytes ++ replacement_bytes
    ++ text_within most (drop (utf8_valid_len bytes + 1) bytes)
faulty most bytes is = rw (ne_eqb _ _ is)

-- any number from the length up gives the same text
within_any : (j k : ℕ) (bytes : List ℕ) → length bytes ≤ j → length bytes ≤ k
    → text_within j bytes ≡ text_within k bytes
within_any zero k bytes p q = let within = utf8_valid_len_le bytes in
    sym (whole k bytes (omega arith))
within_any (suc j) zero bytes p q = let within = utf8_valid_len_le bytes in
    whole (suc j) bytes (omega arith)
within_any (suc j) (suc k) bytes p q =
    let n = utf8_valid_len bytes in
    let less = length-drop (n + 1) bytes in
    let rest = drop (n + 1) bytes in
    ⊎_elim
    (λ is. whole (suc j) bytes is.1 ∙ sym (whole (suc k) bytes is.1))
    (λ is.
    faulty j bytes is.1 ∙ ap (λ t. take n bytes ++ replacement_bytes ++ t)
    (within_any j k rest (omega arith) (omega arith))
    ∙ sym (faulty k bytes is.1))
    (eqb_tells n (length bytes))

-- text stays as it is
text_of_text : (bytes : List ℕ) → IsUtf8 bytes → text_of bytes ≡ bytes
unfolding text_of
text_of_text bytes is = whole (length bytes) bytes (utf8_valid_len-IsUtf8 bytes is)

text_of_faulty : (bytes : List ℕ) → utf8_valid_len bytes < length bytes
    → text_of bytes ≡ take (utf8_valid_len bytes) bytes ++ replacement_bytes
    ++ text_of (drop (utf8_valid_len bytes + 1) bytes)
unfolding text_of
text_of_faulty bytes less =
    let n = utf8_valid_len bytes in
    let rest = drop (n + 1) bytes in
    let shorter = length-drop (n + 1) bytes in
    within_any (length bytes) (suc (length bytes)) bytes (omega arith) (omega arith)
    ∙ faulty (length bytes) bytes (λ is. omega (arith, is, less))
    ∙ ap (λ t. take n bytes ++ replacement_bytes ++ t)
    (within_any (length bytes) (length rest) rest (omega (arith, shorter)) (omega arith))

-- what was written goes on over the characters up to a byte that is none, and that byte
moves_past : (all done rest text after : List ℕ) (n : ℕ) → n ≡ utf8_valid_len rest → n < length rest
    → text ≡ take n rest → after ≡ drop (n + 1) rest
    → all ≡ done ++ flat_map escaped (text_of rest) → all
    ≡ done ++ flat_map escaped text ++ replacement_bytes ++ flat_map escaped (text_of after)
moves_past all done rest text after n is_n less is_text is_after e =
    let v = utf8_valid_len rest in
    e ∙ (rw (
      is_text,
      is_after,
      is_n,
      text_of_faulty rest (omega (arith, is_n, less)),
      flat_map-append escaped (take v rest ++ replacement_bytes) (text_of (drop (v + 1) rest)),
      flat_map-append escaped (take v rest) replacement_bytes,
    ) (simp append_assoc))

pub loop-fault-preserved : goal.loop-fault-preserved
loop-fault-preserved g c =
    let (done, split, said) = c.loop-fault.invariant in
    let rest = c.loop-fault.rest.now in
    let n = c.valid_up_to.result in
    let text = c.split_at.result.0.now in
    let others = c.split_at.result.1.now in
    let after = take (length others - 1) (drop 1 others) in
    let is_after : after ≡ drop (n + 1) rest =
    take_rest others 1 ∙ ap (λ x. drop 1 x) c.split_at.ensures.back ∙ drop-drop 1 n rest in
    let upto = c.in-Err.ensures.cases.1 in (
      done ++ flat_map escaped text ++ replacement_bytes,
      moves_past _ done rest text after n (c.valid_up_to.ensures ∙ c.in-Err.ensures.valid_len)
          (omega (arith, c.valid_up_to.ensures, upto.short)) c.split_at.ensures.front is_after
          split,
      then (then said c.put_escaped.ensures) c.put.ensures,
    )

pub returns : goal.returns
returns g c =
    let (done, split, said) = c.loop-fault.invariant in
    let is_text = text_of_text c.loop-fault.rest.now c.in_default.ensures.cases.1 in
    same_text (sym (split ∙ ap (λ t. done ++ flat_map escaped t) is_text))
    (then said c.put_escaped-2.ensures)
