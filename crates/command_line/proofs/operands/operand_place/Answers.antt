use Rattle.command_line.proofs.Words.{◌≡◌, ◌∙◌, ℕ, ◌+◌, Bool, cond, List, [], ◌∷◌, get_or, Option}
use Rattle.command_line.proofs.Words.{Some, None, refl, sym, ap, option_and_then, position}
use Rattle.command_line.proofs.Words.{slice_index_or, Bor, position_from, position_from-zero}
use Rattle.command_line.proofs.Words.{get_or-map, position-Some, Text, ends_options, is_kernel_name}
use Rattle.command_line.proofs.Words.{operand_place, false, true}
use Rattle.command_line.proofs.AddressLemmas.{texts}
use Rattle.command_line.proofs.operands.operand_place.Goals as goal

mapped_from : (words : List (Bor Text)) (i : ℕ)
    → position_from (λ w. ends_options w.now) i words ≡ position_from ends_options i (texts words)
mapped_from [] i = refl
mapped_from (w ∷ ws) i = ap (cond (ends_options w.now) (Some i)) (mapped_from ws (i + 1))

mapped : (words : List (Bor Text))
    → position (λ w. ends_options w.now) words ≡ position ends_options (texts words)
mapped words =
    position_from-zero (λ (w : Bor Text). ends_options w.now) words ∙ mapped_from words 0
    ∙ sym (position_from-zero ends_options (texts words))

-- by the first word that ends the options
module _ (words : List (Bor Text)) where
  abbrev at : Option ℕ → Option ℕ
  at o = option_and_then
      (λ place. cond (is_kernel_name (slice_index_or (texts words) place [])) (Some place) None) o

  no_place : position (λ w. ends_options w.now) words ≡ None → operand_place (texts words) ≡ None
  no_place none = ap at (sym (mapped words) ∙ none)

  place_is : (place : ℕ) (d : Bor Text) (b : Bool) → position (λ w. ends_options w.now) words
      ≡ Some place → is_kernel_name (get_or words place d).now ≡ b
      → operand_place (texts words) ≡ cond b (Some place) None
  place_is place d b is kernel =
      let found = position-Some (λ (w : Bor Text). ends_options w.now) words place d is in
      ap at (sym (mapped words) ∙ is)
      ∙ ap (λ word. cond (is_kernel_name word) (Some place) None)
      (get_or-map (λ (w : Bor Text). w.now) words place d [] found.0)
      ∙ ap (λ t. cond t (Some place) None) kernel

pub returns-in_err-place-clause-place : goal.returns-in_err-place-clause-place
returns-in_err-place-clause-place c =
    c.from_residual.ensures ∙ sym (no_place c.args.words.now (sym c.in_err-place.ensures.place))

pub returns-then-is_kernel_name-clause-place : goal.returns-then-is_kernel_name-clause-place
returns-then-is_kernel_name-clause-place c =
    sym (place_is c.args.words.now c.in_ok-place.place _ true (sym c.in_ok-place.ensures.place)
    (sym c.is_kernel_name.ensures ∙ c.if-is_kernel_name.true))

pub returns-else-is_kernel_name-clause-place : goal.returns-else-is_kernel_name-clause-place
returns-else-is_kernel_name-clause-place c =
    sym (place_is c.args.words.now c.in_ok-place.place _ false (sym c.in_ok-place.ensures.place)
    (sym c.is_kernel_name.ensures ∙ c.if-is_kernel_name.false))
