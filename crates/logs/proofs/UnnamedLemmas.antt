-- Which of the lines that end among bytes have an address word.
use Rattle.logs.proofs.Definitions.{◌≡◌, ◌∙◌, ◌++◌, ◌||◌, ◌&&◌, Bool, false, List, ℕ, ap, sym}
use Rattle.logs.proofs.Definitions.{append_assoc, list_any, IsLine, has_end}
use Rattle.logs.proofs.LineLemmas.{line_has_end, line_then, no_end_behind, none_ended, opened_line}
use Rattle.logs.specs.Unnamed.{ends_address, has_address}

-- what the first line says, and then the others
pub by_first : (narrow here : Bool) (bytes line more : List ℕ) → bytes ≡ line ++ more → IsLine line
    → here ≡ has_address narrow line
    → ends_address narrow bytes ≡ (here || ends_address narrow more)
by_first narrow here bytes line more parts is same =
    ap (ends_address narrow) parts
    ∙ ap (list_any (λ l. has_end l && has_address narrow l)) (line_then line more is)
    ∙ ap (λ b. (b && has_address narrow line) || ends_address narrow more) (line_has_end line is)
    ∙ ap (λ b. b || ends_address narrow more) (sym same)

-- where no line ends
pub none_has_address : (narrow : Bool) (bytes : List ℕ) → has_end bytes ≡ false
    → ends_address narrow bytes ≡ false
none_has_address narrow = none_ended (has_address narrow)

module _ (narrow : Bool) (line bytes : List ℕ) (unended : has_end line ≡ false) where
  -- the same behind a line that is open
  pub by_opened : (here : Bool) (rest more : List ℕ) → bytes ≡ rest ++ more → IsLine rest
      → here ≡ has_address narrow (line ++ rest)
      → ends_address narrow (line ++ bytes) ≡ (here || ends_address narrow more)
  by_opened here rest more parts is same =
      by_first narrow here (line ++ bytes) (line ++ rest) more (ap (λ l. line ++ l) parts
      ∙ sym (append_assoc line rest more)) (opened_line line rest unended is) same

  pub none_opened : has_end bytes ≡ false → ends_address narrow (line ++ bytes) ≡ false
  none_opened none = none_has_address narrow (line ++ bytes) (no_end_behind line bytes unended none)
