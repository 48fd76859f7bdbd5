-- A line whose first byte begins no word of a history.
use Rattle.histories.proofs.Words.{◌≡◌, ◌∙◌, ℕ, Bool, true, false, List, [], ◌∷◌, None, refl, sym}
use Rattle.histories.proofs.Words.{ne_eqb, true≢false, header_of, ◌||◌}
use Rattle.std.proofs.lemmas.Bool.{eq-eqb}
use Rattle.std.specs.Prelude.{nat_eq, codes, ◌==◌}
use Rattle.std.specs.List.{starts_with}
use Rattle.histories.specs.Grammar.{gone_of, is_reserved, may_be_reserved}

-- none of three tests is met
none_of : (a b c : Bool) → (a || b || c) ≡ false → (a ≡ false) × ((b ≡ false) × (c ≡ false))
none_of false false false none = (refl, (refl, refl))
none_of false false true none = absurd (true≢false none)
none_of false true c none = absurd (true≢false none)
none_of true b c none = absurd (true≢false none)

other_first : (b c : ℕ) (bytes word : List ℕ) → (b == c) ≡ false
    → starts_with nat_eq (b ∷ bytes) (c ∷ word) ≡ false
other_first b c bytes word other =
    rw (ne_eqb c b (λ is. true≢false (sym (eq-eqb b c (sym is)) ∙ other))) refl

pub no_header : (line : List ℕ) → may_be_reserved line ≡ false → header_of line ≡ None
no_header [] none = refl
no_header (b ∷ bytes) none =
    let (l, (c, g)) = none_of (b == 108) (b == 99) (b == 103) none in
    rw (other_first b 108 bytes (codes "isting ") l, other_first b 99 bytes (codes "hange ") c) refl

pub no_reserved : (line : List ℕ) → may_be_reserved line ≡ false → is_reserved line ≡ false
no_reserved [] none = refl
no_reserved (b ∷ bytes) none =
    let (l, (c, g)) = none_of (b == 108) (b == 99) (b == 103) none in
    rw (
      other_first b 108 bytes (codes "isting") l,
      other_first b 99 bytes (codes "hange") c,
      other_first b 103 bytes (codes "one") g,
    ) refl

pub no_gone : (line : List ℕ) → may_be_reserved line ≡ false → gone_of line ≡ None
no_gone [] none = refl
no_gone (b ∷ bytes) none =
    let (l, (c, g)) = none_of (b == 108) (b == 99) (b == 103) none in
    rw (other_first b 103 bytes (codes "one ") g) refl
