-- Two lists whose entries belong together, one pair more at a time.
use Rattle.shared_lookup.proofs.Words.{◌≡◌, ℕ, ◌+◌, ◌<◌, List, [], ◌∷◌, ◌++◌, length, take, get_or}
use Rattle.shared_lookup.proofs.Words.{sym, ◌∙◌, ap, subst, arith, length-append, take_more}
use Rattle.shared_lookup.proofs.Words.{length-take-le, get_or_from_slice_get, slice_get-between}
use Rattle.shared_lookup.proofs.Words.{slice_get_some, both_pushed}
use Rattle.shared_lookup.specs.Paired.{ArePaired}

pub pair_more : {X Y : Type 0} (P : ℕ → X → Y → Type 0) (xs : List X) (ys : List Y) (x : X) (y : Y)
    → ArePaired P xs ys → P (length xs) x y
    → ArePaired P (xs ++ x ∷ []) (ys ++ y ∷ [])
pair_more P xs ys x y all last = record {
  same = length-append ys (y ∷ []) ∙ ap (λ n. n + 1) all.same ∙ sym (length-append xs (x ∷ []));
  each = both_pushed P xs ys x y all.same all.each last;
}

-- of the first entries of a list
pub pair_taken : {X Y : Type 0} (P : ℕ → X → Y → Type 0) (xs : List X) (i : ℕ) (d x : X)
    (ys : List Y) (y : Y) → i < length xs → x ≡ get_or xs i d
    → ArePaired P (take i xs) ys → P i x y → ArePaired P (take (i + 1) xs) (ys ++ y ∷ [])
pair_taken {X} {Y} P xs i d x ys y less is all last =
    let some : take (i + 1) xs ≡ take i xs ++ x ∷ [] =
    take_more xs i d less ∙ ap (λ (k : X). take i xs ++ k ∷ []) (sym is) in
    subst (λ (zs : List X). ArePaired P zs (ys ++ y ∷ [])) (sym some)
    (pair_more P (take i xs) ys x y all
    (subst (λ n. P n x y) (sym (length-take-le i xs (omega (arith, less)))) last))

-- The entries that a list is paired with: those that are done, the next and the rest.
module _ {X Y : Type 0} (P : ℕ → X → Y → Type 0) (xs : List X) (done rest : List Y) (y : Y)
    (all : ArePaired P xs (done ++ y ∷ rest)) where
  pub left : length done < length xs
  left = let s = all.same in let m = length-append done (y ∷ rest) in omega (arith, s, m)

  -- what the next is paired with
  abbrev pub partner : X
  partner = (slice_get_some xs (length done) left).0

  pub here : P (length done) partner y
  here = all.each (length done) partner y (slice_get_some xs (length done) left).1
      (slice_get-between done rest y)

  pub taken : take (length (done ++ y ∷ [])) xs ≡ take (length done) xs ++ partner ∷ []
  taken =
      ap (λ n. take n xs) (length-append done (y ∷ [])) ∙ take_more xs (length done) partner left
      ∙ ap (λ (x : X). take (length done) xs ++ x ∷ []) (get_or_from_slice_get xs (length done)
      partner partner (slice_get_some xs (length done) left).1)

  pub count : length (take (length done) xs) ≡ length done
  count = length-take-le (length done) xs (let l = left in omega (arith, l))

  -- what another list is paired with, once it has an entry for the next
  pub so_far : {Z : Type 0} (Q : ℕ → X → Z → Type 0) (zs : List Z) (z : Z)
      → ArePaired Q (take (length done) xs) zs → Q (length done) partner z
      → ArePaired Q (take (length (done ++ y ∷ [])) xs) (zs ++ z ∷ [])
  so_far Q zs z before last =
      subst (λ (ps : List X). ArePaired Q ps (zs ++ z ∷ [])) (sym taken)
      (pair_more Q (take (length done) xs) zs partner z before
      (subst (λ n. Q n partner z) (sym count) last))
