-- Which catalog stands at a moment, by the place up to which the catalogs were shown at or before
-- it.
use Rattle.follower.proofs.Words.{All, ◌≡◌, ℕ, suc, zero, ◌+◌, ◌-◌, ◌<◌, ◌≤◌, nat_le, Bool, true}
use Rattle.follower.proofs.Words.{false, cond, List, [], ◌∷◌, ◌++◌, get_or, Option, Some, None}
use Rattle.follower.proofs.Words.{IfSome, refl, sym, subst, ◌∙◌, arith, ⊎_elim, DatedCatalog}
use Rattle.follower.proofs.Words.{Moment, CatalogEntries, AreInOrder, EachStands, ForgetsOldest}
use Rattle.follower.proofs.Words.{at_number, number_of, standing_at, start_by, IsSplitBy}
use Rattle.std.proofs.lemmas.Bool.{cases_lt, le-leb, lt-leb}
use Rattle.std.proofs.lemmas.Option.{IfSome_then}
use Rattle.std.proofs.lemmas.List.Elements.{All-append, All-cons, All-nil}
use Rattle.follower.specs.declared.catalogs.Moment.TheVariants.{Generation, Stamp}
use Rattle.std.specs.List.Sorted.{IsNonDecreasingBy}

abbrev IsSplit : List DatedCatalog → Moment → ℕ → Type 0
IsSplit dated moment place = IsSplitBy (start_by moment) dated (number_of moment) place

-- without the first
rest_split : (d : DatedCatalog) (ds : List DatedCatalog) (m : Moment) (p : ℕ)
    → IsSplit (d ∷ ds) m (suc p) → IsSplit ds m p
rest_split d ds m p s = record {
  bound = omega (arith, s.bound);
  below = λ k e lt. s.below (suc k) e (omega arith);
  above = λ k e le lt. s.above (suc k) e (omega arith) (omega arith);
}

none_split : (d : DatedCatalog) (ds : List DatedCatalog) (m : Moment) → IsSplit (d ∷ ds) m 0
    → IsSplit ds m 0
none_split d ds m s = record {
  bound = omega arith;
  below = λ k e lt. absurd (omega arith);
  above = λ k e le lt. s.above (suc k) e (omega arith) (omega arith);
}

-- none stands where all begin later
pub none_stands : (ds : List DatedCatalog) (m : Moment) → IsSplit ds m 0 → standing_at ds m ≡ None
none_stands [] m s = refl
none_stands (d ∷ ds) m s =
    rw (lt-leb (start_by m d) (number_of m) (s.above 0 d (omega arith) (omega arith)))
    (none_stands ds m (none_split d ds m s))

-- and else the last that does not
last_stands : (ds : List DatedCatalog) (m : Moment) (p : ℕ) (e : DatedCatalog)
    → IsSplit ds m (suc p) → standing_at ds m ≡ Some (get_or ds p e)
last_stands [] m p e s = absurd (omega (arith, s.bound))
last_stands (d ∷ ds) m zero e s =
    rw (le-leb (start_by m d) (number_of m) (s.below 0 d (omega arith)))
    (rw (none_stands ds m (rest_split d ds m 0 s)) refl)
last_stands (d ∷ ds) m (suc p) e s =
    rw (le-leb (start_by m d) (number_of m) (s.below 0 d (omega arith)))
    (rw (last_stands ds m p e (rest_split d ds m (suc p) s)) refl)

pub stands_last : (ds : List DatedCatalog) (m : Moment) (p : ℕ) → IsSplit ds m p
    → (e : DatedCatalog) → 0 < p → standing_at ds m ≡ Some (get_or ds (p - 1) e)
stands_last ds m p s e some =
    last_stands ds m (p - 1) e (subst (IsSplit ds m) (let f : p ≡ suc (p - 1) = omega arith in f) s)

-- what stands there of the later ones stands there of all
pub later_stands : (ds es : List DatedCatalog) (m : Moment) (c : DatedCatalog)
    → standing_at es m ≡ Some c → standing_at (ds ++ es) m ≡ Some c
later_stands [] es m c is = is
later_stands (d ∷ ds) es m c is =
    rw (later_stands ds es m c is) (cond_same (nat_le (start_by m d) (number_of m)) (Some c))
  where
    cond_same : {X : Type 0} (b : Bool) (x : X) → cond b x x ≡ x
    cond_same true x = refl
    cond_same false x = refl

-- and where none of them does, what stands there of the earlier ones
pub earlier_stands : (ds es : List DatedCatalog) (m : Moment) → standing_at es m ≡ None
    → standing_at (ds ++ es) m ≡ standing_at ds m
earlier_stands [] es m is = is
earlier_stands (d ∷ ds) es m is = rw (earlier_stands ds es m is) refl

-- some catalog stands where the first does
first_stands : (d : DatedCatalog) (ds : List DatedCatalog) (m : Moment) → start_by m d ≤ number_of m
    → (c : DatedCatalog) × (standing_at (d ∷ ds) m ≡ Some c)
first_stands d ds m le = rw (le-leb (start_by m d) (number_of m) le) (_, refl)

-- a moment by the same clock asks for the same numbers
start_at : (m : Moment) (n : ℕ) (d : DatedCatalog) → start_by (at_number m n) d ≡ start_by m d
start_at (Generation g) n d = refl
start_at (Stamp s) n d = refl

number_at : (m : Moment) (n : ℕ) → number_of (at_number m n) ≡ n
number_at (Generation g) n = refl
number_at (Stamp s) n = refl

-- without the first the same stands where the second does
forgets : (d e : DatedCatalog) (ds : List DatedCatalog) (m : Moment) → start_by m e ≤ number_of m
    → ForgetsOldest m (d ∷ e ∷ ds) (e ∷ ds) d.tag
forgets d e ds m begun = record {
  oldest = d;
  gone = refl;
  told = refl;
  same = λ later le.
      let (c, is) = first_stands e ds (at_number m later) (let s = start_at m later e in
      let n = number_at m later in omega (arith, begun)) in
      is ∙ sym (later_stands (d ∷ []) (e ∷ ds) (at_number m later) c is);
}

-- where two were shown by the moment the oldest goes
pub oldest_goes : (ds es : List DatedCatalog) (m : Moment) (p : ℕ) (d : DatedCatalog) → ds ≡ d ∷ es
    → IsSplit ds m p → 2 ≤ p → ForgetsOldest m ds es d.tag
oldest_goes ds es m p d is s some = subst (λ (xs : List DatedCatalog). ForgetsOldest m xs es d.tag)
    (sym is) (by_second es (subst (λ (xs : List DatedCatalog). IsSplit xs m p) is s))
  where
    by_second : (xs : List DatedCatalog) → IsSplit (d ∷ xs) m p → ForgetsOldest m (d ∷ xs) xs d.tag
    by_second [] t = absurd (omega (arith, t.bound))
    by_second (e ∷ rest) t = forgets d e rest m (t.below 1 e (omega arith))

-- stands at its own number and after it
pub newest_stands : (ds : List DatedCatalog) (e : DatedCatalog) (m : Moment)
    → start_by m e ≤ number_of m → standing_at (ds ++ e ∷ []) m ≡ Some e
newest_stands ds e m le =
    later_stands ds (e ∷ []) m e (rw (le-leb (start_by m e) (number_of m) le) refl)

-- and not before it
pub others_stand : (ds : List DatedCatalog) (e : DatedCatalog) (m : Moment)
    → number_of m < start_by m e → standing_at (ds ++ e ∷ []) m ≡ standing_at ds m
others_stand ds e m lt =
    earlier_stands ds (e ∷ []) m (rw (lt-leb (start_by m e) (number_of m) lt) refl)

module _ (P : ℕ → CatalogEntries → Type 0) (now : ℕ) (ds : List DatedCatalog)
    (newest : DatedCatalog) (next : newest.previous ≡ now) (stands : EachStands P now ds) where
  pub newest_too : P (suc now) newest.catalog → EachStands P (suc now) (ds ++ newest ∷ [])
  newest_too is = record {
    reached =
        All-append (λ (d : DatedCatalog). d.previous < suc now) ds (newest ∷ []) (λ k d lt. let r =
        stands.reached k d lt in omega arith) (All-cons (λ (d : DatedCatalog). d.previous < suc now)
        newest [] (omega (arith, next)) (All-nil (λ (d : DatedCatalog). d.previous < suc now)));
    right = λ g le. ⊎_elim
        (λ before. subst (λ o. IfSome o (λ d. P g d.catalog))
        (sym (others_stand ds newest (Generation g) (omega (arith, next, before))))
        (stands.right g (omega arith)))
        (λ at. subst (λ o. IfSome o (λ d. P g d.catalog))
        (sym (newest_stands ds newest (Generation g) (omega (arith, next, at))))
        (subst (λ h. P h newest.catalog) (let e : suc now ≡ g = omega arith in e) is))
        (cases_lt g (suc now));
  }

-- where it is right for one reason it is for another
pub right_too : (P Q : ℕ → CatalogEntries → Type 0) (now : ℕ) (ds : List DatedCatalog)
    → ((g : ℕ) (c : CatalogEntries) → g ≤ now → P g c → Q g c) → EachStands P now ds
    → EachStands Q now ds
right_too P Q now ds other stands = record {
  reached = stands.reached;
  right = λ g le. IfSome_then (standing_at ds (Generation g)) (stands.right g le)
      (λ d p. other g d.catalog le p);
}

-- what is left without the first stands as before
pub still_stands : (P : ℕ → CatalogEntries → Type 0) (now : ℕ) (d : DatedCatalog)
    (ds : List DatedCatalog) → EachStands P now (d ∷ ds) → EachStands P now ds
still_stands P now d ds stands = record {
  reached = λ k e lt. stands.reached (suc k) e (omega arith);
  right = λ g le. each g (standing_at ds (Generation g)) refl (stands.right g le);
}
  where
    each : (g : ℕ) (o : Option DatedCatalog) → standing_at ds (Generation g) ≡ o
        → IfSome (standing_at (d ∷ ds) (Generation g)) (λ e. P g e.catalog)
        → IfSome o (λ e. P g e.catalog)
    each g None e all = tt
    each g (Some c) e all =
        subst (λ o. IfSome o (λ x. P g x.catalog)) (later_stands (d ∷ []) ds (Generation g) c e) all

-- by either clock they rise
pub in_order : (m : Moment) (ds : List DatedCatalog) → AreInOrder ds
    → IsNonDecreasingBy (start_by m) ds
in_order (Generation g) ds ordered = λ i j d le lt. let h = ordered.generations i j d le lt in
    omega (arith, h)
in_order (Stamp s) ds ordered = ordered.stamps

-- all of them having been shown, the last stands, also later
all_stand : (ds : List DatedCatalog) (now : ℕ) → All (λ d. d.previous < now) ds
    → standing_at ds (Generation (suc now)) ≡ standing_at ds (Generation now)
all_stand [] now reached = refl
all_stand (d ∷ ds) now reached =
    let here : d.previous < now = reached 0 d (omega arith) in
    rw (le-leb (d.previous + 1) (suc now) (omega arith))
    (rw (le-leb (d.previous + 1) now (omega arith))
    (rw (all_stand ds now (λ k e lt. reached (suc k) e (omega arith))) refl))

-- one generation on the same catalogs stand, the newest at the next, if it is right there
pub stand_on : (P : ℕ → CatalogEntries → Type 0) (now : ℕ) (ds : List DatedCatalog)
    → EachStands P now ds → (Q : ℕ → CatalogEntries → Type 0)
    → ((c : CatalogEntries) → Q now c → P (suc now) c) → EachStands Q now ds
    → EachStands P (suc now) ds
stand_on P now ds stands Q goes_on before = record {
  reached = λ k d lt. let r = stands.reached k d lt in omega arith;
  right = λ g le. ⊎_elim
      (λ earlier. stands.right g (omega arith))
      (λ at. subst (λ h. IfSome (standing_at ds (Generation h)) (λ d. P h d.catalog))
      (let e : suc now ≡ g = omega arith in e)
      (subst (λ o. IfSome o (λ d. P (suc now) d.catalog)) (sym (all_stand ds now stands.reached))
      (IfSome_then (standing_at ds (Generation now)) (before.right now (omega arith))
      (λ d p. goes_on d.catalog p))))
      (cases_lt g (suc now));
}
