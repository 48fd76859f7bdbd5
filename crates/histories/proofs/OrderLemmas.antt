-- Times that do not fall.
use Rattle.histories.proofs.Words.{◌≡◌, ◌∙◌, ℕ, zero, suc, ◌+◌, ◌<◌, ◌≤◌, Bool, true, false, List}
use Rattle.histories.proofs.Words.{[], ◌∷◌, length, Option, None, Some, refl, sym, ap, subst, arith}
use Rattle.histories.proofs.Words.{cond, get_or, prefix_len, without_end, header_of, first_bad}
use Rattle.histories.proofs.Words.{parts_of, count_at, HistoryPart, true≢false, ⊎_elim, cases_order}
use Rattle.histories.proofs.Words.{nat_le, option_map_or, option_or, prefix_len_passes}
use Rattle.histories.proofs.Words.{prefix_len-le-length, AreInOrder, time_text}
use Rattle.std.proofs.lemmas.Bool.{leb-true}
use Rattle.std.specs.Prelude.{is_some, Result, Ok, Err}
use Rattle.std.specs.List.Sorted.{IsPartitionPoint}
use Rattle.std.proofs.lemmas.List.Sums.{prefix_len_stops}
use Rattle.histories.specs.Grammar.{body_of, may_follow, is_understood_after, parts_from}
use Rattle.histories.specs.declared.grammar.Header.{Header}

-- likewise by recursion, with none below the least
abbrev pub DoNotFall : ℕ → List HistoryPart → Type 0
DoNotFall least [] = Unit {0}
DoNotFall least (p ∷ ps) = (least ≤ p.header.time) × DoNotFall p.header.time ps

abbrev least_of : Option Header → ℕ
least_of None = 0
least_of (Some h) = h.time

none_below : (least : ℕ) (ps : List HistoryPart) → DoNotFall least ps → (j : ℕ) (d : HistoryPart)
    → j < length ps → least ≤ (get_or ps j d).header.time
none_below least [] falls j d within = absurd (omega arith)
none_below least (p ∷ ps) (first, more) zero d within = first
none_below least (p ∷ ps) (first, more) (suc j) d within =
    omega (arith, first, none_below p.header.time ps more j d (omega arith))

rising : (least : ℕ) (ps : List HistoryPart) → DoNotFall least ps → AreInOrder ps
rising least [] falls i j d below within = absurd (omega arith)
rising least (p ∷ ps) (first, more) zero zero d below within = omega arith
rising least (p ∷ ps) (first, more) zero (suc j) d below within =
    none_below p.header.time ps more j d (omega arith)
rising least (p ∷ ps) (first, more) (suc i) zero d below within = absurd (omega arith)
rising least (p ∷ ps) (first, more) (suc i) (suc j) d below within =
    rising p.header.time ps more i j d (omega arith) (omega arith)

-- a test that was passed
passed : {X : Type 0} (b : Bool) (x : Option X) (y : X) → cond b x (Some y) ≡ None
    → (b ≡ true) × (x ≡ None)
passed true x y e = (refl, e)
passed false x y e = absurd (true≢false (ap is_some e))

not_above : (above : Option Header) (h : Header) → may_follow above h ≡ true
    → least_of above ≤ h.time
not_above None h follows = omega arith
not_above (Some a) h follows = leb-true a.time h.time follows

-- one line more, which is this header or none
falls_behind : (above : Option Header) (n : ℕ) (line : List ℕ) (more : List (List ℕ))
    (h : Option Header)
    → ((next : Option Header) → first_bad next (n + 1) more ≡ None
    → DoNotFall (least_of next) (parts_of more))
    → cond (elim h [
      | Some header ↦ may_follow above header
      | None ↦ option_map_or (λ h. is_understood_after h line) above false
    ]) (first_bad (option_or h above) (n + 1) more) (Some n) ≡ None
    → DoNotFall (least_of above) (elim h [
      | None ↦ parts_of more
      | Some header ↦ record { header = header; time_text = time_text line; text = body_of more }
          ∷ parts_of more
    ])
falls_behind above n line more None rest good = rest above (passed _ _ _ good).1
falls_behind above n line more (Some h) rest good =
    let (follows, none) = passed _ _ _ good in (not_above above h follows, rest (Some h) none)

falls_not : (above : Option Header) (n : ℕ) (ls : List (List ℕ)) → first_bad above n ls ≡ None
    → DoNotFall (least_of above) (parts_of ls)
falls_not above n [] good = search
falls_not above n (line ∷ more) good =
    falls_behind above n (without_end line) more (header_of (without_end line))
    (λ next none. falls_not next (n + 1) more none) good

pub in_order : (n : ℕ) (ls : List (List ℕ)) → first_bad None n ls ≡ None → AreInOrder (parts_of ls)
in_order n ls good = rising 0 (parts_of ls) (falls_not None n ls good)

-- so it is with the parts of a history
pub in_order_from : (n : ℕ) (ls : List (List ℕ)) (parts : List HistoryPart)
    → parts_from n ls ≡ Ok parts → AreInOrder parts
in_order_from n ls parts is = by_fault (first_bad None n ls) refl is
  where
    by_fault : (bad : Option ℕ) → first_bad None n ls ≡ bad
        → option_map_or (λ (k : ℕ). Err k) bad (Ok (parts_of ls)) ≡ Ok parts → AreInOrder parts
    by_fault None good is = subst (λ (ps : List HistoryPart). AreInOrder ps)
        (ap (λ (r : Result (List HistoryPart) ℕ). elim r [ Ok ps ↦ ps | Err k ↦ parts ]) is)
        (in_order n ls good)
    by_fault (Some k) bad is = absurd (true≢false (sym
        (ap (λ (r : Result (List HistoryPart) ℕ). elim r [ Ok ps ↦ true | Err k ↦ false ]) is)))

-- the place that divides the list is how many come first
pub point_is : {X : Type 0} (p : X → Bool) (xs : List X) (i : ℕ) (d : X) → i ≤ length xs
    → IsPartitionPoint (λ x. p x ≡ true) (λ x. p x ≡ false) xs i → prefix_len p xs ≡ i
point_is p xs i d within (before, from) =
    let most = prefix_len-le-length p xs in
    ⊎_elim
    (λ same. same)
    (λ differs. ⊎_elim
    (λ (less : prefix_len p xs < i).
    absurd (true≢false (sym (before (prefix_len p xs) d (omega arith) less)
    ∙ prefix_len_stops p xs d (omega (arith, less)))))
    (λ (more : i < prefix_len p xs). absurd (true≢false (sym (prefix_len_passes p xs i d more)
    ∙ from i d (omega arith) (omega (arith, more, most)))))
    differs)
    (cases_order (prefix_len p xs) i)

pub count_of_point : (parts : List HistoryPart) (time i : ℕ) → i ≤ length parts
    → IsPartitionPoint (λ (x : HistoryPart). nat_le x.header.time time ≡ true) (λ (x : HistoryPart).
    nat_le x.header.time time ≡ false) parts i → i ≡ count_at (Some time) parts
count_of_point [] time i within point = omega (arith, within)
count_of_point (p ∷ ps) time i within point =
    sym (point_is (λ (x : HistoryPart). nat_le x.header.time time) (p ∷ ps) i p within point)
