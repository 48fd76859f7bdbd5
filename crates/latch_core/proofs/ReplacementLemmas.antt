-- What a difference finds of a table and a list of items; and a table whose items were replaced by
-- a list that rises is that list.
use Rattle.latch_core.proofs.Words.{◌≡◌, ℕ, ◌+◌, ◌<◌, ◌≤◌, true, false, cond, List, [], ◌∷◌, ◌++◌}
use Rattle.latch_core.proofs.Words.{length, take, drop, get_or, None, Some, refl, sym, ◌∙◌, ap}
use Rattle.latch_core.proofs.Words.{subst, inl, inr, ⊎_elim, arith, append_assoc, Bool, not, ◌&&◌}
use Rattle.latch_core.proofs.Words.{◌||◌, ◌==◌, ◌⊎◌, slice_get, Contains, filter, list_all}
use Rattle.latch_core.proofs.Words.{list_any, and_parts, and_from, cases_lt, eqb-true, or_parts}
use Rattle.latch_core.proofs.Words.{false_from_ne_true, true_from_ne_false, nat_tests, drop_all}
use Rattle.latch_core.proofs.Words.{drop_more, take-append-drop, All-contains, All-contains_itself}
use Rattle.latch_core.proofs.Words.{All-filter, All-from_recursion, All-weaker, filter_passes}
use Rattle.latch_core.proofs.Words.{slice_get-get_or, Item, Order, Precedes, IsLawful, IsTable}
use Rattle.latch_core.proofs.Words.{without_all, false_by_contrary, all_at, all_from, all_weaker}
use Rattle.latch_core.proofs.Words.{pushed_before, Update, Batch, after, refusal_for, is_same}
use Rattle.latch_core.proofs.Words.{not_among, replacement, is_rising, Tells, Difference}
use Rattle.std.proofs.Common.{map, append-nil}
use Rattle.std.proofs.lemmas.Bool.{eq-eqb}
use Rattle.std.proofs.lemmas.List.Folds.{Any-from_list_any, list_any_at}
use Rattle.std.proofs.lemmas.List.Sums.{AllPass-from_list_all, list_all-from_AllPass}
use Rattle.order_laws.proofs.SetLemmas.{same_items}
use Rattle.facts.proofs.Members.{Contains-cons_cases, Contains-head, Contains-none, Contains-rest}
use Rattle.facts.proofs.Members.{Contains-map, Contains-slice_get}
use Rattle.table_updates.proofs.HistoryLemmas.{from_items, to_items}
use Rattle.latch_core.proofs.SoundLemmas.{accepted_table}

-- ---- tests of lists, and their members

all_have : {X : Type 0} (p : X → Bool) (xs : List X) (y : X) → list_all p xs ≡ true → Contains xs y
    → p y ≡ true
all_have p xs y h m = All-contains (λ x. p x ≡ true) xs y (AllPass-from_list_all p xs h) m

from_filter : {X : Type 0} (p : X → Bool) (xs : List X) (y : X) → Contains (filter p xs) y
    → Contains xs y × (p y ≡ true)
from_filter p xs y m = (
  All-contains (Contains xs) (filter p xs) y
      (All-filter p (Contains xs) xs (All-contains_itself xs)) m,
  All-contains (λ x. p x ≡ true) (filter p xs) y (filter_passes p xs) m,
)

to_filter : {X : Type 0} (p : X → Bool) (xs : List X) (y : X) → p y ≡ true → Contains xs y
    → Contains (filter p xs) y
to_filter p [] y h m = absurd (Contains-none y m)
to_filter p (x ∷ xs) y h m =
    elim (p x) as (λ b. p x ≡ b → Contains (cond b (x ∷ filter p xs) (filter p xs)) y) [
      | true ↦ λ e. ⊎_elim (λ same. Contains-head x y (filter p xs) same) (λ r.
          Contains-rest x y (filter p xs) (to_filter p xs y h r)) (Contains-cons_cases x y xs m)
      | false ↦ λ e.
          ⊎_elim (λ same. absurd (let f : true ≡ false = sym h ∙ ap p (sym same) ∙ e in cc))
          (λ r. to_filter p xs y h r) (Contains-cons_cases x y xs m)
    ] refl

any_has : {X : Type 0} (p : X → Bool) (xs : List X) → list_any p xs ≡ true
    → (y : X) × Contains xs y × (p y ≡ true)
any_has p xs h = let a = Any-from_list_any p xs h in (a.1, (a.0, a.2, a.3), a.4)

has_any : {X : Type 0} (p : X → Bool) (xs : List X) (y : X) → Contains xs y → p y ≡ true
    → list_any p xs ≡ true
has_any p xs y m h = list_any_at p xs m.0 y m.1 (ap p m.2 ∙ h)

-- an item of whose first words this is one
of_word : (xs : List Item) (a : ℕ) → Contains (map (λ z. z.a) xs) a
    → (z : Item) × Contains xs z × (z.a ≡ a)
of_word [] a m = absurd (Contains-none a m)
of_word (z ∷ xs) a m =
    ⊎_elim
    (λ e. (z, Contains-head z z xs refl, e))
    (λ r. let q = of_word xs a r in (q.0, Contains-rest z q.0 xs q.1, q.2))
    (Contains-cons_cases z.a a (map (λ (z : Item). z.a) xs) m)

-- two items with the same words are one
pub same_is_one : (x y : Item) → is_same x y ≡ true → x ≡ y
same_is_one x y h = grind (arith, nat_tests, and_parts, eqb-true)

pub same_as_itself : (x : Item) → is_same x x ≡ true
same_as_itself x = grind (arith, nat_tests)

-- whether an item is among others
abbrev pub is_among : Item → List Item → Bool
is_among x others = list_any (λ y. is_same x y) others

-- an item is among others where it is one of them
pub among_them : (x : Item) (others : List Item) → is_among x others ≡ true → Contains others x
among_them x others h = grind (arith, nat_tests, any_has, same_is_one)

pub one_of_them : (x : Item) (others : List Item) → Contains others x → is_among x others ≡ true
one_of_them x others m = has_any (λ y. is_same x y) others x m (same_as_itself x)

-- an item is among none that all pass a test which it fails
among_none : (p : Item → Bool) (x : Item) (ys : List Item) → list_all p ys ≡ true → p x ≡ false
    → is_among x ys ≡ false
among_none p x ys h fails = false_by_contrary (is_among x ys) (list_all p ys)
    (λ e. let passes : p x ≡ true = all_have p ys x h (among_them x ys e) in absurd (cc)) h

-- ---- lists that rise

module _ {K : Type 0} (o : Order K) (law : IsLawful o) where
  -- an item that is less than the first of some that rise
  below_rising : (x y : Item) (ys : List Item) → o.less x y ≡ true → is_rising o (y ∷ ys) ≡ true
      → list_all (λ z. o.less x z) (y ∷ ys) ≡ true
  below_rising x y ys l h =
      grind (
        arith,
        nat_tests,
        and_parts,
        All-weaker,
        AllPass-from_list_all,
        and_from,
        list_all-from_AllPass,
      )

  -- the first of some that rise, where an item is not above it and not the same
  not_in_rising : (x y : Item) (ys : List Item) → o.less y x ≡ false → is_same x y ≡ false
      → is_rising o (y ∷ ys) ≡ true → is_among x (y ∷ ys) ≡ false
  not_in_rising x y ys n d h = grind (arith, nat_tests, among_none, and_parts)

  -- the lists that rise, by their neighbours
  pub rising_on : (x y : Item) (ys : List Item) → o.less x y ≡ true
      → is_rising o (x ∷ y ∷ ys) ≡ is_rising o (y ∷ ys)
  rising_on x y ys l = grind (arith, nat_tests, and_from, below_rising)

-- an item that is not among some others changes nothing of what is not among them
one_more_other : (x : Item) (others list : List Item) → is_among x list ≡ false
    → not_among (x ∷ others) list ≡ not_among others list
one_more_other x others [] h = refl
one_more_other x others (y ∷ ys) h =
    let two = or_parts (is_same x y) (is_among x ys) h in
    let differ : is_same y x ≡ false = flipped y x ∙ two.0 in
    (λ i. cond (not (differ i || is_among y others)) (y ∷ one_more_other x others ys two.1 i)
    (one_more_other x others ys two.1 i))
  where
    flipped : (u v : Item) → is_same u v ≡ is_same v u
    flipped u v = grind (arith, nat_tests)

-- an item that is among others is left out, and one that is not stays
one_among : (x : Item) (others list : List Item) → is_among x others ≡ true
    → not_among others (x ∷ list) ≡ not_among others list
one_among x others list h =
    ap (λ b. cond (not b) (x ∷ not_among others list) (not_among others list)) h

one_not_among : (x : Item) (others list : List Item) → is_among x others ≡ false
    → not_among others (x ∷ list) ≡ x ∷ not_among others list
one_not_among x others list h =
    ap (λ b. cond (not b) (x ∷ not_among others list) (not_among others list)) h

among_first : (x : Item) (others : List Item) → is_among x (x ∷ others) ≡ true
among_first x others = ap (λ b. b || is_among x others) (same_as_itself x)

none_left_out : (list : List Item) → not_among [] list ≡ list
none_left_out [] = refl
none_left_out (x ∷ xs) = ap (λ r. x ∷ r) (none_left_out xs)

-- the update of what was found, where this is left of the list and of the table
abbrev pub found : List ℕ → List Item → List Item → List Item → Update
found erase insert rest table =
    Batch (erase ++ map (λ x. x.a) (not_among rest table)) (insert ++ not_among table rest)

pub all_found : (erase : List ℕ) (insert rest : List Item)
    → Batch erase (insert ++ rest) ≡ found erase insert rest []
all_found erase insert rest =
    λ i. Batch (sym (append-nil erase) i) (insert ++ sym (none_left_out rest) i)

-- what is left of a list that rises
rising_after : {K : Type 0} (o : Order K) (xs ys : List Item) → is_rising o (xs ++ ys) ≡ true
    → is_rising o ys ≡ true
rising_after o [] ys h = h
rising_after o (x ∷ xs) ys h = rising_after o xs ys
    (and_parts (list_all (λ y. o.less x y) (xs ++ ys)) (is_rising o (xs ++ ys)) h).1

rising_drop : {K : Type 0} (o : Order K) (xs : List Item) (i : ℕ) → is_rising o xs ≡ true
    → is_rising o (drop i xs) ≡ true
rising_drop o xs i h =
    rising_after o (take i xs) (drop i xs) (ap (is_rising o) (take-append-drop i xs) ∙ h)

-- one step of a difference at a place of its list
module _ {K : Type 0} (o : Order K) (law : IsLawful o) (erase : List ℕ) (insert items : List Item)
    (k : ℕ) (d x : Item) where
  -- an item of the list before the next one of the table
  pub passed_at : (more new : List Item) → k < length items → new ≡ insert ++ get_or items k d ∷ []
      → o.less (get_or items k d) x ≡ true → is_rising o (x ∷ more) ≡ true
      → found erase new (drop (k + 1) items) (x ∷ more)
      ≡ found erase insert (drop k items) (x ∷ more)
  passed_at more new lt e l h =
      grind (
        arith,
        nat_tests,
        among_none,
        below_rising,
        one_not_among,
        one_more_other,
        pushed_before,
        drop_more,
      )

  -- the same item in both
  pub met_at : (more : List Item) → k < length items → get_or items k d ≡ x
      → is_rising o items ≡ true
      → is_rising o (x ∷ more) ≡ true
      → found erase insert (drop (k + 1) items) more ≡ found erase insert (drop k items) (x ∷ more)
  met_at more lt same rises rise =
      let rest = drop (k + 1) items in
      let here : drop k items ≡ x ∷ rest = drop_more items k d lt ∙ ap (λ y. y ∷ rest) same in
      let rise' = ap (is_rising o) (sym here) ∙ rising_drop o items k rises in
      let first : is_among x rest ≡ false = among_none (o.less x) x rest (and_parts
      (list_all (λ y. o.less x y) rest) (is_rising o rest) rise').0 (law.irreflexive x) in
      let second : is_among x more ≡ false = among_none (o.less x) x more (and_parts
      (list_all (λ y. o.less x y) more) (is_rising o more) rise).0 (law.irreflexive x) in
      let gone : not_among (x ∷ rest) (x ∷ more) ≡ not_among rest more =
      one_among x (x ∷ rest) more (among_first x rest) ∙ one_more_other x rest more second in
      let new : not_among (x ∷ more) (x ∷ rest) ≡ not_among more rest =
      one_among x (x ∷ more) rest (among_first x more) ∙ one_more_other x more rest first in
      (λ i. Batch (erase ++ map (λ (x : Item). x.a) (sym gone i)) (insert ++ sym new i))
      ∙ ap (λ ys. found erase insert ys (x ∷ more)) (sym here)

  -- an item of the table that is not in the list
  pub gone_at : (more : List Item) (new : List ℕ) → new ≡ erase ++ x.a ∷ []
      → ((first : Item) → slice_get items k ≡ Some first → o.less first x ≡ false)
      → (k < length items → is_same x (get_or items k d) ≡ false) → is_rising o items ≡ true
      → found new insert (drop k items) more ≡ found erase insert (drop k items) (x ∷ more)
  gone_at more new e stops differs rises =
      let rest = drop k items in
      let here : not_among rest (x ∷ more) ≡ x ∷ not_among rest more =
      one_not_among x rest more none in
      let words : new ++ map (λ (x : Item). x.a) (not_among rest more)
      ≡ erase ++ map (λ (x : Item). x.a) (not_among rest (x ∷ more)) =
      ap (λ w. w ++ map (λ (x : Item). x.a) (not_among rest more)) e
      ∙ pushed_before x.a erase (map (λ (x : Item). x.a) (not_among rest more))
      ∙ ap (λ l. erase ++ map (λ (x : Item). x.a) l) (sym here) in
      λ i. Batch (words i) (insert ++ sym (one_more_other x more rest none) i)
    where
      none : is_among x (drop k items) ≡ false
      none =
          ⊎_elim
          (λ lt.
          let here = drop_more items k d lt in
          ap (is_among x) here
          ∙ not_in_rising o law x (get_or items k d) (drop (k + 1) items)
          (stops (get_or items k d) (slice_get-get_or items k d lt)) (differs lt)
          (ap (is_rising o) (sym here) ∙ rising_drop o items k rises))
          (λ ge. ap (is_among x) (drop_all k items ge)) (cases_lt k (length items))

-- two items are compared word by word
pub compared : (x y : Item) → (x.a == y.a && (x.b == y.b && x.tag == y.tag)) ≡ is_same y x
compared x y = grind (arith, nat_tests)

-- what was told in two parts
pub tells_both : {K : Type 0} (o : Order K) (items : List Item) (d d' d'' : Difference)
    (xs ys : List Item) → Tells o items d xs d' → Tells o items d' ys d''
    → Tells o items d (xs ++ ys) d''
tells_both o items d d' d'' xs ys first second more h =
    grind (arith, nat_tests, append_assoc, rising_after)

-- ---- a table whose items were replaced

module _ {K : Type 0} (o : Order K) (law : IsLawful o) where
  pub table_rises : (t : List Item) → IsTable o t → is_rising o t ≡ true
  table_rises [] is = refl
  table_rises (x ∷ xs) is =
      grind (
        arith,
        nat_tests,
        table_rises xs is.2,
        all_weaker,
        and_from,
        list_all-from_AllPass,
        All-from_recursion,
      )

  -- of two items of a table one precedes the other
  one_precedes : (t : List Item) (x y : Item) → IsTable o t → Contains t x → Contains t y
      → (x ≡ y) ⊎ (Precedes o x y ⊎ Precedes o y x)
  one_precedes [] x y is mx my = absurd (Contains-none x mx)
  one_precedes (z ∷ t) x y is mx my =
      ⊎_elim
      (λ zx. ⊎_elim (λ zy. inl (sym zx ∙ zy))
      (λ ty. inr (inl (subst (λ v. Precedes o v y) zx (all_at (Precedes o z) t y is.1 ty))))
      (Contains-cons_cases z y t my))
      (λ tx. ⊎_elim
      (λ zy. inr (inr (subst (λ v. Precedes o v x) zy (all_at (Precedes o z) t x is.1 tx))))
      (λ ty. one_precedes t x y is.2 tx ty) (Contains-cons_cases z y t my))
      (Contains-cons_cases z x t mx)

  -- the lesser of two does
  lesser_precedes : (t : List Item) (x y : Item) → IsTable o t → Contains t x → Contains t y
      → o.less x y ≡ true → Precedes o x y
  lesser_precedes t x y is mx my l = grind (arith, nat_tests, one_precedes)

  -- and two with one first word are one
  one_of_word : (t : List Item) (x y : Item) → IsTable o t → Contains t x → Contains t y → x.a ≡ y.a
      → x ≡ y
  one_of_word t x y is mx my e =
      ⊎_elim
      (λ same. same)
      (λ p. absurd (⊎_elim (λ q. law.own_first_word x y q.first_valid q.second_valid q.is_apart e)
      (λ q. law.own_first_word y x q.first_valid q.second_valid q.is_apart (sym e)) p))
      (one_precedes t x y is mx my)

  is_valid : (t : List Item) (x : Item) → IsTable o t → Contains t x → o.valid x ≡ true
  is_valid [] x is m = absurd (Contains-none x m)
  is_valid (z ∷ t) x is m = ⊎_elim (λ e. ap o.valid (sym e) ∙ is.0) (λ r. is_valid t x is.2 r)
      (Contains-cons_cases z x t m)

  -- items of a table that rise are a table
  rising_table : (t : List Item) → IsTable o t → (u : List Item) → is_rising o u ≡ true
      → ((z : Item) → Contains u z → Contains t z) → IsTable o u
  rising_table t is [] h f = tt
  rising_table t is (x ∷ u) h f =
      let two = and_parts (list_all (λ y. o.less x y) u) (is_rising o u) h in
      let in_u : (j : ℕ) (d : Item) → j < length u → Contains u (get_or u j d) =
      λ j d lt. Contains-slice_get u j (get_or u j d) (slice_get-get_or u j d lt) in (
        is_valid t x is (f x (Contains-head x x u refl)),
        all_from (Precedes o x) u
            (λ j d lt. lesser_precedes t x (get_or u j d) is (f x (Contains-head x x u refl))
            (f (get_or u j d) (Contains-rest x (get_or u j d) u (in_u j d lt)))
            (all_have (o.less x) u (get_or u j d) two.0 (in_u j d lt))),
        rising_table t is u two.1 (λ z m. f z (Contains-rest x z u m)),
      )

  -- ---- the table after a replacement

  -- an item that stays is in the list
  stays_listed : (table items : List Item) (x : Item)
      → Contains (without_all (map (λ z. z.a) (not_among items table)) table) x → Contains items x
  stays_listed table items x m =
      let gone : List ℕ = map (λ (z : Item). z.a) (not_among items table) in
      let stays = from_filter (λ (z : Item). not (list_any (λ a. a == z.a) gone)) table x m in
      among_them x items (true_from_ne_false (is_among x items) (λ e.
      let listed : Contains (not_among items table) x =
      to_filter (λ z. not (is_among z items)) table x (ap not e) stays.0 in
      let erased : list_any (λ a. a == x.a) gone ≡ true =
      has_any (λ a. a == x.a) gone x.a (Contains-map (λ (z : Item). z.a) (not_among items table)
      x listed) (eq-eqb x.a x.a refl) in
      let f : false ≡ true = sym (ap not erased) ∙ stays.1 in
      absurd (cc)))

  -- an item of the table that is in the list stays
  listed_stays : (table items : List Item) (x : Item) → IsTable o table → Contains table x
      → Contains items x
      → Contains (without_all (map (λ z. z.a) (not_among items table)) table) x
  listed_stays table items x is there listed =
      let gone : List ℕ = map (λ (z : Item). z.a) (not_among items table) in
      to_filter (λ (z : Item). not (list_any (λ a. a == z.a) gone)) table x (ap not none) there
    where
      none : list_any (λ a. a == x.a) (map (λ z. z.a) (not_among items table)) ≡ false
      none =
          false_from_ne_true (list_any (λ a. a == x.a) (map (λ z. z.a) (not_among items table)))
          (λ e.
          let word = any_has (λ a. a == x.a) (map (λ (z : Item). z.a) (not_among items table)) e in
          let of = of_word (not_among items table) word.0 word.1 in
          let other = from_filter (λ z. not (is_among z items)) table of.0 of.1 in
          let same : of.0 ≡ x =
          one_of_word table of.0 x is other.0 there (of.2 ∙ eqb-true word.0 x.a word.2) in
          let among : is_among of.0 items ≡ true =
          subst (λ z. is_among z items ≡ true) (sym same) (one_of_them x items listed) in
          let f : false ≡ true = sym (ap not among) ∙ other.1 in
          absurd (cc))

  -- the items of the table that stay
  abbrev kept : List Item → List Item → List Item
  kept table items = without_all (map (λ z. z.a) (not_among items table)) table

  -- where nothing stands against it, a replacement leaves the items of the list
  pub replaced_table : (n limit : ℕ) (table items : List Item) (seq : ℕ) → IsTable o table
      → length table ≤ n
      → is_rising o items ≡ true
      → refusal_for o n limit false table seq (replacement table items) ≡ None
      → after o table (replacement table items) ≡ items
  replaced_table n limit table items seq is fits rises free =
      let table' =
      (accepted_table o law n limit table seq (replacement table items) free is fits).0 in
      same_items o law (after o table (replacement table items)) items
      table' (rising_table (after o table (replacement table items)) table' items rises to) from to
    where
      from : (x : Item) → Contains (after o table (replacement table items)) x → Contains items x
      from x m =
          ⊎_elim
          (λ new. (from_filter (λ z. not (is_among z table)) items x new).0)
          (λ old. stays_listed table items x old)
          (from_items o x (not_among table items) (kept table items) m)

      to : (x : Item) → Contains items x → Contains (after o table (replacement table items)) x
      to x m =
          to_items o x (not_among table items) (kept table items)
          (elim (is_among x table) as (λ b. is_among x table ≡ b
          → Contains (not_among table items) x ⊎ Contains (kept table items) x) [
            | true ↦ λ e. inr (listed_stays table items x is (among_them x table e) m)
            | false ↦ λ e. inl (to_filter (λ z. not (is_among z table)) items x (ap not e) m)
          ] refl)

-- ---- a table replaced by itself

none_among : (others list : List Item) → ((x : Item) → Contains list x → Contains others x)
    → not_among others list ≡ []
none_among others [] h = refl
none_among others (x ∷ xs) h =
    one_among x others xs (one_of_them x others (h x (Contains-head x x xs refl)))
    ∙ none_among others xs (λ y m. h y (Contains-rest x y xs m))

pub replaced_by_itself : (table : List Item) → replacement table table ≡ Batch [] []
replaced_by_itself table = grind (arith, nat_tests, none_among)
