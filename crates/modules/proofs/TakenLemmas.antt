-- The regions of numbers, of which some are taken.
use Rattle.modules.proofs.Words.{◌≡◌, ◌≢◌, ℕ, ◌+◌, ◌<◌, ◌≤◌, Bool, true, false, ◌||◌, nat_eq, cond}
use Rattle.modules.proofs.Words.{List, [], ◌∷◌, ◌++◌, length, get_or, map, take, Option, refl, ap}
use Rattle.modules.proofs.Words.{◌∙◌, ⊎_elim, arith, length-append, All, Contains, filter, fold}
use Rattle.modules.proofs.Words.{count_by, Vec, flat_map, list_any, option_map_or, rules}
use Rattle.modules.proofs.Words.{common_steps, nat_tests}
use Rattle.modules.proofs.Lemmas.{set, length-set, cases_eq, eqb-true, eq-eqb, ne_eqb, or_parts}
use Rattle.modules.proofs.Lemmas.{append-nil, flat_map-map, get_or-set_other, get_or_default}
use Rattle.modules.proofs.Lemmas.{map-append, take_more, All-contains, count_by-le-length}
use Rattle.modules.proofs.Lemmas.{sum_by-append, sum_by-cons, get_or-set_at, look_is}
use Rattle.modules.proofs.Definitions.{Item, half_open, look, AreLeft, is_kept_mark, kept_numbers}
use Rattle.modules.proofs.Definitions.{modules_numbered, name_of, with_number, numbered_module}
use Rattle.modules.proofs.Definitions.{ranges_of, AreLaid, AreRegions, HoldsFor, PlacedModule}
use Rattle.modules.proofs.Definitions.{AreRising, Mark}
use Rattle.modules.proofs.MarkedModuleLemmas.{from_holds, spaced, valid_ranges}

-- the list of a number grows by the range of an item
pub left_more : (count k : ℕ) (items : List Item) (i d : Item) (lists : List (Vec (ℕ × ℕ)))
    (v u : Vec (ℕ × ℕ)) → k < length items → i ≡ get_or items k d → i.tag < count
    → AreLeft count (take k items) [] lists
    → u ≡ get_or lists i.tag u → v.items ≡ u.items ++ (i.a, i.b) ∷ []
    → AreLeft count (take (k + 1) items) [] (set lists i.tag v)
left_more count k items i d lists v u lt is within left at pushed = grind (
  arith,
  common_steps,
  nat_tests,
  length-set,
  cases_eq,
  take_more,
  set,
  get_or-set_at,
  eq-eqb,
  get_or-set_other,
  append-nil,
  ne_eqb,
)

-- ---- one number more that is taken

pub left_taken : (count n : ℕ) (items : List Item) (taken : List ℕ) (lists : List (Vec (ℕ × ℕ)))
    (v : Vec (ℕ × ℕ)) → n < count → v.items ≡ [] → AreLeft count items taken lists
    → AreLeft count items (with_number taken n) (set lists n v)
left_taken count n items taken lists v within empty left = grind
    (arith, common_steps, nat_tests, length-set, cases_eq, set, get_or-set_at, get_or-set_other)

-- ---- the number of a kept mark

kept_by : (items : List Item) (m : Mark) (o : Option Item) → look half_open m.addr items ≡ o
    → option_map_or (λ (i : Item). nat_eq i.tag m.owner) o false ≡ true
    → (i : Item) × Contains items i × (i.tag ≡ m.owner)
kept_by items m o at h = grind (arith, look_is, eqb-true)

-- some item has it
pub kept_item : (items : List Item) (m : Mark) → is_kept_mark items m ≡ true
    → (i : Item) × Contains items i × (i.tag ≡ m.owner)
kept_item items m kept = kept_by items m (look half_open m.addr items) refl kept

pub kept_number : (count : ℕ) (items : List Item) (m : Mark)
    → All (λ i. (0 < i.tag) × (i.tag ≤ count)) items → is_kept_mark items m ≡ true
    → (0 < m.owner) × (m.owner ≤ count)
kept_number count items m numbered kept = grind (arith, kept_item, All-contains)

-- and its module has a region
kept_ranges : (items : List Item) (m : Mark) → All (λ i. i.a < i.b) items
    → is_kept_mark items m ≡ true → ranges_of m.owner items ≢ []
kept_ranges items m valid kept none =
    let (i, there, its) = kept_item items m kept in
    grind (arith, kept_item, All-contains, from_holds m.owner items i.a i there its (omega arith))

-- ---- what a kept mark takes

kept_numbers_push : (items : List Item) (acc : List ℕ) (ms : List Mark) (m : Mark) → fold
    with_number acc (map (λ (t : Mark). t.owner) (filter (is_kept_mark items) (ms ++ m ∷ [])))
    ≡ cond (is_kept_mark items m) (with_number (fold with_number acc
    (map (λ (t : Mark). t.owner) (filter (is_kept_mark items) ms))) m.owner)
    (fold with_number acc (map (λ (t : Mark). t.owner) (filter (is_kept_mark items) ms)))
kept_numbers_push items acc [] m = grind arith
kept_numbers_push items acc (x ∷ ms) m = grind (
  arith,
  kept_numbers_push items (with_number acc x.owner) ms m,
  kept_numbers_push items acc ms m,
)

-- the numbers with that of one mark more
pub kept_numbers_more : (items : List Item) (marks : List Mark) (k : ℕ) (d : Mark)
    → k < length marks
    → kept_numbers items (take (k + 1) marks) ≡ cond (is_kept_mark items (get_or marks k d))
    (with_number (kept_numbers items (take k marks)) (get_or marks k d).owner)
    (kept_numbers items (take k marks))
kept_numbers_more items marks k d lt = ap (kept_numbers items) (take_more marks k d lt)
    ∙ kept_numbers_push items [] (take k marks) (get_or marks k d)

left_by : (b : Bool) (rs left : List (ℕ × ℕ)) → left ≡ cond b [] rs → left ≢ []
    → (b ≡ false) × (left ≡ rs)
left_by b rs left is some = grind arith

module _ (names : List (List ℕ)) (items : List Item) (taken : List ℕ) (m : Mark)
    (left : List (ℕ × ℕ))
    (is : left ≡ cond (list_any (nat_eq m.owner) taken) [] (ranges_of m.owner items)) where
  -- where no regions are left its module was taken, or the mark is not kept
  pub taken_before : All (λ i. i.a < i.b) items → left ≡ []
      → cond (is_kept_mark items m) (with_number taken m.owner) taken ≡ taken
  taken_before valid none = grind (arith, kept_ranges)

  pub own_ranges : left ≢ [] → left ≡ ranges_of m.owner items
  own_ranges some =
      (left_by (list_any (nat_eq m.owner) taken) (ranges_of m.owner items) left is some).1

  -- one that was not has all of its regions
  pub taken_now : left ≢ []
      → modules_numbered names items taken ++ numbered_module m.owner (name_of names m.owner) items
      ∷ [] ≡ modules_numbered names items (with_number taken m.owner)
  taken_now some = grind (arith, left_by, map-append)

-- what is left is empty, or rises
pub left_rising : (n : ℕ) (items : List Item) (taken : List ℕ) (left : List (ℕ × ℕ)) → AreLaid items
    → left ≡ cond (list_any (nat_eq n) taken) [] (ranges_of n items) → AreRising left
left_rising n items taken left laid is =
    grind (arith, common_steps, nat_tests, valid_ranges, spaced)

-- ---- there are no more regions than items

one_item : (i : Item) (is : List Item) (ns : List ℕ)
    → length (flat_map (λ n. ranges_of n (i ∷ is)) ns)
    ≡ count_by (nat_eq i.tag) ns + length (flat_map (λ n. ranges_of n is) ns)
one_item i is [] = omega arith
one_item i is (n ∷ ns) = grind (arith, common_steps, sum_by-cons, length-append, one_item i is ns)

no_items : (ns : List ℕ) → length (flat_map (λ n. ranges_of n []) ns) ≡ 0
no_items [] = refl
no_items (n ∷ ns) = no_items ns

-- each number stands there once at most
abbrev AreOnce : List ℕ → Type 0
AreOnce ns = (t : ℕ) → count_by (nat_eq t) ns ≤ 1

few_ranges : (items : List Item) (ns : List ℕ) → AreOnce ns
    → length (flat_map (λ n. ranges_of n items) ns) ≤ length items
few_ranges [] ns once = omega (arith, no_items ns)
few_ranges (i ∷ is) ns once = omega (arith, few_ranges is ns once, one_item i is ns, once i.tag)

none_counted : (t : ℕ) (ns : List ℕ) → list_any (nat_eq t) ns ≡ false → count_by (nat_eq t) ns ≡ 0
none_counted t [] absent = refl
none_counted t (n ∷ ns) absent =
    grind (arith, common_steps, sum_by-cons, or_parts, none_counted t ns)

once_more : (ns : List ℕ) (n : ℕ) → AreOnce ns → AreOnce (with_number ns n)
once_more ns n once =
    elim (list_any (nat_eq n) ns) as (λ b. list_any (nat_eq n) ns ≡ b
    → AreOnce (cond b ns (ns ++ n ∷ []))) [
      | true ↦ λ _. once
      | false ↦ λ absent t.
          let whole : count_by (nat_eq t) (ns ++ n ∷ [])
          ≡ count_by (nat_eq t) ns + count_by (nat_eq t) (n ∷ []) =
          sum_by-append (λ (x : ℕ). cond (nat_eq t x) 1 0) ns (n ∷ []) in
          ⊎_elim
          (λ same. let none : count_by (nat_eq t) ns ≡ 0 =
          none_counted t ns (ap (λ m. list_any (nat_eq m) ns) same ∙ absent) in
          let last = count_by-le-length (nat_eq t) (n ∷ []) in
          omega arith)
          (λ differs. let last : count_by (nat_eq t) (n ∷ []) ≡ 0 =
          none_counted t (n ∷ []) (ap (λ b. b || false) (ne_eqb t n differs)) in
          let before = once t in
          omega arith)
          (cases_eq t n)
    ] refl

once_all : (ns acc : List ℕ) → AreOnce acc → AreOnce (fold with_number acc ns)
once_all [] acc once = once
once_all (n ∷ ns) acc once = once_all ns (with_number acc n) (once_more acc n once)

regions_of_numbered : (names : List (List ℕ)) (items : List Item) (ns : List ℕ)
    → flat_map (λ (m : PlacedModule). m.regions) (modules_numbered names items ns)
    ≡ flat_map (λ n. ranges_of n items) ns
regions_of_numbered names items ns = flat_map-map (λ (m : PlacedModule). m.regions)
    (λ n. numbered_module n (name_of names n) items) ns

pub few_regions : (names : List (List ℕ)) (items : List Item) (marks : List Mark)
    → length (flat_map (λ (m : PlacedModule). m.regions)
    (modules_numbered names items (kept_numbers items marks))) ≤ length items
few_regions names items marks = search (rules, once_all, few_ranges, regions_of_numbered)

-- ---- the numbers of the items

-- each is a module's
pub items_numbered : (count : ℕ) (marks : List Mark) (items : List Item) → AreRegions marks items
    → All (λ m. m.owner ≤ count) marks → All (λ i. (0 < i.tag) × (i.tag ≤ count)) items
items_numbered count marks items regions within = λ k d lt.
    let i : Item = get_or items k d in
    let valid : i.a < i.b = regions.laid.valid k d lt in
    let holds : HoldsFor items i.tag i.a = record {
      item = i;
      there = (k, lt, get_or_default items k i d lt);
      its = refl;
      from = omega arith;
      below = valid;
    } in
    let owns = ((regions.exact i.tag i.a).0 holds).1 in
    let near = owns.nearest.its in
    let most : (get_or marks near.place owns.mark).owner ≤ count =
    within near.place owns.mark near.within in
    let is : (get_or marks near.place owns.mark).owner ≡ i.tag =
    ap (λ (m : Mark). m.owner) near.listed ∙ owns.its in
    let some : i.tag ≢ 0 = owns.some in
    (omega arith, omega (arith, most, is))
