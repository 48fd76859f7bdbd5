-- How items are ordered, and how a key compares with them.
use Rattle.std.specs.Prelude.{◌≡◌, ◌≢◌, ◌↔◌, ◌<◌, ◌≤◌, ℕ, Bool, true, false, not, ◌||◌}
use Rattle.std.specs.Prelude.{nat_lt, nat_le, if◌then◌else◌}
use Rattle.std.specs.declared.cmp.Ordering.{Ordering}
use Rattle.std.specs.declared.cmp.Ordering.TheVariants.{Less, Equal, Greater}
use Rattle.std.proofs.Common.{arith}
use Rattle.std.proofs.lemmas.Bool.Decides.{nat_tests}
use Rattle.order_laws.specs.declared.items.Item.{Item}

-- the functions of an order; `comp` compares a key with any three words
pub record Order (K : Type 0) : Type 0 where
  pub key_of : Item → K
  pub valid : Item → Bool
  pub apart : Item → Item → Bool
  pub less : Item → Item → Bool
  pub comp : K → Item → Ordering

-- both items are valid, they are apart, and the first is less
pub record Precedes {K : Type 0} (o : Order K) (x y : Item) : Type 0 where
  pub first_valid : o.valid x ≡ true
  pub second_valid : o.valid y ≡ true
  pub is_apart : o.apart x y ≡ true
  pub is_less : o.less x y ≡ true

-- what an order owes
pub record IsLawful {K : Type 0} (o : Order K) : Type 0 where
  pub irreflexive : (x : Item) → o.less x x ≡ false
  pub transitive : (x y z : Item) → o.less x y ≡ true → o.less y z ≡ true → o.less x z ≡ true
  -- of two valid items that are apart exactly one is less
  pub one_is_less : (x y : Item) → o.valid x ≡ true → o.valid y ≡ true → o.apart x y ≡ true →
      o.less x y ≡ not (o.less y x)
  -- the key of an item is in it, below what it is less than, above what is less
  pub own_key : (x : Item) → o.valid x ≡ true → o.comp (o.key_of x) x ≡ Equal
  pub key_below : (x y : Item) → o.valid x ≡ true → o.valid y ≡ true → o.apart x y ≡ true →
      (o.comp (o.key_of x) y ≡ Less) ↔ (o.less x y ≡ true)
  pub key_above : (x y : Item) → o.valid x ≡ true → o.valid y ≡ true → o.apart x y ≡ true →
      (o.comp (o.key_of x) y ≡ Greater) ↔ (o.less y x ≡ true)
  -- a key below the lesser is below the greater, and so on
  pub below_lesser : (k : K) (x y : Item) → Precedes o x y → o.comp k x ≡ Less → o.comp k y ≡ Less
  pub above_greater : (k : K) (x y : Item) → Precedes o x y → o.comp k y ≡ Greater →
      o.comp k x ≡ Greater
  pub in_lesser : (k : K) (x y : Item) → Precedes o x y → o.comp k x ≡ Equal → o.comp k y ≡ Less
  pub in_greater : (k : K) (x y : Item) → Precedes o x y → o.comp k y ≡ Equal → o.comp k x ≡ Greater
  pub symmetric : (x y : Item) → o.apart x y ≡ o.apart y x
  pub own_first_word : (x y : Item) → o.valid x ≡ true → o.valid y ≡ true → o.apart x y ≡ true →
      x.a ≢ y.a

-- what an order may offer beyond its laws: its items lie side by side, as ranges on a line do
pub record IsInLine {K : Type 0} (o : Order K) : Type 0 where
  -- of two items in order the first has the lesser first word
  pub first_words_rise : (x y : Item) → Precedes o x y → x.a < y.a
  -- items with one between them are apart
  pub apart_beyond : (x y z : Item) → Precedes o x y → Precedes o y z → o.apart x z ≡ true

-- ranges in order of their starts; one `ends` before a number or not
abbrev pub ranges : (valid ends : ℕ → ℕ → Bool) → Order ℕ
ranges valid ends =
    record {
      key_of = λ i. i.a;
      valid = λ i. valid i.a i.b;
      apart = λ x y. ends x.b y.a || ends y.b x.a;
      less = λ x y. nat_lt x.a y.a;
      comp = λ k i. if nat_lt k i.a then Less else if ends i.b k then Greater else Equal;
    }

-- ranges without their end, and with it
abbrev pub half_open : Order ℕ
half_open = ranges nat_lt nat_le

abbrev pub closed : Order ℕ
closed = ranges nat_le nat_lt

-- what makes ranges lawful, and puts them in line
module _ (valid ends : ℕ → ℕ → Bool) (valid_is : (a b : ℕ) → valid a b ≡ not (ends b a))
    (ends_more : (b a c : ℕ) → a ≤ c → ends b a ≡ true → ends b c ≡ true) where
  ranges_lawful : IsLawful (ranges valid ends)
  ranges_lawful =
      record {
        irreflexive = λ x. grind (arith, nat_tests);
        transitive = λ x y z p q. grind (arith, nat_tests);
        one_is_less = λ x y vx vy ap. grind (arith, nat_tests, valid_is, ends_more);
        own_key = λ x v. grind (arith, nat_tests, valid_is);
        key_below = λ x y vx vy ap.
            (grind (arith, nat_tests, valid_is, ends_more), grind (arith, nat_tests));
        key_above = λ x y vx vy ap. (
          grind (arith, nat_tests, valid_is, ends_more),
          grind (arith, nat_tests, valid_is, ends_more),
        );
        below_lesser = λ k x y b c. grind (arith, nat_tests, valid_is, ends_more);
        above_greater = λ k x y b c. grind (arith, nat_tests, valid_is, ends_more);
        in_lesser = λ k x y b c. grind (arith, nat_tests, valid_is, ends_more);
        in_greater = λ k x y b c. grind (arith, nat_tests, valid_is, ends_more);
        symmetric = λ x y. grind (arith, nat_tests);
        own_first_word = λ x y vx vy ap e. grind (arith, nat_tests, valid_is, ends_more);
      }

  ranges_in_line : IsInLine (ranges valid ends)
  ranges_in_line =
      record {
        first_words_rise = λ x y p. let l = p.is_less in grind (arith, nat_tests);
        apart_beyond = λ x y z p q.
            let a = p.is_apart in let b = q.is_apart in
            let u = p.first_valid in let v = p.second_valid in let w = q.second_valid in
            let l = p.is_less in let m = q.is_less in
            grind (arith, nat_tests, valid_is, ends_more);
      }

within : (a b : ℕ) → nat_lt a b ≡ not (nat_le b a)
within a b = grind (arith, nat_tests)

within_end : (a b : ℕ) → nat_le a b ≡ not (nat_lt b a)
within_end a b = grind (arith, nat_tests)

below_more : (b a c : ℕ) → a ≤ c → nat_le b a ≡ true → nat_le b c ≡ true
below_more b a c m e = grind (arith, nat_tests)

below_end : (b a c : ℕ) → a ≤ c → nat_lt b a ≡ true → nat_lt b c ≡ true
below_end b a c m e = grind (arith, nat_tests)

pub half_open_lawful : IsLawful half_open
half_open_lawful = ranges_lawful nat_lt nat_le within below_more

pub closed_lawful : IsLawful closed
closed_lawful = ranges_lawful nat_le nat_lt within_end below_end

pub half_open_in_line : IsInLine half_open
half_open_in_line = ranges_in_line nat_lt nat_le within below_more

pub closed_in_line : IsInLine closed
closed_in_line = ranges_in_line nat_le nat_lt within_end below_end
