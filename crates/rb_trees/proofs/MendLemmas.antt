-- A mended node: its records, its colours and black height, where its stores lead, and how many.
use Rattle.rb_trees.proofs.Words.{◌≡◌, ℕ, suc, ◌<◌, ◌≤◌, true, false, cond, List, [], ◌++◌, length}
use Rattle.rb_trees.proofs.Words.{length-append, refl, arith, Store, Record}
use Rattle.rb_trees.proofs.Words.{Side, Left, Right, ColouredTree, tip, branch, is_red, blackened}
use Rattle.rb_trees.proofs.Words.{shape, rows, HasBlackHeight, opposite, sided, link, relink}
use Rattle.rb_trees.proofs.Words.{turned, turn_links, red_violation, recoloured, mended_over}
use Rattle.rb_trees.proofs.Words.{mended, mend_links_over, mend_links, Among, IsSeparate, Relinks}
use Rattle.rb_trees.proofs.Words.{Sound}
use Rattle.facts.proofs.Bools.{false_by_contrary}
use Rattle.rb_trees.specs.declared.RedViolation.{RedViolation}
use Rattle.rb_trees.specs.declared.RedViolation.TheVariants.{Nowhere, Outer, Inner}
use Rattle.rb_trees.proofs.SideLemmas.{red_sided, link_sided, among_near, separate_near}
use Rattle.rb_trees.proofs.TurnLemmas.{rows_blackened, rows_sided, rows_turned, turned_sided}
use Rattle.rb_trees.proofs.TurnLemmas.{turned_back, turn_two, moved_one, relink_moved}
use Rattle.rb_trees.proofs.ColourLemmas.{IsNear, near_of_calm, black_blackened, sound_blackened}
use Rattle.rb_trees.proofs.ColourLemmas.{sound_black, sound_red}
use Rattle.rb_trees.proofs.RelinkLemmas.{same, then, in_sided, turn_relinks, shape_recoloured}
use Rattle.std.proofs.lemmas.Bool.Decides.{nat_tests}

-- what is mended of a black node with these trees
pub mended_sided : (s : Side) (near : ColouredTree) (y : Record) (far : ColouredTree)
    → mended s (sided s false near y far) ≡ mended_over s (red_violation s near) near y far
mended_sided Left near y far = refl
mended_sided Right near y far = refl

pub mend_links_sided : (s : Side) (c : ℕ) (near : ColouredTree) (y : Record) (far : ColouredTree)
    → mend_links s c (sided s false near y far)
    ≡ mend_links_over s c (red_violation s near) near y far
mend_links_sided Left c near y far = refl
mend_links_sided Right c near y far = refl

module _ (s : Side) (y : Record) (far : ColouredTree) where
  pub rows_mended : (k : RedViolation) (near : ColouredTree)
      → rows (mended_over s k near y far) ≡ rows (sided s false near y far)
  rows_mended Nowhere near = refl
  rows_mended Outer near = grind (arith, nat_tests, rows_sided, rows_blackened, rows_turned)
  rows_mended Inner near = grind (arith, nat_tests, rows_sided, rows_blackened, rows_turned)

  -- colours and black height
  module _ (h : ℕ) (f : Sound far h) where
    recoloured_sound : (near : ColouredTree) → is_red near ≡ true → IsNear near
        → HasBlackHeight near h → is_red far ≡ true → Sound (recoloured s near y far) (suc h)
    recoloured_sound near rn n e rf =
        grind (arith, nat_tests, sound_red, black_blackened, sound_blackened, near_of_calm)

    module _ (outer : ColouredTree) (x : Record) (inner : ColouredTree) (o : Sound outer h)
        (i : Sound inner h) (one : is_red outer ≡ true → is_red inner ≡ false)
        (n : IsNear (sided s true outer x inner))
        (e : HasBlackHeight (sided s true outer x inner) h) where
      outer_sound : is_red outer ≡ true
          → Sound (mended_over s Outer (sided s true outer x inner) y far) (suc h)
      outer_sound ro =
          grind (arith, nat_tests, recoloured_sound, red_sided, turned_back, sound_black, sound_red)

      nowhere_sound : is_red outer ≡ false → is_red inner ≡ false
          → Sound (mended_over s Nowhere (sided s true outer x inner) y far) (suc h)
      nowhere_sound ro ri = sound_black s (sided s true outer x inner) y far h
          (sound_red s outer x inner h ro ri o i) f

    inner_sound : (outer : ColouredTree) (x : Record) (a : ColouredTree) (z : Record)
        (b : ColouredTree) → Sound outer h → is_red outer ≡ false → is_red a ≡ false
        → is_red b ≡ false → Sound a h → Sound b h
        → IsNear (sided s true outer x (sided s true a z b))
        → HasBlackHeight (sided s true outer x (sided s true a z b)) h
        → Sound (mended_over s Inner (sided s true outer x (sided s true a z b)) y far) (suc h)
    inner_sound outer x a z b o ro ra rb sa sb n e =
        grind (
          arith,
          nat_tests,
          recoloured_sound,
          red_sided,
          turned_sided,
          turned_back,
          sound_black,
          sound_red,
        )

-- either side
module _ (y : Record) (far : ColouredTree) (h : ℕ) (f : Sound far h) where
  two_sound : (s : Side) (outer : ColouredTree) (x : Record) (inner : ColouredTree) → Sound outer h
      → Sound inner h → (is_red outer ≡ true → is_red inner ≡ false)
      → IsNear (sided s true outer x inner) → HasBlackHeight (sided s true outer x inner) h
      → Sound (mended_over s (cond (is_red outer) Outer (cond (is_red inner) Inner Nowhere))
      (sided s true outer x inner) y far) (suc h)
  two_sound s outer x inner o i one n e =
      let t = sided s true outer x inner in
      elim (is_red outer) as (λ v. is_red outer ≡ v → Sound
      (mended_over s (cond v Outer (cond (is_red inner) Inner Nowhere)) t y far) (suc h)) [
        | true ↦ λ ro. outer_sound s y far h f outer x inner o i one n e ro
        | false ↦ λ ro.
            elim (is_red inner) as (λ v. is_red inner ≡ v
            → Sound (mended_over s (cond v Inner Nowhere) t y far) (suc h)) [
              | true ↦ λ ri. deep s outer x inner ri i o ro n e
              | false ↦ λ ri. nowhere_sound s y far h f outer x inner o i one n e ro ri
            ] refl
      ] refl
    where
      deep : (s : Side) (outer : ColouredTree) (x : Record) (inner : ColouredTree)
          → is_red inner ≡ true → Sound inner h → Sound outer h → is_red outer ≡ false
          → IsNear (sided s true outer x inner) → HasBlackHeight (sided s true outer x inner) h
          → Sound (mended_over s Inner (sided s true outer x inner) y far) (suc h)
      deep s outer x tip ri i o ro n e = absurd (cc)
      deep s outer x (branch false a z b) ri i o ro n e = absurd (cc)
      deep Left outer x (branch true a z b) ri i o ro n e = inner_sound Left y far h f outer x a z b
          o ro i.calm.0 i.calm.1 (record { calm = i.calm.2; high = i.high.0 })
          (record { calm = i.calm.3; high = i.high.1 }) n e
      deep Right outer x (branch true a z b) ri i o ro n e = inner_sound Right y far h f outer x b z
          a o ro i.calm.1 i.calm.0 (record { calm = i.calm.3; high = i.high.1 })
          (record { calm = i.calm.2; high = i.high.0 }) n e

  pub mended_sound : (s : Side) (near : ColouredTree) → IsNear near → HasBlackHeight near h
      → Sound (mended_over s (red_violation s near) near y far) (suc h)
  mended_sound s tip n e = sound_black s tip y far h (record { calm = tt; high = e }) f
  mended_sound s (branch false a x b) n e =
      sound_black s (branch false a x b) y far h (record { calm = n; high = e }) f
  mended_sound Left (branch true a x b) n e = two_sound Left a x b
      (record { calm = n.1; high = e.0 }) (record { calm = n.2; high = e.1 }) n.0 n e
  mended_sound Right (branch true a x b) n e =
      grind (arith, nat_tests, two_sound, false_by_contrary)

-- its stores lead to it
module _ (n c : ℕ) (small : c ≤ 1) (P : ℕ → Type 0) (below : (i : ℕ) → P i → i < n) (s : Side)
    (near : ColouredTree) (y : Record) (far : ColouredTree)
    (within : (i : ℕ) → Among (shape (sided s false near y far)) i → P i)
    (sep : IsSeparate (shape (sided s false near y far))) where
  recoloured_relinks : Relinks n c P (shape (sided s false near y far))
      (shape (recoloured s near y far)) []
  recoloured_relinks = grind (arith, nat_tests, shape_recoloured, same)

  pub mend_relinks : (k : RedViolation) → Relinks n c P (shape (sided s false near y far))
      (shape (mended_over s k near y far)) (mend_links_over s c k near y far)
  mend_relinks Nowhere = same n c small P (shape (sided s false near y far)) within sep
  mend_relinks Outer =
      let t = sided s false near y far in
      elim (is_red far) as (λ b. Relinks n c P (shape t)
      (shape (cond b (recoloured s near y far) (turned (opposite s) false true t)))
      (cond b [] (turn_links (opposite s) c t))) [
        | true ↦ recoloured_relinks
        | false ↦ turn_relinks n c small P below (opposite s) false true t within sep
      ]
  mend_relinks Inner =
      let t = sided s false near y far in
      let u = turned s true true near in
      let v = sided s false u y far in
      let ss = turn_links s c near in
      let rs = relink s c y.node (link (shape near)) (link (shape u)) in
      elim (is_red far) as (λ b. Relinks n c P (shape t)
      (shape (cond b (recoloured s near y far) (turned (opposite s) false true v)))
      (cond b [] ((ss ++ rs) ++ turn_links (opposite s) c v))) [
        | true ↦ recoloured_relinks
        | false ↦
            let q = in_sided n c small P below s false false near y far within sep u ss
            (turn_relinks n c small (Among (shape near))
            (λ i a. below i (within i (among_near s false near y far i a))) s true true near
            (λ i a. a) (separate_near s false near y far sep)) in
            then n c small P _ _ _ _ _ q
            (turn_relinks n c small P below (opposite s) false true v q.within q.separate)
      ]

-- and they are five at most; where the node stays red, none, and its link is as it was
pub record Mending (y : Record) (t : ColouredTree) (links : List Store) : Type 0 where
  pub few : length links ≤ 5
  pub still : is_red t ≡ true → (length links ≡ 0) × (link (shape t) ≡ suc y.node)

module _ (c : ℕ) (s : Side) (y : Record) (far : ColouredTree) where
  recoloured_mending : (near : ColouredTree) → Mending y (recoloured s near y far) []
  recoloured_mending near = record {
    few = omega arith;
    still = λ e. (refl, link_sided s true (blackened near) y (blackened far));
  }

  turned_mending : (near : ColouredTree) (links : List Store) → length links ≤ 5
      → Mending y (turned (opposite s) false true (sided s false near y far)) links
  turned_mending near links few =
      record { few = few; still = λ e. absurd (let b = black_turned s near in cc) }
    where
      black_turned : (s : Side) (near : ColouredTree)
          → is_red (turned (opposite s) false true (sided s false near y far)) ≡ false
      black_turned Left tip = refl
      black_turned Left (branch k a x b) = refl
      black_turned Right tip = refl
      black_turned Right (branch k a x b) = refl

  pub mending : (k : RedViolation) (near : ColouredTree)
      → Mending y (mended_over s k near y far) (mend_links_over s c k near y far)
  mending Nowhere near =
      record { few = omega arith; still = λ e. absurd (let b = red_sided s false near y far in cc) }
  mending Outer near = grind (arith, nat_tests, recoloured_mending, turned_mending, turn_two)
  mending Inner near =
      grind (
        arith,
        nat_tests,
        recoloured_mending,
        turned_mending,
        length-append,
        turn_two,
        relink_moved,
        moved_one,
      )
