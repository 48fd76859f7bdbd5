-- A filled node: its records, its colours and black height, where its stores lead, and how many.
use Rattle.rb_trees.proofs.Words.{◌≡◌, ℕ, zero, suc, ◌<◌, ◌≤◌, true, false, cond, List, []}
use Rattle.rb_trees.proofs.Words.{◌++◌, length, length-append, refl, sym, ◌∙◌, ap, subst, inl, inr}
use Rattle.rb_trees.proofs.Words.{arith, append_assoc, not, Store, fork, Record, Side, Left, Right}
use Rattle.rb_trees.proofs.Words.{ColouredTree, tip, branch, is_red, blackened, shape, rows}
use Rattle.rb_trees.proofs.Words.{opposite, on, sided, link, relink, turned, turn_links}
use Rattle.rb_trees.proofs.Words.{turn_links_over, Remainder, whole, lowered, filled_over_black}
use Rattle.rb_trees.proofs.Words.{fill_links_over_black, filled_over, filled, fill_links_over}
use Rattle.rb_trees.proofs.Words.{fill_links, Among, IsSeparate, Relinks, Sound, Fits, Bool}
use Rattle.rb_trees.proofs.SideLemmas.{red_sided, link_sided}
use Rattle.rb_trees.proofs.TurnLemmas.{rows_blackened, rows_sided, rows_turned, turned_sided}
use Rattle.rb_trees.proofs.TurnLemmas.{turned_back, turn_two, moved_one, relink_moved}
use Rattle.rb_trees.proofs.ColourLemmas.{over, near_of_calm, black_blackened, sound_blackened}
use Rattle.rb_trees.proofs.ColourLemmas.{sound_black, sound_red, sound_over}
use Rattle.rb_trees.proofs.RelinkLemmas.{same, then, in_sided, in_far, turn_relinks}
use Rattle.rb_trees.proofs.RelinkLemmas.{shape_blackened}
use Rattle.std.proofs.lemmas.Bool.Decides.{nat_tests}

-- what is filled of a node with these trees
pub filled_sided : (s : Side) (red : Bool) (near : ColouredTree) (y : Record) (far : ColouredTree)
    → filled s (sided s red near y far) ≡ filled_over s red near y far
filled_sided Left red near y far = refl
filled_sided Right red near y far = refl

pub fill_links_sided : (s : Side) (c : ℕ) (red : Bool) (near : ColouredTree) (y : Record)
    (far : ColouredTree) → fill_links s c (sided s red near y far) ≡ fill_links_over s c near y far
fill_links_sided Left c red near y far = refl
fill_links_sided Right c red near y far = refl

-- a node whose other child has these two trees
module _ (s : Side) (red : Bool) (near : ColouredTree) (y : Record) (k : Bool)
    (inner : ColouredTree) (x : Record) (outer : ColouredTree) where
  abbrev outer_filled : Remainder
  outer_filled = whole (sided s red (sided s false near y inner) x (blackened outer))

  abbrev inner_filled : Remainder
  inner_filled = whole (turned s red false
      (sided s red near y (turned (opposite s) false false (sided s k inner x outer))))

  abbrev none_filled : Remainder
  none_filled = record { tree = sided s false near y (sided s true inner x outer); short = not red }

  abbrev pub filled_by : Remainder
  filled_by = cond (is_red outer) outer_filled (cond (is_red inner) inner_filled none_filled)

  -- the records stay
  turned_rows : rows inner_filled.tree ≡ rows (sided s red near y (sided s k inner x outer))
  turned_rows = grind (arith, nat_tests, rows_turned, rows_sided)

  outer_rows : rows outer_filled.tree ≡ rows (sided s red near y (sided s k inner x outer))
  outer_rows =
      rows_sided s red red (sided s false near y inner) (sided s false near y inner) x
      (blackened outer) outer refl (rows_blackened outer)
      ∙ ap rows (sym (turned_sided s red false k red near y inner x outer))
      ∙ rows_turned s red false (sided s red near y (sided s k inner x outer))

  pub by_rows : rows filled_by.tree ≡ rows (sided s red near y (sided s k inner x outer))
  by_rows = grind (arith, nat_tests, outer_rows, turned_rows, rows_sided)

pub rows_filled_black : (s : Side) (red : Bool) (near : ColouredTree) (y : Record)
    (far : ColouredTree)
    → rows (filled_over_black s red near y far).tree ≡ rows (sided s red near y far)
rows_filled_black s red near y tip = refl
rows_filled_black Left red near y (branch k a x b) = by_rows Left red near y k a x b
rows_filled_black Right red near y (branch k a x b) = by_rows Right red near y k b x a

pub rows_filled : (s : Side) (red : Bool) (near : ColouredTree) (y : Record) (far : ColouredTree)
    → rows (filled_over s red near y far).tree ≡ rows (sided s red near y far)
rows_filled s red near y tip = refl
rows_filled s red near y (branch false a x b) = rows_filled_black s red near y (branch false a x b)
rows_filled Left red near y (branch true a x b) =
    grind (arith, nat_tests, rows_filled_black, append_assoc)
rows_filled Right red near y (branch true a x b) =
    grind (arith, nat_tests, rows_filled_black, append_assoc)

pub rows_lowered : (red : Bool) (t : ColouredTree) → rows (lowered red t).tree ≡ rows t
rows_lowered true t = refl
rows_lowered false tip = refl
rows_lowered false (branch k l x r) = refl

pub lowered_fits : (red : Bool) (t : ColouredTree) → Sound t 0 → (red ≡ true → is_red t ≡ false)
    → Fits red (over red 0) (lowered red t).tree (lowered red t).short
lowered_fits true t is b = (is, λ e. absurd (cc))
lowered_fits false tip is b = (is, refl, refl)
lowered_fits false (branch true l x r) is b =
    (record { calm = (is.calm.2, is.calm.3); high = is.high }, λ e. refl)
lowered_fits false (branch false l x r) is b = absurd is.high

module _ (s : Side) (red : Bool) (near : ColouredTree) (y : Record) (inner : ColouredTree)
    (x : Record) (outer : ColouredTree) (h : ℕ)
    (n : Sound near h) (i : Sound inner h) (o : Sound outer h) where
  outer_fits : is_red outer ≡ true → Fits red (over red (suc h))
      (sided s red (sided s false near y inner) x (blackened outer)) false
  outer_fits ro = (
    sound_over s red (sided s false near y inner) x (blackened outer) (suc h)
        (λ e. red_sided s false near y inner) (λ e. black_blackened outer)
        (sound_black s near y inner h n i)
        (sound_blackened outer h ro (near_of_calm outer o.calm) o.high),
    λ e. red_sided s red (sided s false near y inner) x (blackened outer) ∙ e,
  )

  none_fits : (red : Bool) → is_red inner ≡ false → is_red outer ≡ false
      → Fits red (over red (suc h)) (sided s false near y (sided s true inner x outer)) (not red)
  none_fits true ri ro = (
    sound_black s near y (sided s true inner x outer) h n (sound_red s inner x outer h ri ro i o),
    λ e. absurd (cc),
  )
  none_fits false ri ro = (
    sound_black s near y (sided s true inner x outer) h n (sound_red s inner x outer h ri ro i o),
    refl,
    red_sided s false near y (sided s true inner x outer),
  )

middle_fits : (s : Side) (red : Bool) (near : ColouredTree) (y : Record) (a : ColouredTree)
    (z : Record) (b : ColouredTree) (x : Record) (outer : ColouredTree) (h : ℕ)
    → Sound near h → Sound a h → Sound b h → Sound outer h
    → Fits red (over red (suc h)) (turned s red false (sided s red near y
    (turned (opposite s) false false (sided s false (sided s true a z b) x outer)))) false
middle_fits s red near y a z b x outer h n sa sb o =
    grind (arith, nat_tests, over, turned_back, turned_sided, sound_over, red_sided, sound_black)

inner_fits : (s : Side) (red : Bool) (near : ColouredTree) (y : Record) (inner : ColouredTree)
    (x : Record) (outer : ColouredTree) (h : ℕ)
    → Sound near h → is_red inner ≡ true → Sound inner h → Sound outer h
    → Fits red (over red (suc h)) (turned s red false
    (sided s red near y (turned (opposite s) false false (sided s false inner x outer)))) false
inner_fits s red near y tip x outer h n ri i o = absurd (cc)
inner_fits s red near y (branch false a z b) x outer h n ri i o = absurd (cc)
inner_fits Left red near y (branch true a z b) x outer h n ri i o =
    grind (arith, nat_tests, middle_fits)
inner_fits Right red near y (branch true a z b) x outer h n ri i o =
    grind (arith, nat_tests, middle_fits)

by_fits : (s : Side) (red : Bool) (near : ColouredTree) (y : Record) (inner : ColouredTree)
    (x : Record) (outer : ColouredTree) (h : ℕ)
    → Sound near h → Sound inner h → Sound outer h
    → Fits red (over red (suc h)) (filled_by s red near y false inner x outer).tree
    (filled_by s red near y false inner x outer).short
by_fits s red near y inner x outer h n i o =
    grind (arith, nat_tests, over, outer_fits, inner_fits, none_fits)

fill_black_fits : (s : Side) (red : Bool) (near : ColouredTree) (y : Record) (far : ColouredTree)
    (h : ℕ) → Sound near h → Sound far (suc h) → is_red far ≡ false
    → Fits red (over red (suc h)) (filled_over_black s red near y far).tree
    (filled_over_black s red near y far).short
fill_black_fits s red near y tip h n f b = absurd (let z = f.high in omega arith)
fill_black_fits s red near y (branch true l x r) h n f b = absurd (cc)
fill_black_fits Left red near y (branch false a x b) h n f e = grind (arith, nat_tests, by_fits)
fill_black_fits Right red near y (branch false a x b) h n f e = grind (arith, nat_tests, by_fits)

-- a red node's place takes nothing short
sound_of_red : (h : ℕ) (s : Remainder) → Fits true h s.tree s.short → Sound s.tree h
sound_of_red h s = elim s.short as (λ v. Fits true h s.tree v
    → Sound s.tree h) [ true ↦ λ f. not_short h s.tree f | false ↦ λ f. f.0 ]
  where
    not_short : (h : ℕ) (t : ColouredTree) → Fits true h t true → Sound t h
    not_short zero t f = absurd f
    not_short (suc h) t f = let e : true ≡ false = f.1 in absurd (cc)

pub fill_fits : (s : Side) (red : Bool) (near : ColouredTree) (y : Record) (far : ColouredTree)
    (h : ℕ) → Sound near h → Sound far (suc h) → (red ≡ true → is_red far ≡ false)
    → Fits red (over red (suc h)) (filled_over s red near y far).tree
    (filled_over s red near y far).short
fill_fits s red near y tip h n f b = absurd (let z = f.high in omega arith)
fill_fits s red near y (branch false l x r) h n f b =
    fill_black_fits s red near y (branch false l x r) h n f refl
fill_fits s true near y (branch true l x r) h n f b = absurd (let e = b refl in cc)
fill_fits Left false near y (branch true a x b) h n f e =
    grind (arith, nat_tests, sound_of_red, fill_black_fits, sound_black)
fill_fits Right false near y (branch true a x b) h n f e =
    grind (arith, nat_tests, sound_of_red, fill_black_fits, sound_black)

-- how many stores there are: none where the whole stays short, and its link is as it was
pub record Filling (y : Record) (most : ℕ) (s : Remainder) (links : List Store) : Type 0 where
  pub few : length links ≤ most
  pub none : s.short ≡ true → (length links ≡ 0) × (link (shape s.tree) ≡ suc y.node)

whole_filling : (y : Record) (most : ℕ) (t : ColouredTree) (links : List Store)
    → length links ≤ most → Filling y most (whole t) links
whole_filling y most t links h = record { few = h; none = λ e. absurd (cc) }

module _ (c : ℕ) (s : Side) (red : Bool) (near : ColouredTree) (y : Record) where
  black_filling : (far : ColouredTree)
      → Filling y 5 (filled_over_black s red near y far) (fill_links_over_black s c y far)
  black_filling tip = whole_filling y 5 (sided s red near y tip) [] (omega arith)
  black_filling (branch k l x r) =
      let far = branch k l x r in
      let u = turned (opposite s) false false far in
      let rs = relink (opposite s) c y.node (suc x.node) (link (shape u)) in
      let one = whole
      (sided s red (sided s false near y (on s l r)) x (blackened (on (opposite s) l r))) in
      let two = whole (turned s red false (sided s red near y u)) in
      let three : Remainder =
      record { tree = sided s false near y (branch true l x r); short = not red } in
      let ss = turn_links_over s c y far in
      let ts = (turn_links (opposite s) c far ++ rs) ++ turn_links_over s c y u in
      elim (is_red (on (opposite s) l r)) as (λ v. Filling y 5 (cond v one
      (cond (is_red (on s l r)) two three)) (cond v ss (cond (is_red (on s l r)) ts []))) [
        | true ↦ whole_filling y 5 one.tree ss (omega (arith, over_two s far))
        | false ↦
            elim (is_red (on s l r)) as (λ v. Filling y 5 (cond v two three) (cond v ts [])) [
              | true ↦ whole_filling y 5 two.tree ts (omega (
                arith,
                length-append (turn_links (opposite s) c far ++ rs) (turn_links_over s c y u),
                length-append (turn_links (opposite s) c far) rs,
                over_two s u,
                turn_two (opposite s) c far,
                relink_moved (opposite s) c y.node (suc x.node) (link (shape u)),
                moved_one (suc x.node) (link (shape u)),
              ))
              | false ↦ record {
                few = omega arith;
                none = λ e. (refl, link_sided s false near y (branch true l x r));
              }
            ]
      ]
    where
      over_two : (s : Side) (far : ColouredTree) → length (turn_links_over s c y far) ≤ 2
      over_two s tip = omega arith
      over_two s (branch k l x r) = omega arith

pub filling : (c : ℕ) (s : Side) (red : Bool) (near : ColouredTree) (y : Record)
    (far : ColouredTree)
    → Filling y 8 (filled_over s red near y far) (fill_links_over s c near y far)
filling c s red near y tip = whole_filling y 8 (sided s red near y tip) [] (omega arith)
filling c s red near y (branch false l x r) = let f =
    black_filling c s red near y (branch false l x r) in
    record { few = omega (arith, f.few); none = f.none }
filling c s red near y (branch true l x r) =
    let u = (filled_over_black s true near y (on s l r)).tree in
    let ss = fill_links_over_black s c y (on s l r) in
    let rs = relink s c x.node (suc y.node) (link (shape u)) in
    let f = black_filling c s true near y (on s l r) in
    let ts = turn_links_over s c y (branch true l x r) in
    whole_filling y 8 (sided s false u x (on (opposite s) l r)) (ts ++ (ss ++ rs))
    (omega (
      arith,
      length-append ts (ss ++ rs),
      length-append ss rs,
      relink_moved s c x.node (suc y.node) (link (shape u)),
      moved_one (suc y.node) (link (shape u)),
    ))

-- its stores lead to it
module _ (n c : ℕ) (small : c ≤ 1) where
  module _ (P : ℕ → Type 0) (below : (i : ℕ) → P i → i < n) where
    outer_relinks : (s : Side) (red k : Bool) (near : ColouredTree) (y : Record)
        (inner : ColouredTree) (x : Record) (outer : ColouredTree)
        → ((i : ℕ) → Among (shape (sided s red near y (sided s k inner x outer))) i → P i)
        → IsSeparate (shape (sided s red near y (sided s k inner x outer)))
        → Relinks n c P (shape (sided s red near y (sided s k inner x outer)))
        (shape (sided s red (sided s false near y inner) x (blackened outer)))
        (turn_links s c (sided s red near y (sided s k inner x outer)))
    outer_relinks Left red k near y inner x outer within sep =
        let t = branch red near y (branch k inner x outer) in
        subst (λ v. Relinks n c P (shape t) (fork (fork (shape near) y.node (shape inner)) x.node v)
        (turn_links Left c t)) (sym (shape_blackened outer))
        (turn_relinks n c small P below Left red false t within sep)
    outer_relinks Right red k near y inner x outer within sep =
        let t = branch red (branch k outer x inner) y near in
        subst (λ v. Relinks n c P (shape t) (fork v x.node (fork (shape inner) y.node (shape near)))
        (turn_links Right c t)) (sym (shape_blackened outer))
        (turn_relinks n c small P below Right red false t within sep)

    inner_relinks : (s : Side) (red : Bool) (near : ColouredTree) (y : Record) (far : ColouredTree)
        → ((i : ℕ) → Among (shape (sided s red near y far)) i → P i)
        → IsSeparate (shape (sided s red near y far))
        → Relinks n c P (shape (sided s red near y far))
        (shape (turned s red false (sided s red near y (turned (opposite s) false false far))))
        ((turn_links (opposite s) c far ++ relink (opposite s) c y.node (link (shape far))
        (link (shape (turned (opposite s) false false far))))
        ++ turn_links s c (sided s red near y (turned (opposite s) false false far)))
    inner_relinks s red near y far within sep =
        let u = turned (opposite s) false false far in
        let q = in_far n c small P below s red red near y far within sep u
        (turn_links (opposite s) c far) (λ w p. turn_relinks n c small (Among (shape far))
        (λ i h. below i (w i h)) (opposite s) false false far (λ i h. h) p) in
        then n c small P _ _ _ _ _ q
        (turn_relinks n c small P below s red false (sided s red near y u) q.within q.separate)

    by_relinks : (s : Side) (red k : Bool) (near : ColouredTree) (y : Record) (inner : ColouredTree)
        (x : Record) (outer : ColouredTree)
        → ((i : ℕ) → Among (shape (sided s red near y (sided s k inner x outer))) i → P i)
        → IsSeparate (shape (sided s red near y (sided s k inner x outer)))
        → Relinks n c P (shape (sided s red near y (sided s k inner x outer)))
        (shape (filled_by s red near y k inner x outer).tree)
        (let far = sided s k inner x outer in
        let u = turned (opposite s) false false far in
        cond (is_red outer) (turn_links s c (sided s red near y far))
        (cond (is_red inner) ((turn_links (opposite s) c far ++ relink (opposite s) c y.node
        (link (shape far)) (link (shape u))) ++ turn_links s c (sided s red near y u)) []))
    by_relinks s red k near y inner x outer within sep =
        let far = sided s k inner x outer in
        let u = turned (opposite s) false false far in
        let t = sided s red near y far in
        let one = outer_filled s red near y k inner x outer in
        let two = inner_filled s red near y k inner x outer in
        let three = none_filled s red near y k inner x outer in
        let ss = turn_links s c t in
        let ts = (turn_links (opposite s) c far ++ relink (opposite s) c y.node (link (shape far))
        (link (shape u))) ++ turn_links s c (sided s red near y u) in
        elim (is_red outer) as (λ v.
        Relinks n c P (shape t) (shape (cond v one (cond (is_red inner) two three)).tree)
        (cond v ss (cond (is_red inner) ts []))) [
          | true ↦ outer_relinks s red k near y inner x outer within sep
          | false ↦
              elim (is_red inner) as (λ v.
              Relinks n c P (shape t) (shape (cond v two three).tree) (cond v ts [])) [
                | true ↦ inner_relinks s red near y far within sep
                | false ↦ subst (λ v. Relinks n c P (shape t) v [])
                    (plain s red k near y inner x outer) (same n c small P (shape t) within sep)
              ]
        ]
      where
        plain : (s : Side) (red k : Bool) (near : ColouredTree) (y : Record) (inner : ColouredTree)
            (x : Record) (outer : ColouredTree)
            → shape (sided s red near y (sided s k inner x outer))
            ≡ shape (sided s false near y (sided s true inner x outer))
        plain Left red k near y inner x outer = refl
        plain Right red k near y inner x outer = refl

    pub fill_black_relinks : (s : Side) (red : Bool) (near : ColouredTree) (y : Record)
        (far : ColouredTree) → ((i : ℕ) → Among (shape (sided s red near y far)) i → P i)
        → IsSeparate (shape (sided s red near y far))
        → Relinks n c P (shape (sided s red near y far))
        (shape (filled_over_black s red near y far).tree) (fill_links_over_black s c y far)
    fill_black_relinks s red near y tip within sep =
        same n c small P (shape (sided s red near y tip)) within sep
    fill_black_relinks Left red near y (branch k a x b) within sep =
        by_relinks Left red k near y a x b within sep
    fill_black_relinks Right red near y (branch k a x b) within sep =
        by_relinks Right red k near y b x a within sep

  module _ (P : ℕ → Type 0) (below : (i : ℕ) → P i → i < n) where
    pub fill_relinks : (s : Side) (red : Bool) (near : ColouredTree) (y : Record)
        (far : ColouredTree) → ((i : ℕ) → Among (shape (sided s red near y far)) i → P i)
        → IsSeparate (shape (sided s red near y far))
        → Relinks n c P (shape (sided s red near y far)) (shape (filled_over s red near y far).tree)
        (fill_links_over s c near y far)
    fill_relinks s red near y tip within sep =
        same n c small P (shape (sided s red near y tip)) within sep
    fill_relinks s red near y (branch false a x b) within sep =
        fill_black_relinks P below s red near y (branch false a x b) within sep
    fill_relinks Left red near y (branch true a x b) within sep =
        let t = branch red near y (branch true a x b) in
        let i = branch true near y a in
        let u = (filled_over_black Left true near y a).tree in
        let q = turn_relinks n c small P below Left false true t within sep in
        then n c small P _ _ _ _ _ q
        (in_sided n c small P below Left false false i x b q.within q.separate u _
        (fill_black_relinks (Among (shape i)) (λ j h. below j (q.within j (inr (inl h)))) Left true
        near y a (λ j h. h) q.separate.3))
    fill_relinks Right red near y (branch true a x b) within sep =
        let t = branch red (branch true a x b) y near in
        let i = branch true b y near in
        let u = (filled_over_black Right true near y b).tree in
        let q = turn_relinks n c small P below Right false true t within sep in
        then n c small P _ _ _ _ _ q
        (in_sided n c small P below Right false false i x a q.within q.separate u _
        (fill_black_relinks (Among (shape i)) (λ j h. below j (q.within j (inr (inr h)))) Right true
        near y b (λ j h. h) q.separate.4))

pub shape_lowered : (red : Bool) (t : ColouredTree) → shape (lowered red t).tree ≡ shape t
shape_lowered true t = refl
shape_lowered false tip = refl
shape_lowered false (branch k l x r) = refl
