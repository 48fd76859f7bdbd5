-- The steps up of an insert and of an erase.
use Rattle.rb_trees.proofs.Words.{◌≡◌, ℕ, zero, suc, true, false, List, [], ◌∷◌, ◌++◌, refl, sym}
use Rattle.rb_trees.proofs.Words.{◌∙◌, ap, subst, inl, append-nil, Store, Record, Side, Left, Right}
use Rattle.rb_trees.proofs.Words.{ColouredTree, tip, branch, is_red, blackened, shape, rows}
use Rattle.rb_trees.proofs.Words.{HasBlackHeight, HasNoClash, IsRedBlack, sided, set_link, link}
use Rattle.rb_trees.proofs.Words.{relink, red_violation, mended, mend_links, filled, fill_links}
use Rattle.rb_trees.proofs.Words.{filled_over, Above, joined, plugged, Relinks, Replaced, Sound}
use Rattle.rb_trees.proofs.Words.{Fits, Nothing, In, Lost, Bool}
use Rattle.rb_trees.proofs.SideLemmas.{red_sided, link_sided}
use Rattle.rb_trees.proofs.ColourLemmas.{IsNear, near_of_calm, blackened_good, over, halves}
use Rattle.rb_trees.proofs.ColourLemmas.{sound_over}
use Rattle.rb_trees.proofs.RelinkLemmas.{planted}
use Rattle.rb_trees.proofs.MendLemmas.{mended_sided, mend_links_sided, rows_mended, mended_sound}
use Rattle.rb_trees.proofs.MendLemmas.{mend_relinks}
use Rattle.rb_trees.proofs.FillLemmas.{filled_sided, fill_links_sided, rows_filled, fill_fits}
use Rattle.rb_trees.proofs.FillLemmas.{fill_relinks}
use Rattle.rb_trees.proofs.TurnLemmas.{relink_same}
use Rattle.rb_trees.proofs.ReplaceLemmas.{replaced_up, replaced_here}
use Rattle.std.proofs.Common.{arith}
use Rattle.std.proofs.lemmas.Bool.Decides.{nat_tests}

-- a node above
abbrev pub at_side : Side → Bool → Record → ColouredTree → Above
at_side s red y other = record { side = s; red = red; row = y; other = other }

-- in an insert: no red node has a red child but at the top, and not there where the old one is
-- black
abbrev pub NearBy : ColouredTree → ColouredTree → ℕ → Type 0
NearBy was t h = IsNear t × HasBlackHeight t h × (is_red was ≡ false → HasNoClash t)

pub record Grown (c x : ℕ) (whole : ColouredTree) (rs : List Record) (path : List Above)
    (was t : ColouredTree) (ss : List Store) : Type 0 where
  pub replaced : Replaced c (λ i. i ≡ x) Nothing whole rs path was t ss
  pub near : (h : ℕ) → Sound was h → NearBy was t h

-- the new leaf
pub grown_leaf : (c : ℕ) (x : Record) (path : List Above)
    → Grown c x.node (plugged path tip) (rows (plugged path (branch true tip x tip))) path tip
    (branch true tip x tip) (set_link Left c x.node 0 ∷ set_link Right c x.node 0 ∷ [])
grown_leaf c x path = record {
  replaced = record {
    old = refl;
    in_order = refl;
    gone_here = λ i g. absurd g;
    links = λ n small room. planted n c small _ (λ i h. room.below i h.0) x.node (inl refl, λ g. g);
  };
  near = λ h s. (((λ e. refl), tt, tt), (s.high, s.high), λ e. (refl, refl, tt, tt));
}

near_red : (s : Side) (was t : ColouredTree) (y : Record) (other : ColouredTree) (h : ℕ)
    → ((k : ℕ) → Sound was k → NearBy was t k) → Sound (sided s true was y other) h
    → NearBy (sided s true was y other) (sided s true t y other) h
near_red Left was t y other h f is = grind (arith, nat_tests)
near_red Right was t y other h f is = grind (arith, nat_tests)

module _ {c x : ℕ} {whole : ColouredTree} {rs : List Record} (s : Side) (y : Record)
    (other : ColouredTree) (path : List Above) {was t : ColouredTree} {ss : List Store} where
  -- below a red node the change goes on
  pub grown_red : Grown c x whole rs (at_side s true y other ∷ path) was t ss
      → Grown c x whole rs path (sided s true was y other) (sided s true t y other)
      (ss ++ relink s c y.node (link (shape was)) (link (shape t)))
  grown_red g = record {
    replaced = replaced_up (at_side s true y other) path g.replaced;
    near = λ h is. near_red s was t y other h g.near is;
  }

  -- a black one is mended, and then no red node has a red child
  pub mended_calm : Grown c x whole rs (at_side s false y other ∷ path) was t ss → (h : ℕ)
      → Sound (sided s false was y other) h → Sound (mended s (sided s false t y other)) h
  mended_calm g h is =
      let two = halves s false was y other h is in
      let near = g.near two.height two.near in
      subst (Sound (mended s (sided s false t y other))) two.level
      (subst (λ u. Sound u (suc two.height)) (sym (mended_sided s t y other))
      (mended_sound y other two.height two.far s t near.0 near.1))

  pub grown_black : Grown c x whole rs (at_side s false y other ∷ path) was t ss
      → Grown c x whole rs path (sided s false was y other) (mended s (sided s false t y other))
      ((ss ++ relink s c y.node (link (shape was)) (link (shape t)))
      ++ mend_links s c (sided s false t y other))
  grown_black g = record {
    replaced = replaced_here path (replaced_up (at_side s false y other) path g.replaced)
        (mended s (sided s false t y other)) (mend_links s c (sided s false t y other))
        (ap rows (mended_sided s t y other) ∙ rows_mended s y other (red_violation s t) t)
        (λ n small P below within sep.
        subst (λ u. Relinks n c P (shape (sided s false t y other)) (shape u)
        (mend_links s c (sided s false t y other))) (sym (mended_sided s t y other))
        (subst (Relinks n c P (shape (sided s false t y other)) _)
        (sym (mend_links_sided s c t y other))
        (mend_relinks n c small P below s t y other within sep (red_violation s t))));
    near = λ h is. let m = mended_calm g h is in
        (near_of_calm (mended s (sided s false t y other)) m.calm, m.high, λ e. m.calm);
  }

-- a sound tree of the same height in the place of another, and black where that one is: the way up
-- may end there
pub record Kept (c : ℕ) (others gone : ℕ → Type 0) (whole : ColouredTree) (rs : List Record)
    (path : List Above) (was t : ColouredTree) (ss : List Store) : Type 0 where
  pub replaced : Replaced c others gone whole rs path was t ss
  pub keeps : (h : ℕ) → Sound was h → Sound t h × (is_red was ≡ false → is_red t ≡ false)

keeps_over : (s : Side) (red : Bool) (was t : ColouredTree) (y : Record) (other : ColouredTree)
    (h : ℕ)
    → ((k : ℕ) → Sound was k → Sound t k × (red ≡ true → is_red was ≡ false → is_red t ≡ false))
    → Sound (sided s red was y other) h
    → Sound (sided s red t y other) h
    × (is_red (sided s red was y other) ≡ false → is_red (sided s red t y other) ≡ false)
keeps_over s red was t y other h f is = grind (arith, nat_tests, halves, sound_over, red_sided)

module _ {c : ℕ} {others gone : ℕ → Type 0} {whole : ColouredTree} {rs : List Record} where
  pub kept_up : (a : Above) (path : List Above) {was t : ColouredTree} {ss : List Store}
      → Kept c others gone whole rs (a ∷ path) was t ss
      → Kept c others gone whole rs path (joined a a.red was) (joined a a.red t)
      (ss ++ relink a.side c a.row.node (link (shape was)) (link (shape t)))
  kept_up a path {was = was} {t = t} k = record {
    replaced = replaced_up a path k.replaced;
    keeps = λ h is. keeps_over a.side a.red was t a.row a.other h (λ j s. let f = k.keeps j s in
        (f.0, λ e. f.1)) is;
  }

  -- where the link stays, too, nothing changes above
  pub kept_still : (path : List Above) {was t : ColouredTree} {ss : List Store}
      → Kept c others gone whole rs path was t ss → link (shape was) ≡ link (shape t)
      → Kept c others gone whole rs [] (plugged path was) (plugged path t) ss
      × (link (shape (plugged path was)) ≡ link (shape (plugged path t)))
  kept_still [] k e = (k, e)
  kept_still (a ∷ path) {was = was} {t = t} {ss = ss} k e =
      let none : ss ++ relink a.side c a.row.node (link (shape was)) (link (shape t)) ≡ ss =
      ap (λ rs. ss ++ rs) (relink_same a.side c a.row.node (link (shape was)) (link (shape t)) e)
      ∙ append-nil ss in
      kept_still path
      (subst (Kept c others gone whole rs path (joined a a.red was) (joined a a.red t)) none
      (kept_up a path k))
      (link_sided a.side a.red was a.row a.other ∙ sym (link_sided a.side a.red t a.row a.other))

-- an insert ends below a node where no red node has a red child any more
pub grown_kept : {c x : ℕ} {whole : ColouredTree} {rs : List Record} (a : Above) (path : List Above)
    {was t : ColouredTree} {ss : List Store} → Grown c x whole rs (a ∷ path) was t ss
    → ((h : ℕ) → Sound was h → HasNoClash t) → (a.red ≡ true → is_red t ≡ false)
    → Kept c (λ i. i ≡ x) Nothing whole rs path (joined a a.red was) (joined a a.red t)
    (ss ++ relink a.side c a.row.node (link (shape was)) (link (shape t)))
grown_kept a path {was = was} {t = t} g calm black = record {
  replaced = replaced_up a path g.replaced;
  keeps = λ h is. keeps_over a.side a.red was t a.row a.other h (λ k s. let n = g.near k s in
      (record { calm = calm k s; high = n.1 }, λ e f. black e)) is;
}

pub grown_good : {c x : ℕ} {whole : ColouredTree} {rs : List Record} {was t : ColouredTree}
    {ss : List Store} → Grown c x whole rs [] was t ss → IsRedBlack whole → IsRedBlack (blackened t)
grown_good {t = t} g good = grind (arith, nat_tests, blackened_good)

pub kept_good : {c : ℕ} {others gone : ℕ → Type 0} {whole : ColouredTree} {rs : List Record}
    {was t : ColouredTree} {ss : List Store} → Kept c others gone whole rs [] was t ss
    → IsRedBlack whole → IsRedBlack (blackened t)
kept_good {t = t} k good = grind (arith, nat_tests, blackened_good, near_of_calm)

-- in an erase, a short tree is filled at each node above it
pub fill_at : (s : Side) (red colour : Bool) (t : ColouredTree) (y : Record) (other : ColouredTree)
    (h : ℕ) → Fits colour h t true → Sound other h → (red ≡ true → is_red other ≡ false)
    → Fits red (over red h) (filled_over s red t y other).tree (filled_over s red t y other).short
fill_at s red colour t y other zero f o b = absurd f
fill_at s red colour t y other (suc h) f o b = fill_fits s red t y other h f.0 o b

module _ {c : ℕ} {gone : List ℕ} {whole : ColouredTree} {rs : List Record} where
  pub lost_filled : (s : Side) (red : Bool) (y : Record) (other : ColouredTree) (path : List Above)
      {was t : ColouredTree} {ss : List Store}
      → Lost c gone whole rs (at_side s red y other ∷ path) was t ss true
      → Lost c gone whole rs path (sided s red was y other) (filled s (sided s red t y other)).tree
      ((ss ++ relink s c y.node (link (shape was)) (link (shape t)))
      ++ fill_links s c (sided s red t y other)) (filled s (sided s red t y other)).short
  lost_filled s red y other path {was = was} {t = t} l = record {
    replaced = replaced_here path (replaced_up (at_side s red y other) path l.replaced)
        (filled s (sided s red t y other)).tree (fill_links s c (sided s red t y other))
        (ap (λ r. rows r.tree) (filled_sided s red t y other) ∙ rows_filled s red t y other)
        (λ n small P below within sep.
        subst (λ r. Relinks n c P (shape (sided s red t y other)) (shape r.tree)
        (fill_links s c (sided s red t y other))) (sym (filled_sided s red t y other))
        (subst (Relinks n c P (shape (sided s red t y other)) _)
        (sym (fill_links_sided s c red t y other))
        (fill_relinks n c small P below s red t y other within sep)));
    fits = λ h is.
        let two = halves s red was y other h is in
        let r = filled_over s red t y other in
        subst (λ q. Fits (is_red (sided s red was y other)) h q.tree q.short)
        (sym (filled_sided s red t y other))
        (subst (λ v. Fits v h r.tree r.short) (sym (red_sided s red was y other))
        (subst (λ k. Fits red k r.tree r.short) two.level
        (fill_at s red (is_red was) t y other two.height (l.fits two.height two.near) two.far
        two.far_black)));
  }

  -- one that is not short is kept
  pub lost_kept : {path : List Above} {was t : ColouredTree} {ss : List Store}
      → Lost c gone whole rs path was t ss false → Kept c Nothing (In gone) whole rs path was t ss
  lost_kept l = record { replaced = l.replaced; keeps = l.fits }

  pub kept_lost : {path : List Above} {was t : ColouredTree} {ss : List Store}
      → Kept c Nothing (In gone) whole rs path was t ss → Lost c gone whole rs path was t ss false
  kept_lost k = record { replaced = k.replaced; fits = k.keeps }

  pub lost_good : {was t : ColouredTree} {ss : List Store} {short : Bool}
      → Lost c gone whole rs [] was t ss short → IsRedBlack whole → IsRedBlack t
  lost_good {was = was} {t = t} {short = short} l good =
      let h = (good.even).0 in
      fits_good h t short
      (subst (λ v. Fits v h t short) (ap is_red l.replaced.old ∙ good.black)
      (l.fits h (subst (λ u. Sound u h) (sym l.replaced.old)
      (record { calm = good.calm; high = (good.even).1 }))))
    where
      fits_good : (h : ℕ) (t : ColouredTree) (short : Bool) → Fits false h t short → IsRedBlack t
      fits_good h t false f = record { black = f.1 refl; calm = (f.0).calm; even = (h, (f.0).high) }
      fits_good zero t true f = absurd f
      fits_good (suc h) t true f = record { black = f.2; calm = (f.0).calm; even = (h, (f.0).high) }
