-- A node is taken out: the first one of a tree, or its top, whose place the next in order takes.
use Rattle.rb_trees.proofs.Words.{◌≡◌, ℕ, ◌<◌, ◌≤◌, true, false, List, [], ◌∷◌, ◌++◌, refl, sym}
use Rattle.rb_trees.proofs.Words.{◌∙◌, ap, subst, inl, inr, ⊎_elim, append-nil, append_assoc, Store}
use Rattle.rb_trees.proofs.Words.{none, fork, words_after_all, after_append, length_after}
use Rattle.rb_trees.proofs.Words.{owns_append, owns_weaker, Record, Left, Right, ColouredTree, tip}
use Rattle.rb_trees.proofs.Words.{branch, is_red, shape, rows, set_link, link, lowered, filled}
use Rattle.rb_trees.proofs.Words.{fill_links, Among, HasRoom, plugged, past_left, first_place}
use Rattle.rb_trees.proofs.Words.{first_way, Above, Relinks, Own, Replaced, Sound, Fits, Nothing}
use Rattle.rb_trees.proofs.Words.{In, Lost, Bool, Inner}
use Rattle.rb_trees.proofs.ColourLemmas.{halves, over, sound_over}
use Rattle.rb_trees.proofs.RelinkLemmas.{inner_kept, link_fits, placed}
use Rattle.rb_trees.proofs.FillLemmas.{rows_lowered, shape_lowered, lowered_fits, rows_filled}
use Rattle.rb_trees.proofs.FillLemmas.{fill_relinks}
use Rattle.rb_trees.proofs.PathLemmas.{plugged_first}
use Rattle.rb_trees.proofs.ReplaceLemmas.{room_near, replaced_here}
use Rattle.rb_trees.proofs.GrowLemmas.{fill_at}

-- the way to the first node, and the records behind it
pub first_way_on : (t : ColouredTree) (path : List Above)
    → first_way t path ≡ first_way t [] ++ path
first_way_on tip path = refl
first_way_on (branch red tip y r) path = refl
first_way_on (branch red (branch k a x b) y r) path =
    let on : Above = past_left red y r in
    first_way_on (branch k a x b) (on ∷ path)
    ∙ sym (append_assoc (first_way (branch k a x b) []) (on ∷ []) path)
    ∙ ap (λ p. p ++ path) (sym (first_way_on (branch k a x b) (on ∷ [])))

rows_behind : (t : ColouredTree) (path : List Above)
    → (tail : List Record) × ((u : ColouredTree) → rows (plugged path u) ≡ rows u ++ tail)
    → (tail : List Record)
    × ((u : ColouredTree) → rows (plugged (first_way t path) u) ≡ rows u ++ tail)
rows_behind tip path f = f
rows_behind (branch red tip y r) path f = f
rows_behind (branch red (branch k a x b) y r) path f =
    rows_behind (branch k a x b) (past_left red y r ∷ path)
    (y ∷ (rows r ++ f.0), λ u. f.1 (branch red u y r) ∙ append_assoc (rows u) (y ∷ rows r) f.0)

module _ (c : ℕ) (t : ColouredTree) (k : Bool) (x : Record) (b : ColouredTree)
    (here : first_place t ≡ branch k tip x b) where
  first_replaced : Replaced c Nothing (In (x.node ∷ [])) t
      (rows (plugged (first_way t []) (lowered k b).tree)) (first_way t []) (branch k tip x b)
      (lowered k b).tree []
  first_replaced = record {
    old = ap (plugged (first_way t [])) (sym here) ∙ plugged_first t [];
    in_order = refl;
    gone_here = λ i g. ⊎_elim (λ e. inl e) (λ a. absurd a) g;
    links = λ n small room.
        let s = room.separate in
        subst (λ v. Relinks n c (Own Nothing (In (x.node ∷ [])) (fork none x.node (shape b)))
        (fork none x.node (shape b)) v []) (sym (shape_lowered k b))
        (record {
          within = λ i h.
              (inr (inr (inr h)), λ g. ⊎_elim (λ e. s.1 (subst (Among (shape b)) e h)) (λ a. a) g);
          separate = s.4;
          owns = tt;
          leads = λ m sized is. is.3;
        });
  }

  pub first_lost : Lost c (x.node ∷ []) t (rows (plugged (first_way t []) (lowered k b).tree))
      (first_way t []) (branch k tip x b) (lowered k b).tree [] (lowered k b).short
  first_lost = record {
    replaced = first_replaced;
    fits = λ h is.
        let two = halves Left k tip x b h is in
        subst (λ j. Fits k j (lowered k b).tree (lowered k b).short)
        (ap (over k) (sym two.near.high) ∙ two.level)
        (lowered_fits k b (subst (Sound b) two.near.high two.far) two.far_black);
  }

  pub first_rows : {rs : List Record} → rs ≡ rows (plugged (first_way t []) (lowered k b).tree)
      → rows t ≡ x ∷ rs
  first_rows e =
      let f = rows_behind t [] ([], λ u. sym (append-nil (rows u))) in
      ap rows (sym (plugged_first t [])) ∙ ap (λ u. rows (plugged (first_way t []) u)) here
      ∙ f.1 (branch k tip x b)
      ∙ ap (λ zs. x ∷ (zs ++ f.0)) (sym (rows_lowered k b))
      ∙ ap (λ zs. x ∷ zs) (sym (f.1 (lowered k b).tree)) ∙ ap (λ zs. x ∷ zs) (sym e)

-- a top with no right subtree gives its place to the left one
pub lone_lost : (c : ℕ) (red : Bool) (l : ColouredTree) (x : Record)
    → Lost c [] (branch red l x tip) (rows l ++ []) [] (branch red l x tip) (lowered red l).tree []
    (lowered red l).short
lone_lost c red l x = record {
  replaced = record {
    old = refl;
    in_order = rows_lowered red l ∙ sym (append-nil (rows l));
    gone_here = λ i g. absurd g;
    links = λ n small room.
        let s = room.separate in
        subst (λ v. Relinks n c (Own Nothing (In []) (fork (shape l) x.node none))
        (fork (shape l) x.node none) v []) (sym (shape_lowered red l))
        (record {
          within = λ i h. (inr (inr (inl h)), λ g. g);
          separate = s.3;
          owns = tt;
          leads = λ m sized is. is.2;
        });
  };
  fits = λ h is.
      let two = halves Left red l x tip h is in
      subst (λ j. Fits red j (lowered red l).tree (lowered red l).short)
      (ap (over red) (sym two.far.high) ∙ two.level)
      (lowered_fits red l (subst (Sound l) two.far.high two.near) two.near_black);
}

-- the next node takes the place of a top that has a right subtree
module _ (c : ℕ) (red : Bool) (l : ColouredTree) (x : Record) (r : ColouredTree) (f : Record)
    (u : ColouredTree) (ss : List Store) (first : rows r ≡ f ∷ rows u) where
  next_relinks : (n : ℕ) → c ≤ 1 → HasRoom n Nothing (fork (shape l) x.node (shape r))
      → Among (shape r) f.node
      → Relinks n c (Own Nothing (In (f.node ∷ [])) (shape r)) (shape r) (shape u) ss
      → Relinks n c (Own Nothing (In []) (fork (shape l) x.node (shape r)))
      (fork (shape l) x.node (shape r)) (fork (shape l) f.node (shape u)) (ss ++ (set_link Left
      c f.node (link (shape l)) ∷ set_link Right c f.node (link (shape u)) ∷ []))
  next_relinks n small room in_r i =
      let t = fork (shape l) x.node (shape r) in
      let P : ℕ → Type 0 = Own Nothing (In []) t in
      let sep = room.separate in
      let here : (v : ℕ) → Among t v → P v = λ v h. (inr h, λ g. g) in
      let low : (v : ℕ) → P v → v < n = λ v h. room.below v h.0 in
      let in_u : (v : ℕ) → Among (shape u) v → Among (shape r) v =
      λ v h. ⊎_elim (λ e. absurd e) (λ a. a) (i.within v h).0 in
      let nl : Among (shape l) f.node → ⊥ = λ h. sep.2 f.node h in_r in
      let nr : Among (shape u) f.node → ⊥ = λ h. (i.within f.node h).1 (inl refl) in
      let own : P f.node = here f.node (inr (inr in_r)) in
      let fl : link (shape l) ≤ n = link_fits n (shape l) (λ v h. low v (here v (inr (inl h)))) in
      let fr : link (shape u) ≤ n =
      link_fits n (shape u) (λ v h. low v (here v (inr (inr (in_u v h))))) in
      let two =
      set_link Left c f.node (link (shape l)) ∷ set_link Right c f.node (link (shape u)) ∷ [] in
      record {
        within = λ v h. here v (⊎_elim (λ e. inr (inr (subst (Among (shape r)) (sym e) in_r)))
            (⊎_elim (λ g. inr (inl g)) (λ g. inr (inr (in_u v g)))) h);
        separate = (nl, nr, (λ v h g. sep.2 v h (in_u v g)), sep.3, i.separate);
        owns = owns_append n c P ss two (owns_weaker n c (Own Nothing (In (f.node ∷ [])) (shape r))
            P (λ v h. here v (⊎_elim (λ e. absurd e) (λ a. inr (inr a)) h.0)) ss i.owns)
            (((f.node, own, inl refl), fl), (((f.node, own, inr refl), fr), tt));
        leads = λ m sized is.
            subst (λ w. Inner w c (fork (shape l) f.node (shape u))) (sym (after_append m ss two))
            (placed n c small P low f.node own (shape l) (shape u) (words_after_all m ss)
            (length_after m ss ∙ sized)
            (inner_kept n c (Own Nothing (In (f.node ∷ [])) (shape r)) m ss i.owns (shape l)
            (λ v h g. sep.2 v h (⊎_elim (λ e. absurd e) (λ a. a) g.0)) is.2)
            (i.leads m sized is.3) fl fr nl nr);
      }

  next_replaced : {rs : List Record} → Replaced c Nothing (In (f.node ∷ [])) r rs [] r u ss
      → Replaced c Nothing (In []) (branch red l x r) (rows l ++ rows r) [] (branch red l x r)
      (branch red l f u) (ss ++ (set_link Left c f.node (link (shape l))
      ∷ set_link Right c f.node (link (shape u)) ∷ []))
  next_replaced q = record {
    old = refl;
    in_order = ap (λ zs. rows l ++ zs) (sym first);
    gone_here = λ i g. absurd g;
    links = λ n small room. next_relinks n small room (q.gone_here f.node (inl refl))
        (q.links n small (room_near n Nothing Right red r x l room));
  }

  pub next_kept : {rs : List Record} → Lost c (f.node ∷ []) r rs [] r u ss false
      → Lost c [] (branch red l x r) (rows l ++ rows r) [] (branch red l x r) (branch red l f u)
      (ss ++ (set_link Left c f.node (link (shape l)) ∷ set_link Right c f.node (link (shape u))
      ∷ [])) false
  next_kept q = record {
    replaced = next_replaced q.replaced;
    fits = λ h is.
        let two = halves Right red r x l h is in
        let g = q.fits two.height two.near in (
          subst (Sound (branch red l f u)) two.level (sound_over Right red u f l two.height
              (λ e. g.1 (two.near_black e)) two.far_black g.0 two.far),
          λ e. e,
        );
  }

  pub next_filled : {rs : List Record} → Lost c (f.node ∷ []) r rs [] r u ss true
      → Lost c [] (branch red l x r) (rows l ++ rows r) [] (branch red l x r)
      (filled Right (branch red l f u)).tree
      ((ss ++ (set_link Left c f.node (link (shape l)) ∷ set_link Right c f.node (link (shape u))
      ∷ [])) ++ fill_links Right c (branch red l f u)) (filled Right (branch red l f u)).short
  next_filled q =
      let p = next_replaced q.replaced in
      record {
        replaced = replaced_here [] p (filled Right (branch red l f u)).tree
            (fill_links Right c (branch red l f u)) (rows_filled Right red u f l)
            (λ n small P below within sep.
            fill_relinks n c small P below Right red u f l within sep);
        fits = λ h is.
            let two = halves Right red r x l h is in
            let v = filled Right (branch red l f u) in
            subst (λ j. Fits red j v.tree v.short) two.level (fill_at Right red (is_red r) u f l
            two.height (q.fits two.height two.near) two.far two.far_black);
      }
