-- A tree that stands in the place of another below some nodes of a path: what the stores so far
-- make of the links there, and what follows for the tree above.
use Rattle.rb_trees.proofs.Words.{◌≡◌, ℕ, ◌<◌, ◌≤◌, List, [], ◌∷◌, ◌++◌, refl, sym, ◌∙◌, ap, subst}
use Rattle.rb_trees.proofs.Words.{inl, inr, ⊎_elim, append_assoc, ◌⊎◌, Store, Nodes, Record, Side}
use Rattle.rb_trees.proofs.Words.{Left, Right, ColouredTree, shape, rows, sided, link, relink}
use Rattle.rb_trees.proofs.Words.{relink_root, Among, IsSeparate, With, HasRoom, Lead, Above}
use Rattle.rb_trees.proofs.Words.{joined, plugged, Relinks, Own, Replaced, Bool}
use Rattle.rb_trees.proofs.SideLemmas.{forked, among_near, separate_near, apart_on, on_among}
use Rattle.rb_trees.proofs.TurnLemmas.{rows_sided}
use Rattle.rb_trees.proofs.RelinkLemmas.{then, step}
use Rattle.rb_trees.proofs.LeadsLemmas.{lead_links}

pub rows_plugged : (path : List Above) (t u : ColouredTree) → rows t ≡ rows u
    → rows (plugged path t) ≡ rows (plugged path u)
rows_plugged [] t u e = e
rows_plugged (a ∷ path) t u e = rows_plugged path (joined a a.red t) (joined a a.red u)
    (rows_sided a.side a.red a.red t u a.row a.other a.other e refl)

pub room_near : (n : ℕ) (others : ℕ → Type 0) (s : Side) (j : Bool) (t : ColouredTree) (y : Record)
    (r : ColouredTree) → HasRoom n others (shape (sided s j t y r)) → HasRoom n others (shape t)
room_near n others s j t y r room = record {
  below = λ i h. room.below i (⊎_elim (λ e. inl e) (λ a. inr (among_near s j t y r i a)) h);
  free = λ i e a. room.free i e (among_near s j t y r i a);
  separate = separate_near s j t y r room.separate;
}

module _ (n c : ℕ) (small : c ≤ 1) (others gone : ℕ → Type 0) where
  rise_forked : (s : Side) (l : Nodes) (y : ℕ) (r u : Nodes) (ss : List Store)
      → HasRoom n others (forked s l y r) → ((i : ℕ) → gone i → Among l i)
      → Relinks n c (Own others gone l) l u ss → Relinks n c (Own others gone (forked s l y r))
      (forked s l y r) (forked s u y r) (ss ++ relink s c y (link l) (link u))
  rise_forked s l y r u ss room was q =
      let a = apart_on s l y r room.separate in
      let here : (i : ℕ) → (i ≡ y) ⊎ Among l i ⊎ Among r i → Among (forked s l y r) i =
      λ i h. on_among s l y r i h in
      step n c small (Own others gone (forked s l y r)) (λ i h. room.below i h.0) y
      (inr (here y (inl refl)), λ g. a.not_near (was y g)) s (Own others gone l)
      (λ i h. (⊎_elim (λ e. inl e) (λ b. inr (here i (inr (inl b)))) h.0, h.1))
      (λ h. ⊎_elim (λ e. room.free y e (here y (inl refl))) (λ b. a.not_near b) h.0) l u r ss
      (λ i b h. ⊎_elim (λ e. room.free i e (here i (inr (inr b)))) (λ d. a.apart i d b) h.0)
      (λ i b. (inr (here i (inr (inr b))), λ g. a.apart i (was i g) b)) a.not_far a.far q

  -- one step up
  rise_relinks : (s : Side) (j k : Bool) (l : ColouredTree) (y : Record) (r u : ColouredTree)
      (ss : List Store) → HasRoom n others (shape (sided s j l y r))
      → ((i : ℕ) → gone i → Among (shape l) i)
      → Relinks n c (Own others gone (shape l)) (shape l) (shape u) ss
      → Relinks n c (Own others gone (shape (sided s j l y r))) (shape (sided s j l y r))
      (shape (sided s k u y r)) (ss ++ relink s c y.node (link (shape l)) (link (shape u)))
  rise_relinks Left j k l y r u ss room was q =
      rise_forked Left (shape l) y.node (shape r) (shape u) ss room was q
  rise_relinks Right j k l y r u ss room was q =
      rise_forked Right (shape l) y.node (shape r) (shape u) ss room was q

module _ {c : ℕ} {others gone : ℕ → Type 0} {whole : ColouredTree} {rs : List Record} where
  -- one step up
  pub replaced_up : (a : Above) (path : List Above) {was t : ColouredTree} {ss : List Store}
      → Replaced c others gone whole rs (a ∷ path) was t ss
      → Replaced c others gone whole rs path (joined a a.red was) (joined a a.red t)
      (ss ++ relink a.side c a.row.node (link (shape was)) (link (shape t)))
  replaced_up a path {was = was} {t = t} {ss = ss} r = record {
    old = r.old;
    in_order = r.in_order;
    gone_here = λ i g. among_near a.side a.red was a.row a.other i (r.gone_here i g);
    links = λ n small room.
        rise_relinks n c small others gone a.side a.red a.red was a.row a.other t ss room
        r.gone_here (r.links n small (room_near n others a.side a.red was a.row a.other room));
  }

  -- a change of the tree itself
  pub replaced_here : (path : List Above) {was t : ColouredTree} {ss : List Store}
      → Replaced c others gone whole rs path was t ss → (u : ColouredTree) (ts : List Store)
      → rows u ≡ rows t
      → ((n : ℕ) → c ≤ 1 → (P : ℕ → Type 0) → ((i : ℕ) → P i → i < n) → ((i : ℕ) → Among (shape t) i
      → P i) → IsSeparate (shape t) → Relinks n c P (shape t) (shape u) ts)
      → Replaced c others gone whole rs path was u (ss ++ ts)
  replaced_here path {was = was} {t = t} {ss = ss} r u ts e f = record {
    old = r.old;
    in_order = rows_plugged path u t e ∙ r.in_order;
    gone_here = r.gone_here;
    links = λ n small room.
        let q = r.links n small room in
        then n c small (Own others gone (shape was)) (shape was) (shape t) (shape u) ss ts q
        (f n small (Own others gone (shape was)) (λ i h. room.below i h.0) q.within q.separate);
  }

  -- at the top, with the root's link
  pub replaced_lead : {was t : ColouredTree} {ss : List Store}
      → Replaced c others gone whole rs [] was t ss → (u : ColouredTree) → shape u ≡ shape t
      → Lead others c (shape whole) (shape u)
      (ss ++ relink_root c (link (shape whole)) (link (shape u)))
  replaced_lead {was = was} {t = t} {ss = ss} r u e = λ n small room.
      let same : shape was ≡ shape whole = ap shape r.old in
      let q = r.links n small (subst (HasRoom n others) (sym same) room) in
      let p : Relinks n c (Own others gone (shape was)) (shape whole) (shape u) ss =
      subst (λ v. Relinks n c (Own others gone (shape was)) (shape whole) v ss) (sym e)
      (subst (λ v. Relinks n c (Own others gone (shape was)) v (shape t) ss) same q) in
      lead_links n c small (Own others gone (shape was))
      (λ i h. room.below i (subst (λ v. With others v i) same h.0)) (shape whole) (shape u) ss p

-- the records around a place: with one record there, and without it
pub record Around (path : List Above) (f b : List Record) : Type 0 where
  pub front : List Record
  pub back : List Record
  pub with_row : (x : Record) (t : ColouredTree) → rows t ≡ f ++ x ∷ b
      → rows (plugged path t) ≡ front ++ x ∷ back
  pub without_row : (t : ColouredTree) → rows t ≡ f ++ b → rows (plugged path t) ≡ front ++ back

-- the same one level up
around_side : (s : Side) (red : Bool) (y : Record) (other : ColouredTree) (path : List Above)
    → ((f b : List Record) → Around path f b) → (f b : List Record)
    → Around (record { side = s; red = red; row = y; other = other } ∷ path) f b
around_side Left red y other path above f b =
    let up = above f (b ++ y ∷ rows other) in
    record {
      front = up.front;
      back = up.back;
      with_row = λ x t e. up.with_row x (sided Left red t y other)
          (ap (λ zs. zs ++ y ∷ rows other) e ∙ append_assoc f (x ∷ b) (y ∷ rows other));
      without_row = λ t e. up.without_row (sided Left red t y other)
          (ap (λ zs. zs ++ y ∷ rows other) e ∙ append_assoc f b (y ∷ rows other));
    }
around_side Right red y other path above f b =
    let up = above (rows other ++ y ∷ f) b in
    record {
      front = up.front;
      back = up.back;
      with_row = λ x t e. up.with_row x (sided Right red t y other)
          (ap (λ zs. rows other ++ y ∷ zs) e ∙ sym (append_assoc (rows other) (y ∷ f) (x ∷ b)));
      without_row = λ t e. up.without_row (sided Right red t y other)
          (ap (λ zs. rows other ++ y ∷ zs) e ∙ sym (append_assoc (rows other) (y ∷ f) b));
    }

pub around : (path : List Above) (f b : List Record) → Around path f b
around [] f b = record { front = f; back = b; with_row = λ x t e. e; without_row = λ t e. e }
around (a ∷ path) f b = around_side a.side a.red a.row a.other path (λ g d. around path g d) f b
