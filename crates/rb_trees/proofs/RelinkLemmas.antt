-- What stores of links make of the links of a tree, one small change after another.
use Rattle.rb_trees.proofs.Words.{◌≡◌, ◌≢◌, ℕ, suc, ◌<◌, ◌≤◌, true, false, cond, List, [], ◌∷◌}
use Rattle.rb_trees.proofs.Words.{◌++◌, length, refl, sym, ◌∙◌, subst, inl, inr, ⊎_elim, arith}
use Rattle.rb_trees.proofs.Words.{length-set, ap, ◌⊎◌, ◌==◌, slice_set, eqb-true, Store, Nodes}
use Rattle.rb_trees.proofs.Words.{none, fork, at, words_for, left_word, right_word, words_after_all}
use Rattle.rb_trees.proofs.Words.{at_stored, at_other, after_append, length_after, Owns}
use Rattle.rb_trees.proofs.Words.{owns_append, owns_weaker, link_kept, Record, Side, Left, Right}
use Rattle.rb_trees.proofs.Words.{ColouredTree, tip, branch, blackened, shape, opposite, sided}
use Rattle.rb_trees.proofs.Words.{link_word, set_link, link, relink, turned, turn_links, Among}
use Rattle.rb_trees.proofs.Words.{IsSeparate, Relinks, Bool, Inner}
use Rattle.rb_trees.proofs.SideLemmas.{forked, link_forked, inner_on, on_inner, apart_on, on_apart}
use Rattle.rb_trees.proofs.SideLemmas.{among_on, on_among, other_side, other_node, word_in, is_link}
use Rattle.std.proofs.lemmas.Bool.Decides.{nat_tests}

pub inner_kept : (n c : ℕ) (P : ℕ → Type 0) (m : List ℕ) (ss : List Store) → Owns n c P ss
    → (t : Nodes) → ((i : ℕ) → Among t i → P i → ⊥) → Inner m c t → Inner (words_after_all m ss) c t
inner_kept n c P m ss h none apart is = tt
inner_kept n c P m ss h (fork l i r) apart is = (
  link_kept n c P m ss h i (left_word c i) (apart i (inl refl)) (inl refl) ∙ is.0,
  link_kept n c P m ss h i (right_word c i) (apart i (inl refl)) (inr refl) ∙ is.1,
  inner_kept n c P m ss h l (λ j a. apart j (inr (inl a))) is.2,
  inner_kept n c P m ss h r (λ j a. apart j (inr (inr a))) is.3,
)

pub link_fits : (n : ℕ) (t : Nodes) → ((i : ℕ) → Among t i → i < n) → link t ≤ n
link_fits n none below = omega arith
link_fits n (fork l i r) below = omega (arith, below i (inl refl))

pub shape_blackened : (t : ColouredTree) → shape (blackened t) ≡ shape t
shape_blackened tip = refl
shape_blackened (branch red l x r) = refl

module _ (n c : ℕ) (small : c ≤ 1) where
  -- nothing is stored
  pub same : (P : ℕ → Type 0) (t : Nodes) → ((i : ℕ) → Among t i → P i) → IsSeparate t
      → Relinks n c P t t []
  same P t within separate =
      record { within = within; separate = separate; owns = tt; leads = λ m sized is. is }

  pub then : (P : ℕ → Type 0) (t u v : Nodes) (ss ts : List Store) → Relinks n c P t u ss
      → Relinks n c P u v ts → Relinks n c P t v (ss ++ ts)
  then P t u v ss ts r q = record {
    within = q.within;
    separate = q.separate;
    owns = owns_append n c P ss ts r.owns q.owns;
    leads = λ m sized is.
        subst (λ w. Inner w c v) (sym (after_append m ss ts))
        (q.leads (words_after_all m ss) (length_after m ss ∙ sized) (r.leads m sized is));
  }

  -- the node y, of whose two subtrees one was linked anew
  module _ (P : ℕ → Type 0) (below : (i : ℕ) → P i → i < n) (y : ℕ) (own : P y) where
    one : (s : Side) (v : ℕ) → v ≤ n → Owns n c (λ i. i ≡ y) (set_link s c y v ∷ [])
    one s v fits = (((y, refl, is_link s c y), fits), tt)

    away : (t : Nodes) → (Among t y → ⊥) → (i : ℕ) → Among t i → i ≡ y → ⊥
    away t off i a e = off (subst (Among t) e a)

    -- the state of the words before the node's link is stored
    stored : (s : Side) (m : List ℕ) → length m ≡ words_for n → (l u r : Nodes)
        → at m (link_word s c y) ≡ link l → at m (link_word (opposite s) c y) ≡ link r → Inner m c u
        → Inner m c r → link u ≤ n → (Among u y → ⊥) → (Among r y → ⊥)
        → Inner (words_after_all m (relink s c y (link l) (link u))) c (forked s u y r)
    stored s m sized l u r el er iu ir fits nu nr =
        let w = link_word s c y in
        let ss = set_link s c y (link u) ∷ [] in
        elim (link l == link u) as (λ b. (link l == link u) ≡ b
        → Inner (words_after_all m (cond b [] ss)) c (forked s u y r)) [
          | true ↦ λ e. on_inner m c s u y r
              (record {
                near = el ∙ eqb-true (link l) (link u) e;
                far = er;
                in_near = iu;
                in_far = ir;
              })
          | false ↦ λ e. on_inner (slice_set m w (link u)) c s u y r (record {
            near =
                at_stored m w (link u) (omega (arith, word_in s n c y small (below y own), sized));
            far =
                at_other m w (link u) (link_word (opposite s) c y) (λ q. other_side s c y y (sym q))
                ∙ er;
            in_near = inner_kept n c (λ i. i ≡ y) m ss (one s (link u) fits) u (away u nu) iu;
            in_far = inner_kept n c (λ i. i ≡ y) m ss (one s (link u) fits) r (away r nr) ir;
          })
        ] refl

    owns_relink : (s : Side) (before after : ℕ) → after ≤ n → Owns n c P (relink s c y before after)
    owns_relink s before after fits = grind (arith, nat_tests, is_link)

    -- a change in the subtree on a side, in nodes that are neither this one nor in the other
    -- subtree
    pub step : (s : Side) (R : ℕ → Type 0) → ((i : ℕ) → R i → P i) → (R y → ⊥)
        → (l u r : Nodes) (ss : List Store) → ((i : ℕ) → Among r i → R i → ⊥)
        → ((i : ℕ) → Among r i → P i) → (Among r y → ⊥) → IsSeparate r → Relinks n c R l u ss
        → Relinks n c P (forked s l y r) (forked s u y r) (ss ++ relink s c y (link l) (link u))
    step s R more off l u r ss apart rest nr sr q =
        let fits : link u ≤ n = link_fits n u (λ i a. below i (more i (q.within i a))) in
        let nu : Among u y → ⊥ = λ a. off (q.within y a) in
        let rs = relink s c y (link l) (link u) in
        record {
          within = λ i a. ⊎_elim (λ e. subst P (sym e) own)
              (⊎_elim (λ b. more i (q.within i b)) (λ b. rest i b)) (among_on s u y r i a);
          separate = on_apart s u y r (record {
            not_near = nu;
            not_far = nr;
            apart = λ j a b. apart j b (q.within j a);
            near = q.separate;
            far = sr;
          });
          owns = owns_append n c P ss rs (owns_weaker n c R P more ss q.owns)
              (owns_relink s (link l) (link u) fits);
          leads = λ m sized is.
              let h = inner_on m c s l y r is in
              subst (λ w. Inner w c (forked s u y r)) (sym (after_append m ss rs))
              (stored s (words_after_all m ss) (length_after m ss ∙ sized) l u r
              (link_kept n c R m ss q.owns y (link_word s c y) off (is_link s c y) ∙ h.near)
              (link_kept n c R m ss q.owns y (link_word (opposite s) c y) off
              (is_link (opposite s) c y) ∙ h.far)
              (q.leads m sized h.in_near) (inner_kept n c R m ss q.owns r apart h.in_far)
              fits nu nr);
        }

    -- this node alone, linked to nothing, or to these two trees
    pub placed : (l r : Nodes) (m : List ℕ) → length m ≡ words_for n → Inner m c l → Inner m c r
        → link l ≤ n → link r ≤ n → (Among l y → ⊥) → (Among r y → ⊥)
        → Inner (words_after_all m (set_link Left c y (link l) ∷ set_link Right c y (link r) ∷ []))
        c (fork l y r)
    placed l r m sized il ir fl fr nl nr =
        let ss = set_link Left c y (link l) ∷ set_link Right c y (link r) ∷ [] in
        let m1 = slice_set m (left_word c y) (link l) in
        let owns : Owns n c (λ i. i ≡ y) ss =
        (((y, refl, inl refl), fl), (((y, refl, inr refl), fr), tt)) in (
          at_other m1 (right_word c y) (link r) (left_word c y) (other_side Left c y y)
              ∙ at_stored m (left_word c y) (link l)
              (omega (arith, word_in Left n c y small (below y own), sized)),
          at_stored m1 (right_word c y) (link r) (omega (
            arith,
            word_in Right n c y small (below y own),
            length-set m (left_word c y) (link l),
          )),
          inner_kept n c (λ i. i ≡ y) m ss owns l (away l nl) il,
          inner_kept n c (λ i. i ≡ y) m ss owns r (away r nr) ir,
        )

    pub planted : Relinks n c P none (fork none y none)
        (set_link Left c y 0 ∷ set_link Right c y 0 ∷ [])
    planted = record {
      within = λ i a. ⊎_elim (λ e. subst P (sym e) own) (⊎_elim (λ b. absurd b) (λ b. absurd b)) a;
      separate = ((λ a. a), (λ a. a), (λ j a b. a), tt, tt);
      owns = (((y, own, inl refl), omega arith), (((y, own, inr refl), omega arith), tt));
      leads = λ m sized is.
          placed none none m sized tt tt (omega arith) (omega arith) (λ a. a) (λ a. a);
    }

  -- a turn: the child x on the other side takes the place of y, which goes down on this side
  module _ (P : ℕ → Type 0) (below : (i : ℕ) → P i → i < n) (s : Side) (r b a : Nodes)
      (x y : ℕ) where
    turn : ((i : ℕ) → Among (forked s r y (forked s b x a)) i → P i)
        → IsSeparate (forked s r y (forked s b x a))
        → Relinks n c P (forked s r y (forked s b x a)) (forked s (forked s r y b) x a)
        (set_link (opposite s) c y (link b) ∷ set_link s c x (suc y) ∷ [])
    turn within sep =
        let child : Nodes = forked s b x a in
        let down : Nodes = forked s r y b in
        let inside : (i : ℕ) → (i ≡ y) ⊎ Among r i ⊎ ((i ≡ x) ⊎ Among b i ⊎ Among a i) → P i =
        λ i h.
        within i (on_among s r y child i (⊎_elim (λ e. inl e)
        (⊎_elim (λ k. inr (inl k)) (λ k. inr (inr (on_among s b x a i k)))) h)) in
        let px : P x = inside x (inr (inr (inl refl))) in
        let py : P y = inside y (inl refl) in
        let out = apart_on s r y child sep in
        let inn = apart_on s b x a out.far in
        let not_in : (i : ℕ) → (i ≡ x) ⊎ Among b i ⊎ Among a i → i ≢ y =
        λ i h e. out.not_far (subst (Among child) e (on_among s b x a i h)) in
        let off : (i : ℕ) → Among r i → (i ≡ x) ⊎ Among b i ⊎ Among a i → ⊥ =
        λ i k h. out.apart i k (on_among s b x a i h) in
        let ne : x ≢ y = not_in x (inl refl) in
        let fb : link b ≤ n = link_fits n b (λ i h. below i (inside i (inr (inr (inr (inl h)))))) in
        let fy : suc y ≤ n = omega (arith, below y py) in
        let ss = set_link (opposite s) c y (link b) ∷ set_link s c x (suc y) ∷ [] in
        let owns : Owns n c (λ i. (i ≡ x) ⊎ (i ≡ y)) ss = (
          ((y, inr refl, is_link (opposite s) c y), fb),
          (((x, inl refl, is_link s c x), fy), tt),
        ) in
        record {
          within = λ i h.
              ⊎_elim (λ e. inside i (inr (inr (inl e))))
              (⊎_elim (λ k. ⊎_elim (λ e. inside i (inl e)) (⊎_elim (λ q. inside i (inr (inl q)))
              (λ q. inside i (inr (inr (inr (inl q)))))) (among_on s r y b i k))
              (λ k. inside i (inr (inr (inr (inr k)))))) (among_on s down x a i h);
          separate = on_apart s down x a (record {
            not_near = λ h. ⊎_elim (λ e. ne e)
                (⊎_elim (λ k. off x k (inl refl)) (λ k. inn.not_near k)) (among_on s r y b x h);
            not_far = inn.not_far;
            apart = λ j h k. ⊎_elim (λ e. not_in j (inr (inr k)) e)
                (⊎_elim (λ q. off j q (inr (inr k))) (λ q. inn.apart j q k)) (among_on s r y b j h);
            near = on_apart s r y b (record {
              not_near = out.not_near;
              not_far = λ h. not_in y (inr (inl h)) refl;
              apart = λ j h k. off j h (inr (inl k));
              near = out.near;
              far = inn.near;
            });
            far = inn.far;
          });
          owns = (((y, py, is_link (opposite s) c y), fb), (((x, px, is_link s c x), fy), tt));
          leads = λ m sized is.
              let top = inner_on m c s r y child is in
              let low = inner_on m c s b x a top.in_far in
              let wy = link_word (opposite s) c y in
              let m1 = slice_set m wy (link b) in
              let kept : (t : Nodes) → ((i : ℕ) → Among t i → (i ≡ x) ⊎ (i ≡ y) → ⊥) → Inner m c t
              → Inner (words_after_all m ss) c t =
              λ t apart. inner_kept n c (λ i. (i ≡ x) ⊎ (i ≡ y)) m ss owns t apart in
              on_inner (words_after_all m ss) c s down x a (record {
                near = at_stored m1 (link_word s c x) (suc y) (omega
                    (arith, word_in s n c x small (below x px), length-set m wy (link b), sized))
                    ∙ sym (link_forked s r y b);
                far = at_other m1 (link_word s c x) (suc y) (link_word (opposite s) c x)
                    (λ q. other_side s c x x (sym q))
                    ∙ at_other m wy (link b) (link_word (opposite s) c x)
                    (other_node (opposite s) c x y ne) ∙ low.far;
                in_near = on_inner (words_after_all m ss) c s r y b (record {
                  near = at_other m1 (link_word s c x) (suc y) (link_word s c y)
                      (other_node s c y x (λ e. ne (sym e)))
                      ∙ at_other m wy (link b) (link_word s c y) (other_side s c y y) ∙ top.near;
                  far = at_other m1 (link_word s c x) (suc y) wy (λ q. other_side s c x y (sym q))
                      ∙ at_stored m wy (link b)
                      (omega (arith, word_in (opposite s) n c y small (below y py), sized));
                  in_near = kept r (λ i h. ⊎_elim (λ e. off i h (inl e))
                      (λ e. out.not_near (subst (Among r) e h))) top.in_near;
                  in_far = kept b (λ i h. ⊎_elim (λ e. inn.not_near (subst (Among b) e h))
                      (λ e. not_in i (inr (inl h)) e)) low.in_near;
                });
                in_far = kept a (λ i h. ⊎_elim (λ e. inn.not_far (subst (Among a) e h))
                    (λ e. not_in i (inr (inr h)) e)) low.in_far;
              });
        }

  module _ (P : ℕ → Type 0) (below : (i : ℕ) → P i → i < n) where
    pub turn_relinks : (s : Side) (j k : Bool) (t : ColouredTree)
        → ((i : ℕ) → Among (shape t) i → P i) → IsSeparate (shape t)
        → Relinks n c P (shape t) (shape (turned s j k t)) (turn_links s c t)
    turn_relinks s j k tip within sep = same P none within sep
    turn_relinks Left j k (branch red l y tip) within sep =
        same P (shape (branch red l y tip)) within sep
    turn_relinks Left j k (branch red l y (branch q a x b)) within sep =
        turn P below Left (shape l) (shape a) (shape b) x.node y.node within sep
    turn_relinks Right j k (branch red tip y r) within sep =
        same P (shape (branch red tip y r)) within sep
    turn_relinks Right j k (branch red (branch q a x b) y r) within sep =
        turn P below Right (shape r) (shape b) (shape a) x.node y.node within sep

    -- a change in one subtree alone
    in_side : (s : Side) (l : Nodes) (y : ℕ) (r : Nodes)
        → ((i : ℕ) → Among (forked s l y r) i → P i) → IsSeparate (forked s l y r)
        → (u : Nodes) (ss : List Store) → Relinks n c (Among l) l u ss
        → Relinks n c P (forked s l y r) (forked s u y r) (ss ++ relink s c y (link l) (link u))
    in_side s l y r within sep u ss q =
        let a = apart_on s l y r sep in
        step P below y (within y (on_among s l y r y (inl refl))) s (Among l)
        (λ i h. within i (on_among s l y r i (inr (inl h)))) a.not_near l u r ss (λ i h g.
        a.apart i g h) (λ i h. within i (on_among s l y r i (inr (inr h)))) a.not_far a.far q

    pub in_sided : (s : Side) (j k : Bool) (l : ColouredTree) (y : Record) (r : ColouredTree)
        → ((i : ℕ) → Among (shape (sided s j l y r)) i → P i) → IsSeparate (shape (sided s j l y r))
        → (u : ColouredTree) (ss : List Store)
        → Relinks n c (Among (shape l)) (shape l) (shape u) ss
        → Relinks n c P (shape (sided s j l y r)) (shape (sided s k u y r))
        (ss ++ relink s c y.node (link (shape l)) (link (shape u)))
    in_sided Left j k l y r within sep u ss q =
        in_side Left (shape l) y.node (shape r) within sep (shape u) ss q
    in_sided Right j k l y r within sep u ss q =
        in_side Right (shape l) y.node (shape r) within sep (shape u) ss q

    pub in_far : (s : Side) (j k : Bool) (l : ColouredTree) (y : Record) (r : ColouredTree)
        → ((i : ℕ) → Among (shape (sided s j l y r)) i → P i) → IsSeparate (shape (sided s j l y r))
        → (u : ColouredTree) (ss : List Store)
        → (((i : ℕ) → Among (shape r) i → P i) → IsSeparate (shape r)
        → Relinks n c (Among (shape r)) (shape r) (shape u) ss)
        → Relinks n c P (shape (sided s j l y r)) (shape (sided s k l y u))
        (ss ++ relink (opposite s) c y.node (link (shape r)) (link (shape u)))
    in_far Left j k l y r within sep u ss q = in_side Right (shape r) y.node (shape l) within sep
        (shape u) ss (q (λ i a. within i (inr (inr a))) sep.4)
    in_far Right j k l y r within sep u ss q = in_side Left (shape r) y.node (shape l) within sep
        (shape u) ss (q (λ i a. within i (inr (inl a))) sep.3)

pub shape_recoloured : (s : Side) (l : ColouredTree) (y : Record) (r : ColouredTree)
    → shape (sided s true (blackened l) y (blackened r)) ≡ shape (sided s false l y r)
shape_recoloured Left l y r = ap (λ t. fork t y.node (shape (blackened r))) (shape_blackened l)
    ∙ ap (λ t. fork (shape l) y.node t) (shape_blackened r)
shape_recoloured Right l y r = ap (λ t. fork t y.node (shape (blackened l))) (shape_blackened r)
    ∙ ap (λ t. fork (shape r) y.node t) (shape_blackened l)
