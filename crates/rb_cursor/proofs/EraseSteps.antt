-- The way up of an erase, as the calls of a cursor show it.
use Rattle.rb_cursor.proofs.Words.{◌≡◌, ℕ, suc, ◌+◌, ◌≤◌, ◌<◌, Bool, true, false, List, [], ◌∷◌}
use Rattle.rb_cursor.proofs.Words.{◌++◌, refl, sym, ◌∙◌, ap, subst, arith, length, length-append}
use Rattle.rb_cursor.proofs.Words.{append_assoc, append-nil, Store, Record, ColouredTree, shape}
use Rattle.rb_cursor.proofs.Words.{sided, link, relink, moved, filled, fill_links, Above, plugged}
use Rattle.rb_cursor.proofs.Words.{Lost, link_sided, moved_one, not_moved, relink_moved, Filling}
use Rattle.rb_cursor.proofs.Words.{filling, filled_sided, fill_links_sided, at_side, kept_up}
use Rattle.rb_cursor.proofs.Words.{kept_still, lost_kept, kept_lost, lost_filled, Nearest, Zipper}
use Rattle.rb_cursor.proofs.Words.{holding, IsNearest, risen, closed_to, most_on_climb, Climbs}
use Rattle.rb_cursor.proofs.Words.{nat_tests}
use Rattle.rb_cursor.proofs.StepLemmas.{zipper, above_of, risen_there, closed_past}

-- a part of a path above which some nodes stand has a first node, where there are more
pub record HasFirst (part base : List Above) (a : Above) (rest : List Above) : Type 0 where
  pub later : List Above
  pub is : part ≡ a ∷ later
  pub rest_is : rest ≡ later ++ base

has_first : (part base : List Above) (a : Above) (rest : List Above) → part ++ base ≡ a ∷ rest
    → length base ≤ length rest → HasFirst part base a rest
has_first [] base a rest e le = absurd (omega (arith, ap length e, le))
has_first (b ∷ part) base a rest e le =
    let first : b ≡ a = cc in
    let others : part ++ base ≡ rest = cc in
    record { later = part; is = ap (λ z. z ∷ part) first; rest_is = sym others }

has_none : (part base : List Above) → length (part ++ base) ≤ length base → part ≡ []
has_none [] base le = refl
has_none (a ∷ part) base le = absurd (omega (arith, le, length-append part base))

-- the tree in hand below a part of the path, with the stores so far
pub record IsLostHere (copy : ℕ) (gone : List ℕ) (whole : ColouredTree) (rs : List Record)
    (base : List Above) (here : Zipper) (before : ℕ) (short : Bool) (ss : List Store) : Type 0 where
  pub part : List Above
  pub was : ColouredTree
  pub path : here.path ≡ part ++ base
  pub from : before ≡ link (shape was)
  pub lost : Lost copy gone whole rs part was here.tree ss short

-- whatever it stood for at the start
module _ (copy depth from0 : ℕ) (short0 : Bool) (start : Zipper) where
  abbrev pub FromStart : Zipper → ℕ → Bool → List Store → Type 0
  FromStart here before short links =
      (part base : List Above) (whole was : ColouredTree) (rs : List Record) (gone : List ℕ)
      (ss : List Store) → start.path ≡ part ++ base → depth ≡ length base →
      from0 ≡ link (shape was) → Lost copy gone whole rs part was start.tree ss short0
      → IsLostHere copy gone whole rs base here before short (ss ++ links)

  -- what the loop knows of the tree in hand
  pub record EraseRises (first : List Store) (here : Zipper) (before after : ℕ) (short : Bool)
      (now : List Store) : Type 0 where
    pub links : List Store
    pub stores : now ≡ first ++ links
    pub linked : after ≡ link (shape here.tree)
    pub few : length links + moved before after ≤ most_on_climb short0
    pub low : short ≡ true → length links + moved before after ≤ 1
    pub was_short : short ≡ true → short0 ≡ true
    pub rises : FromStart here before short links

  -- and where it has ended
  abbrev pub EraseEnds : List Store → Zipper → Bool → List Store → Type 0
  EraseEnds first new short now = (links : List Store) × (now ≡ first ++ links)
      × Climbs copy depth from0 short0 start new short links

module _ {copy depth from0 : ℕ} {short0 : Bool} {start : Zipper} where
  -- one step up
  module _ {first : List Store} {here : Zipper} {before after : ℕ} {short : Bool} {now : List Store}
      (is : EraseRises copy depth from0 short0 start first here before after short now)
      {up : Nearest} (near : IsNearest here.path up) (more : depth < length here.path) where
    abbrev relinked : List Store
    relinked = relink up.side copy up.node before after

    abbrev pub there : ColouredTree
    there = sided up.side up.red here.tree near.row near.other

    pub there_is : {z : Zipper} → z ≡ risen here
        → z ≡ zipper (sided up.side up.red here.tree near.row near.other) near.rest here.room
    there_is rises = rises ∙ risen_there here up near

    pub relink_fits : length (relink up.side copy up.node before after) ≡ moved before after
    relink_fits = relink_moved up.side copy up.node before after

    stored : {now1 : List Store} → now1 ≡ now ++ relinked → now1 ≡ first ++ (is.links ++ relinked)
    stored e = e ∙ ap (λ ss. ss ++ relinked) is.stores ∙ append_assoc first is.links relinked

    longer : length (is.links ++ relinked) ≡ length is.links + moved before after
    longer = length-append is.links relinked ∙ ap (λ n. length is.links + n) relink_fits

    -- the node above is the first of the part
    module _ {gone : List ℕ} {whole : ColouredTree} {rs : List Record} {base : List Above}
        (ss : List Store) (deep : depth ≡ length base)
        (l : IsLostHere copy gone whole rs base here before short (ss ++ is.links)) where
      part_first : HasFirst l.part base (above_of up near) near.rest
      part_first = grind (arith, nat_tests, has_first, above_of)

      lost_first : Lost copy gone whole rs (at_side up.side up.red near.row near.other
          ∷ part_first.later) l.was here.tree (ss ++ is.links) short
      lost_first = subst (λ p. Lost copy gone whole rs p l.was here.tree (ss ++ is.links) short)
          part_first.is l.lost

      relinked_is : relinked
          ≡ relink up.side copy near.row.node (link (shape l.was)) (link (shape here.tree))
      relinked_is = grind (arith, nat_tests)

      stores_are : (ts : List Store) → (((ss ++ is.links)
          ++ relink up.side copy near.row.node (link (shape l.was)) (link (shape here.tree))) ++ ts)
          ≡ ss ++ ((is.links ++ relinked) ++ ts)
      stores_are ts = grind (arith, nat_tests, relinked_is, append_assoc)

    fills : Filling near.row 8 (filled up.side there) (fill_links up.side copy there)
    fills = subst (λ r. Filling near.row 8 r (fill_links up.side copy there))
        (sym (filled_sided up.side up.red here.tree near.row near.other))
        (subst (Filling near.row 8 _)
        (sym (fill_links_sided up.side copy up.red here.tree near.row near.other))
        (filling copy up.side up.red here.tree near.row near.other))

    -- where it is short, the node above is filled
    pub fill_fits : short ≡ true → {z : Zipper} → z ≡ risen here
        → length is.links + moved before after + length (fill_links up.side copy z.tree) ≤ 9
    fill_fits full rises = omega (
      arith,
      is.low full,
      ap (λ y. length (fill_links up.side copy y.tree)) (there_is rises),
      fills.few,
    )

    pub erase_filled : short ≡ true → {z : Zipper} → z ≡ risen here → {y : Zipper}
        → y ≡ holding (filled up.side z.tree).tree z → {left_short : Bool}
        → left_short ≡ (filled up.side z.tree).short
        → {now1 now2 : List Store} → now1 ≡ now ++ relink up.side copy up.node before after
        → now2 ≡ now1 ++ fill_links up.side copy z.tree → {link_now : ℕ}
        → link_now ≡ link (shape y.tree)
        → EraseRises copy depth from0 short0 start first y (up.node + 1) link_now left_short now2
    erase_filled full {z = z} rises {y = y} holds {left_short = left_short} shorts {now1 = now1}
        {now2 = now2} e f {link_now = link_now} ls =
        let z_is = there_is rises in
        let r = filled up.side there in
        let ts = fill_links up.side copy there in
        let y_is : y ≡ zipper r.tree near.rest here.room =
        holds ∙ ap (λ q. holding (filled up.side q.tree).tree q) z_is in
        let short_is : left_short ≡ r.short =
        shorts ∙ ap (λ q. (filled up.side q.tree).short) z_is in
        let node : up.node + 1 ≡ suc near.row.node = omega (arith, near.node) in
        let size : length ((is.links ++ relinked) ++ ts)
        ≡ length is.links + moved before after + length ts =
        length-append (is.links ++ relinked) ts ∙ ap (λ n. n + length ts) longer in
        let ten : most_on_climb short0 ≡ 10 = ap most_on_climb (is.was_short full) in
        record {
          links = (is.links ++ relinked) ++ ts;
          stores = f ∙ ap (λ q. now1 ++ fill_links up.side copy q.tree) z_is
              ∙ ap (λ qs. qs ++ ts) (stored e) ∙ append_assoc first (is.links ++ relinked) ts;
          linked = ls;
          few = omega (arith, size, is.low full, fills.few, moved_one (up.node + 1) link_now, ten);
          low = λ s.
              let n = fills.none (sym short_is ∙ s) in
              let none : moved (up.node + 1) link_now ≡ 0 = not_moved (up.node + 1) link_now
              (node ∙ sym n.1 ∙ ap (λ q. link (shape q.tree)) (sym y_is) ∙ sym ls) in
              omega (arith, size, is.low full, n.0, none);
          was_short = λ _. is.was_short full;
          rises = λ part base whole was rs gone ss path deep from lost.
              let l = is.rises part base whole was rs gone ss path deep from lost in
              let p = part_first ss deep l in
              let g = subst (Lost copy gone whole rs (at_side up.side up.red near.row near.other
              ∷ p.later) l.was here.tree (ss ++ is.links)) full (lost_first ss deep l) in
              record {
                part = p.later;
                was = sided up.side up.red l.was near.row near.other;
                path = ap (λ q. q.path) y_is ∙ p.rest_is;
                from = node ∙ sym (link_sided up.side up.red l.was near.row near.other);
                lost =
                    subst (λ q. Lost copy gone whole rs p.later (sided up.side up.red l.was near.row
                    near.other) q.tree (ss ++ ((is.links ++ relinked) ++ ts)) left_short) (sym y_is)
                    (subst (λ b. Lost copy gone whole rs p.later
                    (sided up.side up.red l.was near.row near.other) r.tree
                    (ss ++ ((is.links ++ relinked) ++ ts)) b) (sym short_is)
                    (subst (λ qs. Lost copy gone whole rs p.later
                    (sided up.side up.red l.was near.row near.other) r.tree qs r.short)
                    (stores_are ss deep l ts)
                    (lost_filled up.side up.red near.row near.other p.later g)));
              };
        }

    -- where it is not, nothing changes above
    pub erase_stays : short ≡ false → {z : Zipper} → z ≡ risen here → {now1 : List Store}
        → now1 ≡ now ++ relink up.side copy up.node before after → {new : Zipper}
        → new ≡ closed_to depth z.tree z.path z.room
        → EraseEnds copy depth from0 short0 start first new short now1
    erase_stays whole_now {z = z} rises {now1 = now1} e {new = new} closes =
        let z_is = there_is rises in (
          is.links ++ relinked,
          stored e,
          record {
            few = omega (arith, longer, is.few);
            climbs = λ part base whole was rs gone ss path deep from lost.
                let l = is.rises part base whole was rs gone ss path deep from lost in
                let p = part_first ss deep l in
                let k = kept_up (above_of up near) p.later (lost_kept (subst
                (Lost copy gone whole rs (at_side up.side up.red near.row near.other ∷ p.later)
                l.was here.tree (ss ++ is.links)) whole_now (lost_first ss deep l))) in
                let still =
                kept_still p.later k (link_sided up.side up.red l.was near.row near.other
                ∙ sym (link_sided up.side up.red here.tree near.row near.other)) in
                let whole_is : plugged p.later (sided up.side up.red l.was near.row near.other)
                ≡ whole = (still.0).replaced.old in
                let new_is : new ≡ zipper (plugged p.later there) base here.room =
                closes ∙ ap (λ q. closed_to depth q.tree q.path q.room) z_is
                ∙ ap (λ q. closed_to depth there q here.room) p.rest_is
                ∙ ap (λ d. closed_to d there (p.later ++ base) here.room) deep
                ∙ closed_past p.later base there here.room in
                let stores : (ss ++ is.links) ++ relink up.side copy near.row.node
                (link (shape l.was)) (link (shape here.tree)) ≡ ss ++ (is.links ++ relinked) =
                ap (λ qs. (ss ++ is.links) ++ qs) (sym (relinked_is ss deep l))
                ∙ append_assoc ss is.links relinked in
                let none : moved (link (shape whole)) (link (shape new.tree)) ≡ 0 =
                not_moved (link (shape whole)) (link (shape new.tree)) (ap (λ t. link (shape t))
                (sym whole_is) ∙ still.1 ∙ ap (λ q. link (shape q.tree)) (sym new_is)) in (
                  subst (λ q. Lost copy gone whole rs [] whole q.tree (ss ++ (is.links ++ relinked))
                      short) (sym new_is)
                      (subst (λ b. Lost copy gone whole rs [] whole (plugged p.later there)
                      (ss ++ (is.links ++ relinked)) b) (sym whole_now)
                      (subst (λ qs.
                      Lost copy gone whole rs [] whole (plugged p.later there) qs false) stores
                      (subst (λ t. Lost copy gone whole rs [] t (plugged p.later there)
                      ((ss ++ is.links) ++ relink up.side copy near.row.node
                      (link (shape l.was)) (link (shape here.tree))) false) whole_is
                      (kept_lost still.0)))),
                  ap (λ q. q.path) new_is,
                  omega (arith, longer, is.few, none),
                  λ s. absurd (let f : true ≡ false = sym s ∙ whole_now in cc),
                );
          },
        )

  -- at the depth the way has ended, too
  pub erase_arrived : {first : List Store} {here : Zipper} {before after : ℕ} {short : Bool}
      {now : List Store}
      → EraseRises copy depth from0 short0 start first here before after short now
      → length here.path ≤ depth
      → {new : Zipper} → new ≡ closed_to depth here.tree here.path here.room
      → EraseEnds copy depth from0 short0 start first new short now
  erase_arrived {here = here} {before = before} {after = after} {short = short} is there {new = new}
      closes = (
        is.links,
        is.stores,
        record {
          few = omega (arith, is.few);
          climbs = λ part base whole was rs gone ss path deep from lost.
              let l = is.rises part base whole was rs gone ss path deep from lost in
              let none : l.part ≡ [] =
              has_none l.part base (omega (arith, ap length l.path, there, deep)) in
              let here_is : here.path ≡ base = l.path ∙ ap (λ p. p ++ base) none in
              let new_is : new ≡ zipper here.tree base here.room =
              closes ∙ ap (λ p. closed_to depth here.tree p here.room) here_is
              ∙ ap (λ d. closed_to d here.tree base here.room) deep
              ∙ closed_past [] base here.tree here.room in
              let at : Lost copy gone whole rs [] l.was here.tree (ss ++ is.links) short = subst
              (λ p. Lost copy gone whole rs p l.was here.tree (ss ++ is.links) short) none l.lost in
              let whole_is : l.was ≡ whole = at.replaced.old in
              let same : moved (link (shape whole)) (link (shape new.tree)) ≡ moved before after =
              ap (λ q. moved (link (shape whole)) (link (shape q.tree))) new_is
              ∙ ap (λ n. moved (link (shape whole)) n) (sym is.linked)
              ∙ ap (λ t. moved (link (shape t)) after) (sym whole_is)
              ∙ ap (λ b. moved b after) (sym l.from) in (
                subst (λ q. Lost copy gone whole rs [] whole q.tree (ss ++ is.links) short)
                    (sym new_is)
                    (subst (λ t. Lost copy gone whole rs [] t here.tree (ss ++ is.links) short)
                    whole_is
                    at),
                ap (λ q. q.path) new_is,
                omega (arith, is.few, same),
                λ s. omega (arith, is.low s),
              );
        },
      )
