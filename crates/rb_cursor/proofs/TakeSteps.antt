-- How a node is taken out, as the calls of a cursor show it.
use Rattle.rb_cursor.proofs.Words.{not, Ordering, ◌≡◌, ℕ, ◌+◌, ◌≤◌, ◌<◌, Bool, true, false, List}
use Rattle.rb_cursor.proofs.Words.{[], ◌∷◌, ◌++◌, refl, sym, ◌∙◌, ap, subst, arith, length}
use Rattle.rb_cursor.proofs.Words.{length-append, append-nil, Some, None, Store, Record, Left}
use Rattle.rb_cursor.proofs.Words.{Right, ColouredTree, tip, branch, is_red, shape, rows, depth}
use Rattle.rb_cursor.proofs.Words.{IsRedBlack, set_link, link, relink_root, moved, lowered, filled}
use Rattle.rb_cursor.proofs.Words.{fill_links, found, Lead, Above, plugged, first_place, first_way}
use Rattle.rb_cursor.proofs.Words.{place_at, way_at, Lost, Nothing, short_first, short_to}
use Rattle.rb_cursor.proofs.Words.{plugged_to, filling, around, replaced_lead, lost_good, Zipper}
use Rattle.rb_cursor.proofs.Words.{closed_zipper, record_of, IsForked, OpensSide, is_fork, row_of}
use Rattle.rb_cursor.proofs.Words.{with_row, HasOneSubtree, only_subtree, most_on_climb, Climbs}
use Rattle.rb_cursor.proofs.Words.{TakesFirst, TakesTop, nat_tests}
use Rattle.rb_trees.proofs.TopLemmas.{first_way_on, first_lost, first_rows, lone_lost, next_kept}
use Rattle.rb_trees.proofs.TopLemmas.{next_filled}
use Rattle.rb_cursor.specs.declared.nodes.Top.{Top}
use Rattle.rb_cursor.specs.declared.readings.Fork.{Fork}
use Rattle.rb_cursor.proofs.StepLemmas.{zipper}

pub row_link : (t : ColouredTree) (x : Record) → row_of t ≡ Some x → x.node + 1 ≡ link (shape t)
row_link tip x e = absurd (cc)
row_link (branch red l y r) x e = grind (arith, nat_tests)

-- the first node has no left subtree
pub record HasFirstNode (t : ColouredTree) : Type 0 where
  pub red : Bool
  pub row : Record
  pub right : ColouredTree
  pub is : first_place t ≡ branch red tip row right

pub first_node : (t : ColouredTree) → is_fork t ≡ true → HasFirstNode t
first_node tip e = absurd (cc)
first_node (branch red tip y r) e = record { red = red; row = y; right = r; is = refl }
first_node (branch red (branch k a x b) y r) e = let f = first_node (branch k a x b) refl in
    record { red = f.red; row = f.row; right = f.right; is = f.is }

module _ (t : ColouredTree) (fork : is_fork t ≡ true) where
  pub first_some : row_of (first_place t) ≡ None → ⊥
  first_some none = let e = ap row_of (first_node t fork).is in absurd (cc)

  pub first_thin : {u : ColouredTree} → u ≡ first_place t → HasOneSubtree u
  first_thin there = subst HasOneSubtree (sym (there ∙ (first_node t fork).is)) tt

  pub first_few : (from : List Above) {path : List Above} → path ≡ first_way t from
      → depth (shape t) + length from ≤ 64 → length path < 64
  first_few from goes few =
      omega (
        arith,
        ap length goes,
        short_first t from,
        ap (λ v. depth (shape v)) (first_node t fork).is,
        few,
      )

  -- taken out, and the climb to where the way down began
  module _ (copy d : ℕ) (from : List Above) (begun : d ≡ length from) (left : Zipper)
      (place taken : ColouredTree) {red short : Bool} {row : Record}
      (there : place ≡ first_place t) (goes : left.path ≡ first_way t from)
      (rows_is : row_of place ≡ Some row) (reds : red ≡ is_red place)
      (takes : taken ≡ only_subtree place) (lefts : left.tree ≡ (lowered red taken).tree)
      (shorts : short ≡ (lowered red taken).short) where
    first_is : row ≡ (first_node t fork).row
    first_is = grind (arith, nat_tests, first_node, row)

    lowered_is : lowered red taken ≡ lowered (first_node t fork).red (first_node t fork).right
    lowered_is = grind (arith, nat_tests, first_node)

    pub first_taken : {new : Zipper} {after : Bool} {links : List Store}
        → Climbs copy d (row.node + 1) short left new after links
        → TakesFirst copy t new.tree row after links × (new.path ≡ from)
    first_taken {new = new} {after = after} {links = links} cl =
        let f = first_node t fork in
        let l = lowered f.red f.right in
        let rs = rows (plugged (first_way t []) l.tree) in
        let c = cl.climbs (first_way t []) from t (branch f.red tip f.row f.right) rs
        (f.row.node ∷ []) [] (goes ∙ first_way_on t from) begun
        (row_link (branch f.red tip f.row f.right) row (ap Some (sym first_is)))
        (subst (λ v. Lost copy (f.row.node ∷ []) t rs (first_way t [])
        (branch f.red tip f.row f.right) v [] short) (sym (lefts ∙ ap (λ r. r.tree) lowered_is))
        (subst (λ b. Lost copy (f.row.node ∷ []) t rs (first_way t [])
        (branch f.red tip f.row f.right) l.tree [] b)
        (sym (shorts ∙ ap (λ r. r.short) lowered_is))
        (first_lost copy t f.red f.row f.right f.is))) in
        let order : rows new.tree ≡ rs = (c.0).replaced.in_order in (
          record {
            in_order = subst (λ x. rows t ≡ x ∷ rows new.tree) (sym first_is)
                (first_rows copy t f.red f.row f.right f.is order);
            lost = subst (λ x. Lost copy (x.node ∷ []) t (rows new.tree) [] t new.tree links after)
                (sym first_is)
                (subst (λ zs. Lost copy (f.row.node ∷ []) t zs [] t new.tree links after)
                (sym order) c.0);
            few = omega (arith, cl.few, most_ten short);
            fewer = c.3;
          },
          c.1,
        )
      where
        most_ten : (b : Bool) → most_on_climb b ≤ 10
        most_ten true = omega arith
        most_ten false = omega arith

-- a node read and opened is the same node
pub same_fork : {old opened : Zipper} {top : Top} {f : Fork} → IsForked old.tree f
    → (is : OpensSide Right old opened top)
    → (f.node.now.red ≡ top.red) × (f.left ≡ is.other) × (f.right ≡ opened.tree)
same_fork {opened = opened} {top = top} {f = f} g is = grind (arith, nat_tests)

tip_there : (t : ColouredTree) → true ≡ not (is_fork t) → t ≡ tip
tip_there tip e = refl
tip_there (branch red l x r) e = absurd (cc)

-- a node with no right subtree
pub lone_taken : (copy : ℕ) {t : ColouredTree} {f : Fork} → IsForked t f → true
    ≡ not (is_fork f.right) → {taken left : ColouredTree} {short : Bool} → taken ≡ only_subtree t
    → left ≡ (lowered f.node.now.red taken).tree → short ≡ (lowered f.node.now.red taken).short
    → TakesTop copy t left short []
lone_taken copy {t = t} {f = f} g none {taken = taken} {left = left} {short = short} takes lefts
    shorts =
    let red = f.node.now.red in
    let l = f.left in
    let x = record_of f.node.now in
    let t_is : t ≡ branch red l x tip = g.was ∙ ap (branch red l x) (tip_there f.right none) in
    let low : lowered red taken ≡ lowered red l =
    ap (lowered red) (takes ∙ ap only_subtree t_is ∙ only_lone red l x) in
    subst (λ v. TakesTop copy v left short []) (sym t_is)
    (subst (λ v. TakesTop copy (branch red l x tip) v short []) (sym (lefts ∙ ap (λ r. r.tree) low))
    (subst (λ b. TakesTop copy (branch red l x tip) (lowered red l).tree b [])
    (sym (shorts ∙ ap (λ r. r.short) low)) (record {
      row = x;
      front = rows l;
      back = [];
      top = refl;
      was = refl;
      lost = lone_lost copy red l x;
      few = omega arith;
      fewer = λ e. omega arith;
    })))
  where
    only_lone : (red : Bool) (l : ColouredTree) (x : Record) → only_subtree (branch red l x tip) ≡ l
    only_lone red tip x = refl
    only_lone red (branch k a y b) x = refl

-- the next node in the place of one with a right subtree
module _ (copy : ℕ) {old opened : Zipper} {top : Top} (is : OpensSide Right old opened top)
    {next : Record} {taken : ColouredTree} {short : Bool} {links : List Store}
    (first : TakesFirst copy opened.tree taken next short links) where
  abbrev replaced : ColouredTree
  replaced = branch top.red is.other next taken

  abbrev two : List Store
  two = set_link Left copy next.node (link (shape is.other))
      ∷ set_link Right copy next.node (link (shape taken)) ∷ []

  pub next_placed : {room : ℕ} {red : Bool} → red ≡ top.red → {path : List Above}
      → path ≡ opened.path → {up : Zipper} → up ≡ closed_zipper red taken path room
      → {z : Zipper} → z ≡ record up { tree = with_row next up.tree }
      → z ≡ zipper (branch top.red is.other next taken) old.path room
  next_placed {room = room} {red = red} reds goes closes places = grind (arith, nat_tests, zipper)

  longer : length (links ++ two) ≡ length links + 2
  longer = length-append links two

  pub next_taken : short ≡ false → TakesTop copy old.tree replaced false (links ++ two)
  next_taken whole =
      subst (λ v. TakesTop copy v replaced false (links ++ two)) (sym is.was) (record {
        row = is.row;
        front = rows is.other;
        back = rows opened.tree;
        top = refl;
        was = refl;
        lost = next_kept copy top.red is.other is.row opened.tree next taken links first.in_order
            (subst (Lost copy (next.node ∷ []) opened.tree (rows taken) [] opened.tree taken links)
            whole first.lost);
        few = omega (arith, longer, first.few);
        fewer = λ e. absurd (cc);
      })

  pub next_filled_up : short ≡ true → TakesTop copy old.tree (filled Right replaced).tree
      (filled Right replaced).short ((links ++ two) ++ fill_links Right copy replaced)
  next_filled_up full =
      let v = filled Right replaced in
      let ts = fill_links Right copy replaced in
      let fills = filling copy Right top.red taken next is.other in
      let sum : length ((links ++ two) ++ ts) ≡ (length links + 2) + length ts =
      length-append (links ++ two) ts ∙ ap (λ n. n + length ts) longer in
      subst (λ w. TakesTop copy w v.tree v.short ((links ++ two) ++ ts)) (sym is.was) (record {
        row = is.row;
        front = rows is.other;
        back = rows opened.tree;
        top = refl;
        was = refl;
        lost = next_filled copy top.red is.other is.row opened.tree next taken links first.in_order
            (subst (Lost copy (next.node ∷ []) opened.tree (rows taken) [] opened.tree taken links)
            full first.lost);
        few = omega (arith, sum, first.fewer full, fills.few);
        fewer = λ e. omega (arith, sum, first.fewer full, (fills.none e).0);
      })

-- the record that is found is that of the node there
pub found_there : (seen : Record → Ordering) (t : ColouredTree)
    → found seen t ≡ row_of (place_at seen t)
found_there seen tip = refl
found_there seen (branch red l y r) =
    grind (arith, nat_tests, found_there seen l, found_there seen r)

-- what an erase makes of the whole tree
pub record ErasedWhole (copy : ℕ) (t : ColouredTree) (row : Record) (new : Zipper)
    (links : List Store) : Type 0 where
  pub front : List Record
  pub back : List Record
  pub was : rows t ≡ front ++ row ∷ back
  pub now : rows new.tree ≡ front ++ back
  pub good : IsRedBlack t → IsRedBlack new.tree
  pub path : new.path ≡ []
  pub lead : Lead Nothing copy (shape t) (shape new.tree)
      (links ++ relink_root copy (link (shape t)) (link (shape new.tree)))
  pub few : length links + moved (link (shape t)) (link (shape new.tree)) ≤ 13

module _ (seen : Record → Ordering) (t : ColouredTree) {from path : List Above}
    (goes : path ≡ way_at seen t from) (top : from ≡ []) where
  way_there : path ≡ way_at seen t []
  way_there = goes ∙ ap (way_at seen t) top

  pub place_few : length path + depth (shape (place_at seen t)) ≤ depth (shape t)
  place_few = omega (arith, ap length way_there, short_to seen t [])

  pub place_fewer : {x : Record} → row_of (place_at seen t) ≡ Some x → length path < depth (shape t)
  place_fewer {x = x} there = omega (arith, place_few, deep (place_at seen t) x there)
    where
      deep : (t : ColouredTree) (x : Record) → row_of t ≡ Some x → 1 ≤ depth (shape t)
      deep tip x e = absurd (cc)
      deep (branch red l y r) x e = omega arith

  pub erased_whole : (copy : ℕ) {place : ColouredTree} → place ≡ place_at seen t → {row : Record}
      → row_of place ≡ Some row → {left new : Zipper} → left.path ≡ path
      → {short after : Bool} {links more : List Store}
      → TakesTop copy place left.tree short links
      → Climbs copy 0 (row.node + 1) short left new after more
      → ErasedWhole copy t row new (links ++ more)
  erased_whole copy {place = place} there {row = row} rows_is {left = left} {new = new} stays
      {short = short} {after = after} {links = links} {more = more} takes cl =
      let row_is : takes.row ≡ row =
      (let e : Some takes.row ≡ Some row = sym takes.top ∙ rows_is in cc) in
      let a = around path takes.front takes.back in
      let whole : plugged path place ≡ t = ap (plugged path) there
      ∙ ap (λ p. plugged p (place_at seen t)) way_there ∙ plugged_to seen t [] in
      let c = cl.climbs path [] t place (a.front ++ a.back) [] links (stays ∙ sym (append-nil path))
      refl (row_link place row rows_is) (record {
        replaced = record {
          old = whole;
          in_order = a.without_row left.tree takes.lost.replaced.in_order;
          gone_here = takes.lost.replaced.gone_here;
          links = takes.lost.replaced.links;
        };
        fits = takes.lost.fits;
      }) in
      record {
        front = a.front;
        back = a.back;
        was = ap rows (sym whole)
            ∙ a.with_row row place (takes.was ∙ ap (λ x. takes.front ++ x ∷ takes.back) row_is);
        now = (c.0).replaced.in_order;
        good = lost_good c.0;
        path = c.1;
        lead = replaced_lead (c.0).replaced new.tree refl;
        few = sum_fits short (length links) (length more)
            (moved (link (shape t)) (link (shape new.tree))) (length-append links more) takes.few
            takes.fewer c.2;
      }
    where
      sum_fits : (b : Bool) (k m j : ℕ) {n : ℕ} → n ≡ k + m → k ≤ 12 → (b ≡ true → k ≤ 3)
          → m + j ≤ most_on_climb b → n + j ≤ 13
      sum_fits true k m j e a f g = omega (arith, e, f refl, g)
      sum_fits false k m j e a f g = omega (arith, e, a, g)
