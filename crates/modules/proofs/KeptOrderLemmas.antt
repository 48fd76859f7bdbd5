-- The modules in the order of their first kept lines are those of the lines.
use Rattle.modules.proofs.Words.{◌≡◌, ◌≢◌, ℕ, ◌-◌, ◌^◌, ◌<◌, Bool, true, false, ◌||◌, nat_lt}
use Rattle.modules.proofs.Words.{nat_eq, cond, List, [], ◌∷◌, ◌++◌, get_or, map, Option, Some, None}
use Rattle.modules.proofs.Words.{refl, sym, ap, subst, ◌∙◌, arith, All, IfSome, filter, fold}
use Rattle.modules.proofs.Words.{flat_map, list_any, option_map_or, option_to_list, bytes_eq}
use Rattle.modules.proofs.Words.{bytes_decides, rules, common_steps, nat_tests}
use Rattle.modules.proofs.Lemmas.{and_parts, false_from_ne_true, eq-eqb, eqb-true, ltb-true}
use Rattle.modules.proofs.Lemmas.{map-append, All-cons, All-filter, All-head, All-map, All-nil}
use Rattle.modules.proofs.Lemmas.{All-push, All-tail, begins, ends, look_is, find-passes}
use Rattle.modules.proofs.Lemmas.{is_some-position_from}
use Rattle.modules.proofs.Definitions.{Item, half_open, look, HasItsRegions, IsFromSymbols}
use Rattle.modules.proofs.Definitions.{is_kept_line, with_name, is_built_in, accepted_with}
use Rattle.modules.proofs.Definitions.{AreNamed, HasFirstLine, HaveFirstLines, is_kept_mark}
use Rattle.modules.proofs.Definitions.{kept_numbers, kernel_marks, mark_of, marks_of}
use Rattle.modules.proofs.Definitions.{modules_numbered, name_of, number_for, number_in}
use Rattle.modules.proofs.Definitions.{with_number, built_in_region, kernel_regions, with_apart}
use Rattle.modules.proofs.Definitions.{BoundNames, ListedSymbol, numbered_module, AreRegions}
use Rattle.modules.proofs.Definitions.{HoldsFor, is_outside, posts, PlacedModule, Mark}
use Rattle.modules.proofs.LaidLemmas.{found}
use Rattle.modules.proofs.MarkedModuleLemmas.{its_regions}
use Rattle.modules.proofs.SpacedLemmas.{is_of, of_is}
use Rattle.modules.proofs.FilterLemmas.{all_passing}
use Rattle.modules.proofs.PostLemmas.{listed_found, marks_stand, number_names}

-- ---- the first lines of the kernel's regions

one_first_line : (names : BoundNames) (lines : List ListedSymbol)
    → IfSome (built_in_region names lines) (HasFirstLine lines)
one_first_line names lines =
    grind (arith, common_steps, nat_tests, ltb-true, listed_found, find-passes)

module _ (P : ℕ × ℕ → Type 0) where
  all_listed : (region : Option (ℕ × ℕ)) → IfSome region P → All P (option_to_list region)
  all_listed region its = grind (arith, All-nil, All-cons)

  all_with : (regions : List (ℕ × ℕ)) (region : Option (ℕ × ℕ)) → All P regions → IfSome region P
      → All P (with_apart regions region)
  all_with regions region all its = grind (arith, common_steps, nat_tests, All-push)

  all_or : (region : Option (ℕ × ℕ)) (rest : List (ℕ × ℕ)) → IfSome region P → All P rest
      → All P (option_map_or (λ r. r ∷ []) region rest)
  all_or region rest its all = grind (arith, All-cons, All-nil)

pub first_lines : (names : Option BoundNames) (lines : List ListedSymbol)
    → HaveFirstLines (kernel_regions names lines) lines
first_lines None lines = search (rules, all_or, one_first_line, all_with, All-nil)
first_lines (Some names) lines =
    all_listed (HasFirstLine lines) (built_in_region names lines) (one_first_line names lines)

-- ---- numbers

-- the number is that of a name among these
abbrev IsNumber : List (List ℕ) → ℕ → Type 0
IsNumber names n = (n ≢ 0) × (number_in names (name_of names n) ≡ n)

numbered : (names : List (List ℕ)) (name : List ℕ) → list_any (bytes_eq name) names ≡ true
    → number_in names name ≢ 0
numbered names name some = grind (arith, is_some-position_from (bytes_eq name) 0 names)

IsNumber-in : (names : List (List ℕ)) (name : List ℕ) → list_any (bytes_eq name) names ≡ true
    → IsNumber names (number_in names name)
IsNumber-in names name some = grind (arith, numbered, number_names)

-- ---- what is kept by the marks is what is kept by the lines

module _ (kernel : List (ℕ × ℕ)) (names : List (List ℕ)) (lines : List ListedSymbol)
    (items : List Item) (has : HaveFirstLines kernel lines)
    (regions : AreRegions (marks_of kernel names lines) items) where
  at_look : (n addr : ℕ) (o : Option Item) → look half_open addr items ≡ o
      → option_map_or (λ (i : Item). nat_eq i.tag n) o false ≡ true → HoldsFor items n addr
  at_look n addr o at h = grind (arith, look_is, eqb-true, begins, ends)

  by_look : (n addr : ℕ) → HoldsFor items n addr
      → option_map_or (λ (i : Item). nat_eq i.tag n) (look half_open addr items) false ≡ true
  by_look n addr h = grind (
    arith,
    eq-eqb,
    look_is half_open addr items,
    found items regions.laid h.item addr h.there h.from h.below (look half_open addr items)
        (look_is half_open addr items),
  )

  kept_same : (l : ListedSymbol) (name : List ℕ) → l.owner ≡ Some name
      → list_any (bytes_eq name) names ≡ true → l.addr < 2 ^ 64 - 1
      → is_kept_mark items (mark_of names l) ≡ is_kept_line (posts kernel lines) l
  kept_same l name own some lt =
      let n : ℕ = number_in names name in
      let stands = marks_stand names lines kernel n name has (numbered names name some) refl in
      grind (arith, common_steps, nat_tests, marks_stand, numbered, of_is, at_look, by_look, is_of)

  kernel_not_kept : (r : ℕ × ℕ) → is_kept_mark items (record { addr = r.0; owner = 0 }) ≡ false
  kernel_not_kept r = false_from_ne_true (is_kept_mark items (record { addr = r.0; owner = 0 }))
      (λ h. ((regions.exact 0 r.0).0 (at_look 0 r.0 (look half_open r.0 items) refl h)).1.some refl)

  -- ---- line by line

  abbrev kept_marks : List Mark → List ℕ
  kept_marks ms = map (λ (m : Mark). m.owner) (filter (is_kept_mark items) ms)

  abbrev kept_owners : List ListedSymbol → List (List ℕ)
  kept_owners ls = flat_map (λ (l : ListedSymbol). option_to_list l.owner)
      (filter (is_kept_line (posts kernel lines)) ls)

  abbrev posts_in : List ListedSymbol → List ListedSymbol
  posts_in ls = filter (λ l. is_built_in kernel l || is_outside kernel l) ls

  below_top : (l : ListedSymbol) → is_outside kernel l ≡ true → l.addr < 2 ^ 64 - 1
  below_top l h = ltb-true l.addr (2 ^ 64 - 1) (and_parts _ (nat_lt l.addr (2 ^ 64 - 1)) h).1

  -- one line more
  one_kept : (l : ListedSymbol) (b : Bool) (ns : List ℕ) (os : List (List ℕ)) (ms : List Mark)
      (ls : List ListedSymbol) (name : List ℕ) → l.owner ≡ Some name
      → list_any (bytes_eq name) names ≡ true
      → map (name_of names) (kept_marks ms) ≡ kept_owners ls
      → is_kept_mark items (mark_of names l) ≡ b → is_kept_line (posts kernel lines) l ≡ b
      → map (name_of names) (kept_marks (mark_of names l ∷ ms)) ≡ kept_owners (l ∷ ls)
  one_kept l b ns os ms ls name own some rest by_mark by_line =
      grind (arith, numbered, number_names)

  by_lines : (ls : List ListedSymbol) → AreNamed names ls
      → map (name_of names) (kept_marks (map (mark_of names) (filter (is_outside kernel) ls)))
      ≡ kept_owners (posts_in ls)
  by_lines [] all = refl
  by_lines (l ∷ ls) all = by l.owner refl (All-head (λ (t : ListedSymbol).
      option_map_or (λ name. list_any (bytes_eq name) names) t.owner true ≡ true) l ls all)
      (by_lines ls (All-tail (λ (t : ListedSymbol).
      option_map_or (λ name. list_any (bytes_eq name) names) t.owner true ≡ true) l ls all))
    where
      by : (o : Option (List ℕ)) → l.owner ≡ o
          → option_map_or (λ name. list_any (bytes_eq name) names) l.owner true ≡ true
          → map (name_of names) (kept_marks (map (mark_of names) (filter (is_outside kernel) ls)))
          ≡ kept_owners (posts_in ls) → map (name_of names)
          (kept_marks (map (mark_of names) (filter (is_outside kernel) (l ∷ ls))))
          ≡ kept_owners (posts_in (l ∷ ls))
      by None own some rest = grind arith
      by (Some name) own some rest = grind (
        arith,
        below_top l,
        kept_same l name own,
        one_kept l (is_kept_line (posts kernel lines) l) [] []
            (map (mark_of names) (filter (is_outside kernel) ls)) (posts_in ls) name own,
      )

  without_kernel : (k : List (ℕ × ℕ)) (ms : List Mark)
      → filter (is_kept_mark items) (kernel_marks k ++ ms) ≡ filter (is_kept_mark items) ms
  without_kernel [] ms = refl
  without_kernel (r ∷ rs) ms = grind (arith, kernel_not_kept, without_kernel rs ms)

  kept_names : AreNamed names lines → map (name_of names) (kept_marks (marks_of kernel names lines))
      ≡ kept_owners (posts kernel lines)
  kept_names all = grind (arith, without_kernel, by_lines)

  good_lines : (ls : List ListedSymbol) → AreNamed names ls → All
      (λ (m : Mark). IsNumber names m.owner) (map (mark_of names) (filter (is_outside kernel) ls))
  good_lines ls all = All-map (λ (m : Mark). IsNumber names m.owner) (mark_of names)
      (filter (is_outside kernel) ls) (all_passing (is_outside kernel)
      (λ (l : ListedSymbol). IsNumber names (number_for names l.owner)) ls
      (λ k d lt out. by (get_or ls k d) (get_or ls k d).owner refl (all k d lt) out))
    where
      by : (l : ListedSymbol) (o : Option (List ℕ)) → l.owner ≡ o
          → option_map_or (λ name. list_any (bytes_eq name) names) l.owner true ≡ true
          → is_outside kernel l ≡ true → IsNumber names (number_for names l.owner)
      by l None own some out = grind arith
      by l (Some name) own some out = grind (arith, IsNumber-in names name)

  good_marks : AreNamed names lines
      → All (IsNumber names) (kept_marks (marks_of kernel names lines))
  good_marks all =
      subst (λ (ms : List Mark). All (IsNumber names) (map (λ (m : Mark). m.owner) ms))
      (sym (without_kernel kernel (map (mark_of names) (filter (is_outside kernel) lines))))
      (All-map (IsNumber names) (λ (m : Mark). m.owner)
      (filter (is_kept_mark items) (map (mark_of names) (filter (is_outside kernel) lines)))
      (All-filter (is_kept_mark items) (λ (m : Mark). IsNumber names m.owner)
      (map (mark_of names) (filter (is_outside kernel) lines)) (good_lines lines all)))

-- ---- numbers in the order of names

module _ (names : List (List ℕ)) where
  same_number : (n m : ℕ) → IsNumber names n → IsNumber names m
      → nat_eq n m ≡ bytes_eq (name_of names n) (name_of names m)
  same_number n m good well = grind (arith, bytes_decides, eqb-true, eq-eqb)

  same_has : (acc : List ℕ) (n : ℕ) → All (IsNumber names) acc → IsNumber names n
      → list_any (nat_eq n) acc ≡ list_any (bytes_eq (name_of names n)) (map (name_of names) acc)
  same_has [] n all good = refl
  same_has (a ∷ as') n all good = grind (
    arith,
    same_number,
    All-head,
    All-tail,
    same_has as' n (All-tail (IsNumber names) a as' all) good,
  )

  one_more : (acc : List ℕ) (n : ℕ) → All (IsNumber names) acc → IsNumber names n
      → map (name_of names) (with_number acc n)
      ≡ with_name (map (name_of names) acc) (name_of names n)
  one_more acc n all good = grind (arith, same_has, map-append)

  good_more : (acc : List ℕ) (n : ℕ) → All (IsNumber names) acc → IsNumber names n
      → All (IsNumber names) (with_number acc n)
  good_more acc n all good = elim (list_any (nat_eq n) acc) as (λ b. All (IsNumber names) (cond b
      acc (acc ++ n ∷ []))) [ true ↦ all | false ↦ All-push (IsNumber names) acc n all good ]

  fold_names : (ns acc : List ℕ) → All (IsNumber names) ns → All (IsNumber names) acc
      → map (name_of names) (fold with_number acc ns)
      ≡ fold with_name (map (name_of names) acc) (map (name_of names) ns)
  fold_names [] acc every all = refl
  fold_names (n ∷ ns) acc every all = grind (
    arith,
    fold_names ns (with_number acc n) (All-tail (IsNumber names) n ns every),
    All-head (IsNumber names) n ns every,
    All-tail (IsNumber names) n ns every,
    good_more acc n all,
    one_more acc n all,
  )

  fold_good : (ns acc : List ℕ) → All (IsNumber names) ns → All (IsNumber names) acc
      → All (IsNumber names) (fold with_number acc ns)
  fold_good [] acc every all = all
  fold_good (n ∷ ns) acc every all =
      fold_good ns (with_number acc n) (All-tail (IsNumber names) n ns every)
      (good_more acc n all (All-head (IsNumber names) n ns every))

  names_numbered : (items : List Item) (ns : List ℕ)
      → map (λ (m : PlacedModule). m.name) (modules_numbered names items ns)
      ≡ map (name_of names) ns
  names_numbered items [] = refl
  names_numbered items (n ∷ ns) =
      ap (λ (ws : List (List ℕ)). name_of names n ∷ ws) (names_numbered items ns)

-- what the marks give is what the lines say
pub from_symbols : (bounds : Option BoundNames) (lines : List ListedSymbol) (names : List (List ℕ))
    (items : List Item) → AreNamed names lines
    → AreRegions (marks_of (kernel_regions bounds lines) names lines) items
    → IsFromSymbols bounds lines (accepted_with (kernel_regions bounds lines) (modules_numbered
    names items (kept_numbers items (marks_of (kernel_regions bounds lines) names lines))))
from_symbols bounds lines names items all regions =
    let kernel : List (ℕ × ℕ) = kernel_regions bounds lines in
    let marks : List Mark = marks_of kernel names lines in
    let has : HaveFirstLines kernel lines = first_lines bounds lines in
    let every : All (IsNumber names)
    (map (λ (m : Mark). m.owner) (filter (is_kept_mark items) marks)) =
    good_marks kernel names lines items has regions all in
    let numbers : List ℕ = kept_numbers items marks in
    let good : All (IsNumber names) numbers =
    fold_good names (map (λ (m : Mark). m.owner) (filter (is_kept_mark items) marks)) [] every
    (All-nil (IsNumber names)) in
    record {
      kernel = refl;
      named = names_numbered names items numbers
          ∙ fold_names names (map (λ (m : Mark). m.owner) (filter (is_kept_mark items) marks)) []
          every (All-nil (IsNumber names))
          ∙ ap (fold with_name []) (kept_names kernel names lines items has regions all);
      regions = All-map (HasItsRegions (posts kernel lines))
          (λ n. numbered_module n (name_of names n) items) numbers (λ k d lt.
          let n : ℕ = get_or numbers k d in
          let its = good k d lt in
          its_regions marks items (posts kernel lines) n (name_of names n) regions
          (marks_stand names lines kernel n (name_of names n) has its.0 its.1));
      double = refl;
      overlap = refl;
    }
