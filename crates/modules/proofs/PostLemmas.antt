-- Whose an address is by the marks of a listing is what its lines say.
use Rattle.modules.proofs.Words.{◌≡◌, ◌≢◌, ℕ, ◌+◌, ◌-◌, ◌<◌, ◌≤◌, inl, inr, Bool, true, false, ◌&&◌}
use Rattle.modules.proofs.Words.{◌||◌, nat_lt, nat_eq, cond, suc, List, [], ◌∷◌, ◌++◌, get_or, map}
use Rattle.modules.proofs.Words.{Option, Some, None, refl, sym, ap, subst, ◌∙◌, ⊎_elim, arith, ◌⊎◌}
use Rattle.modules.proofs.Words.{All, Contains, filter, find, is_none, first_so, second_so}
use Rattle.modules.proofs.Words.{position_from, option_and_then, option_map, option_map_or}
use Rattle.modules.proofs.Words.{bytes_eq, bytes_decides, rules, common_steps, nat_tests}
use Rattle.modules.proofs.Lemmas.{and_from, and_parts, cases_lt, eq-eqb, eqb-true, le-leb, leb-true}
use Rattle.modules.proofs.Lemmas.{lt-ltb, ltb-true, ne_eqb, or_cases, or_left, or_parts, or_right}
use Rattle.modules.proofs.Lemmas.{position_from-zero, All-append, All-map, All-contains}
use Rattle.modules.proofs.Lemmas.{All-head, All-tail, list_any_at, position-Some}
use Rattle.modules.proofs.Lemmas.{Contains-append_left, Contains-append_right, Contains-get_or}
use Rattle.modules.proofs.Lemmas.{Contains-map, AllPass-from_list_all, list_all-from_AllPass}
use Rattle.modules.proofs.Lemmas.{Contains-slice_get, find-agree, find-filter, find-has}
use Rattle.modules.proofs.Lemmas.{find-passes, find_place}
use Rattle.modules.proofs.Definitions.{is_built_in, HaveFirstLines, kernel_marks, line_marks}
use Rattle.modules.proofs.Definitions.{mark_of, marks_of, name_of, number_for, number_in}
use Rattle.modules.proofs.Definitions.{ListedSymbol, StandsFor, GoesOn, IsFirstMark, IsNearestMark}
use Rattle.modules.proofs.Definitions.{IsNextMark, Owns, goes_on, is_in_page, is_nearest_line}
use Rattle.modules.proofs.Definitions.{is_next_line, is_of_one_module, is_outside}
use Rattle.modules.proofs.Definitions.{module_of_address, post_above, post_below, posts, reach}
use Rattle.modules.proofs.Definitions.{holds, lies_in_any, Mark}
use Rattle.modules.proofs.FilterLemmas.{all_of_passing, all_passing}
use Rattle.modules.proofs.MarkOrderLemmas.{first_found, found_first, is_at}
use Rattle.modules.proofs.SpacedLemmas.{is_of, named, inside, within}

not_built_in : (built_in : List (ℕ × ℕ)) (s : ListedSymbol) (name : List ℕ)
    → s.owner ≡ Some name → is_built_in built_in s ≡ false
not_built_in built_in s name owner = rw owner

all_of_mapped : {X Y : Type 0} (f : X → Y) (Q : Y → Type 0) (xs : List X) → All Q (map f xs)
    → All (λ x. Q (f x)) xs
all_of_mapped f Q xs all = λ k d lt. All-contains Q (map f xs) (f (get_or xs k d)) all
    (Contains-map f xs (get_or xs k d) (Contains-get_or xs k d lt))

find_mapped : {X Y : Type 0} (p : Y → Bool) (f : X → Y) (xs : List X)
    → find p (map f xs) ≡ option_map f (find (λ x. p (f x)) xs)
find_mapped p f [] = refl
find_mapped p f (x ∷ xs) = grind (arith, find_mapped p f xs)

some_mapped : {X Y : Type 0} (f : X → Y) (o : Option X) (y : Y) → option_map f o ≡ Some y
    → (x : X) × (o ≡ Some x) × (f x ≡ y)
some_mapped f o y h = grind arith

pub listed_found : {X : Type 0} (p : X → Bool) (xs : List X) (x : X) → find p xs ≡ Some x
    → Contains xs x
listed_found p xs x h = let (place, first) = find_place p xs x h in
    Contains-slice_get xs place x first.at

-- ---- the nearest address

-- the address is at or below x, and none of the list lies between them
pub record IsNearestAddress {X : Type 0} (at : X → ℕ) (xs : List X) (x a : ℕ) : Type 0 where
  pub below : a ≤ x
  pub clear : All (λ t. (at t ≤ a) ⊎ (x < at t)) xs

-- the address is above x, and none of the list lies between them
pub record IsNextAddress {X : Type 0} (at : X → ℕ) (xs : List X) (x a : ℕ) : Type 0 where
  pub above : x < a
  pub clear : All (λ t. (at t ≤ x) ⊎ (a ≤ at t)) xs

abbrev IsNextOf : List ListedSymbol → ℕ → ℕ → Type 0
IsNextOf ls x a = IsNextAddress (λ (t : ListedSymbol). t.addr) ls x a

abbrev IsNextIn : List Mark → ℕ → ℕ → Type 0
IsNextIn ms x a = IsNextAddress (λ (t : Mark). t.addr) ms x a

abbrev IsNearestOf : List ListedSymbol → ℕ → ℕ → Type 0
IsNearestOf ls x a = IsNearestAddress (λ (t : ListedSymbol). t.addr) ls x a

abbrev IsNearestIn : List Mark → ℕ → ℕ → Type 0
IsNearestIn ms x a = IsNearestAddress (λ (t : Mark). t.addr) ms x a

-- the line is of the address
abbrev is_line_at : ℕ → ListedSymbol → Bool
is_line_at a t = nat_eq t.addr a

nearest_line_is : (ls : List ListedSymbol) (x : ℕ) (l : ListedSymbol)
    → is_nearest_line ls x l ≡ true → IsNearestOf ls x l.addr
nearest_line_is ls x l h = grind (arith, leb-true, first_so, AllPass-from_list_all, second_so)

line_is_nearest : (ls : List ListedSymbol) (x : ℕ) (l : ListedSymbol) → IsNearestOf ls x l.addr
    → is_nearest_line ls x l ≡ true
line_is_nearest ls x l n = grind (arith, and_from, le-leb, list_all-from_AllPass)

-- the first of the nearest lines is the first of their address
nearest_by_address : (ls : List ListedSymbol) (x : ℕ) (l : ListedSymbol) → Contains ls l
    → IsNearestOf ls x l.addr → find (is_nearest_line ls x) ls ≡ find (is_line_at l.addr) ls
nearest_by_address ls x l there n =
    grind (arith, find-agree, nearest_line_is, eq-eqb, line_is_nearest, eqb-true)

mark_nearest : (ms : List Mark) (x : ℕ) (m : Mark) → IsNearestIn ms x m.addr
    → find (is_at m.addr) ms ≡ Some m → IsNearestMark ms x m
mark_nearest ms x m n found =
    record { its = first_found ms m found; below = n.below; clear = n.clear }

-- ---- the next address above

next_line_is : (ls : List ListedSymbol) (x : ℕ) (l : ListedSymbol) → is_next_line ls x l ≡ true
    → IsNextOf ls x l.addr
next_line_is ls x l h = grind (arith, ltb-true, first_so, AllPass-from_list_all, second_so)

line_is_next : (ls : List ListedSymbol) (x : ℕ) (l : ListedSymbol) → IsNextOf ls x l.addr
    → is_next_line ls x l ≡ true
line_is_next ls x l n = grind (arith, and_from, lt-ltb, list_all-from_AllPass)

-- the first of the next lines is the first of their address
next_by_address : (ls : List ListedSymbol) (x : ℕ) (l : ListedSymbol) → Contains ls l
    → IsNextOf ls x l.addr → find (is_next_line ls x) ls ≡ find (is_line_at l.addr) ls
next_by_address ls x l there n =
    grind (arith, find-agree, next_line_is, eq-eqb, line_is_next, eqb-true)

mark_next : (ms : List Mark) (x : ℕ) (m : Mark) → IsNextIn ms x m.addr
    → find (is_at m.addr) ms ≡ Some m → IsNextMark ms x m
mark_next ms x m n found = record { its = first_found ms m found; above = n.above; clear = n.clear }

-- ---- numbers and names

number_some : (names : List (List ℕ)) (name : List ℕ) (o : Option ℕ) (n : ℕ)
    → position_from (bytes_eq name) 0 names ≡ o → option_map_or suc o 0 ≡ n → n ≢ 0
    → name_of names n ≡ name
number_some names name None n at is some = absurd (some (sym is))
number_some names name (Some k) n at is some =
    let found =
    position-Some (bytes_eq name) names k [] (position_from-zero (bytes_eq name) names ∙ at) in
    grind (arith, common_steps, nat_tests, position-Some, position_from-zero, bytes_decides)

pub number_names : (names : List (List ℕ)) (name : List ℕ) (n : ℕ) → number_in names name ≡ n
    → n ≢ 0 → name_of names n ≡ name
number_names names name n is some =
    number_some names name (position_from (bytes_eq name) 0 names) n refl is some

owner_named : (names : List (List ℕ)) (o : Option (List ℕ)) (n : ℕ) → number_for names o ≡ n → n ≢ 0
    → o ≡ Some (name_of names n)
owner_named names None n is some = absurd (some (sym is))
owner_named names (Some name) n is some =
    ap (λ (w : List ℕ). Some w) (sym (number_names names name n is some))

-- ---- the kernel and the lines outside

outside_not_inside : (kernel : List (ℕ × ℕ)) (l : ListedSymbol) → is_outside kernel l ≡ true
    → lies_in_any kernel l.addr ≡ false
outside_not_inside kernel l h = grind (arith, common_steps, nat_tests, and_parts)

-- of lines at an address outside the kernel's region, just those of modules are posts
posts_at : (kernel : List (ℕ × ℕ)) (lines : List ListedSymbol) (a : ℕ)
    → lies_in_any kernel a ≡ false → find (is_line_at a) (posts kernel lines)
    ≡ find (is_line_at a) (filter (is_outside kernel) lines)
posts_at kernel lines a out =
    grind (arith, common_steps, nat_tests, find-filter, find-agree, eqb-true)

first_apart : (r : ℕ × ℕ) (a : ℕ) → r.0 < r.1 → holds r a ≡ false → r.0 ≡ a → ⊥
first_apart r a valid out e = let in' : holds r a ≡ true = within r a (omega arith) (omega arith) in
    cc

-- ---- the marks of the kernel

-- the mark of a region
abbrev first_of : ℕ × ℕ → Mark
first_of r = record { addr = r.0; owner = 0 }

abbrev AreValid : List (ℕ × ℕ) → Type 0
AreValid kernel = All (λ (r : ℕ × ℕ). r.0 < r.1) kernel

-- none of them is at an address outside
found_behind : (kernel : List (ℕ × ℕ)) (ms : List Mark) (a : ℕ) → AreValid kernel
    → lies_in_any kernel a ≡ false → find (is_at a) (kernel_marks kernel ++ ms) ≡ find (is_at a) ms
found_behind [] ms a valid out = refl
found_behind (r ∷ rs) ms a valid out =
    let parts = or_parts (holds r a) (lies_in_any rs a) out in
    let other : nat_eq r.0 a ≡ false =
    ne_eqb r.0 a (first_apart r a (All-head (λ (s : ℕ × ℕ). s.0 < s.1) r rs valid) parts.0) in
    ap (λ b. cond b (Some (first_of r)) (find (is_at a) (kernel_marks rs ++ ms))) other
    ∙ found_behind rs ms a (All-tail (λ (s : ℕ × ℕ). s.0 < s.1) r rs valid) parts.1

-- and none is a module's
module_behind : (kernel : List (ℕ × ℕ)) (ms : List Mark) (m : Mark) → m.owner ≢ 0
    → find (is_at m.addr) (kernel_marks kernel ++ ms) ≡ Some m → find (is_at m.addr) ms ≡ Some m
module_behind [] ms m some h = h
module_behind (r ∷ rs) ms m some h =
    grind (arith, common_steps, nat_tests, is_at, module_behind rs ms m some)

all_behind : (Q : Mark → Type 0) (kernel : List (ℕ × ℕ)) (ms : List Mark)
    → All Q (kernel_marks kernel ++ ms) → All Q ms
all_behind Q kernel ms all = λ k d lt. All-contains Q (kernel_marks kernel ++ ms) (get_or ms k d)
    all (Contains-append_right (kernel_marks kernel) ms (get_or ms k d) (Contains-get_or ms k d lt))

all_of_kernel : (Q : Mark → Type 0) (kernel : List (ℕ × ℕ)) (ms : List Mark)
    → All Q (kernel_marks kernel ++ ms) → All (λ r. Q (first_of r)) kernel
all_of_kernel Q kernel ms all =
    λ k d lt. All-contains Q (kernel_marks kernel ++ ms) (first_of (get_or kernel k d)) all
    (Contains-append_left (kernel_marks kernel) ms (first_of (get_or kernel k d))
    (Contains-map first_of kernel (get_or kernel k d) (Contains-get_or kernel k d lt)))

-- a line of the kernel between a module's post and an address above has the first of its region
-- between them
region_clear : (r : ℕ × ℕ) (x a t : ℕ) → holds r a ≡ false → (r.0 ≤ a) ⊎ (x < r.0)
    → holds r t ≡ true → (t ≤ a) ⊎ (x < t)
region_clear r x a t out first in' = grind (arith, inside, within, cases_lt)

kernel_clear : (kernel : List (ℕ × ℕ)) (x a t : ℕ) → lies_in_any kernel a ≡ false
    → All (λ (r : ℕ × ℕ). (r.0 ≤ a) ⊎ (x < r.0)) kernel → lies_in_any kernel t ≡ true
    → (t ≤ a) ⊎ (x < t)
kernel_clear [] x a t out all in' = absurd (cc)
kernel_clear (r ∷ rs) x a t out all in' =
    let parts = or_parts (holds r a) (lies_in_any rs a) out in
    ⊎_elim
    (λ here. region_clear r x a t parts.0 (All-head (λ (s : ℕ × ℕ). (s.0 ≤ a) ⊎ (x < s.0)) r rs all)
    here)
    (λ rest. kernel_clear rs x a t parts.1
    (All-tail (λ (s : ℕ × ℕ). (s.0 ≤ a) ⊎ (x < s.0)) r rs all) rest)
    (or_cases (holds r t) (lies_in_any rs t) in')

-- the line that says whose an address is
pub owned : (ls : List ListedSymbol) (x : ℕ) (name : List ℕ) (o : Option ListedSymbol)
    → option_and_then (λ (l : ListedSymbol).
    cond (is_in_page l.addr x || goes_on ls x l) l.owner None) o ≡ Some name → (l : ListedSymbol)
    × (o ≡ Some l) × ((is_in_page l.addr x || goes_on ls x l) ≡ true) × (l.owner ≡ Some name)
owned ls x name o h = grind arith

module _ (names : List (List ℕ)) (lines : List ListedSymbol) where
  -- ---- the first mark of an address

  all_valid : (kernel : List (ℕ × ℕ)) → HaveFirstLines kernel lines → AreValid kernel
  all_valid kernel has = λ k d lt. (has k d lt).0

  found_mark : (kernel : List (ℕ × ℕ)) (l : ListedSymbol) → HaveFirstLines kernel lines
      → lies_in_any kernel l.addr ≡ false
      → find (is_line_at l.addr) (filter (is_outside kernel) lines) ≡ Some l
      → find (is_at l.addr) (marks_of kernel names lines) ≡ Some (mark_of names l)
  found_mark kernel l has out h = grind (arith, found_behind, all_valid, out, find_mapped, is_at)

  marked : (kernel : List (ℕ × ℕ)) (m : Mark)
      → find (is_at m.addr) (map (mark_of names) (filter (is_outside kernel) lines)) ≡ Some m
      → (l : ListedSymbol) × (find (is_line_at m.addr) (filter (is_outside kernel) lines) ≡ Some l)
      × (mark_of names l ≡ m)
  marked kernel m h =
      some_mapped (mark_of names) (find (is_line_at m.addr) (filter (is_outside kernel) lines)) m
      (sym (find_mapped (is_at m.addr) (mark_of names) (filter (is_outside kernel) lines)) ∙ h)

  mark_found : (kernel : List (ℕ × ℕ)) (m : Mark) → m.owner ≢ 0
      → find (is_at m.addr) (marks_of kernel names lines) ≡ Some m
      → (l : ListedSymbol) × (find (is_line_at m.addr) (filter (is_outside kernel) lines) ≡ Some l)
      × (mark_of names l ≡ m)
  mark_found kernel m some h =
      marked kernel m (module_behind kernel (line_marks kernel names lines) m some h)

  -- ---- the nearest address of marks and of posts

  outside_all : (kernel : List (ℕ × ℕ)) (P : ℕ → Type 0)
      → All (λ (t : Mark). P t.addr) (marks_of kernel names lines)
      → All (λ (t : ListedSymbol). is_outside kernel t ≡ true → P t.addr) lines
  outside_all kernel P all =
      all_of_passing (is_outside kernel) (λ (t : ListedSymbol). P t.addr) lines
      (all_of_mapped (mark_of names) (λ (t : Mark). P t.addr) (filter (is_outside kernel) lines)
      (all_behind (λ (t : Mark). P t.addr) kernel (line_marks kernel names lines) all))

  -- what holds of the marks' addresses holds of the first ones of the kernel's regions
  firsts : (kernel : List (ℕ × ℕ)) (P : ℕ → Type 0)
      → All (λ (t : Mark). P t.addr) (marks_of kernel names lines)
      → All (λ (r : ℕ × ℕ). P r.0) kernel
  firsts kernel P all =
      all_of_kernel (λ (t : Mark). P t.addr) kernel (line_marks kernel names lines) all

  built_in_inside : (kernel : List (ℕ × ℕ)) (t : ListedSymbol) → is_built_in kernel t ≡ true
      → lies_in_any kernel t.addr ≡ true
  built_in_inside kernel t h = (and_parts (is_none t.owner) (lies_in_any kernel t.addr) h).1

  near_posts : (kernel : List (ℕ × ℕ)) (x a : ℕ) → lies_in_any kernel a ≡ false
      → IsNearestIn (marks_of kernel names lines) x a → IsNearestOf (posts kernel lines) x a
  near_posts kernel x a out n = record {
    below = n.below;
    clear = all_passing (λ l. is_built_in kernel l || is_outside kernel l)
        (λ (t : ListedSymbol). (t.addr ≤ a) ⊎ (x < t.addr)) lines (λ k d lt passes.
        let t : ListedSymbol = get_or lines k d in
        ⊎_elim
        (λ own. kernel_clear kernel x a t.addr out (firsts kernel (λ c. (c ≤ a) ⊎ (x < c)) n.clear)
        (built_in_inside kernel t own))
        (λ its. outside_all kernel (λ c. (c ≤ a) ⊎ (x < c)) n.clear k d lt its)
        (or_cases (is_built_in kernel t) (is_outside kernel t) passes));
  }

  next_posts : (kernel : List (ℕ × ℕ)) (x a b : ℕ) → lies_in_any kernel a ≡ false
      → IsNearestIn (marks_of kernel names lines) x a → IsNextIn (marks_of kernel names lines) x b
      → IsNextOf (posts kernel lines) x b
  next_posts kernel x a b out near n = record {
    above = n.above;
    clear = all_passing (λ l. is_built_in kernel l || is_outside kernel l)
        (λ (t : ListedSymbol). (t.addr ≤ x) ⊎ (b ≤ t.addr)) lines (λ k d lt passes.
        let t : ListedSymbol = get_or lines k d in
        ⊎_elim
        (λ own. let high = n.above in
        let low = near.below in
        ⊎_elim (λ le. inl (omega arith)) (λ gt. inr (omega arith))
        (kernel_clear kernel (b - 1) a t.addr out
        (λ j r less. ⊎_elim (λ le. inl le) (λ gt. ⊎_elim (λ le. absurd (omega arith)) (λ ge.
        inr (omega arith)) (firsts kernel (λ c. (c ≤ x) ⊎ (b ≤ c)) n.clear j r less)) (firsts
        kernel (λ c. (c ≤ a) ⊎ (x < c)) near.clear j r less)) (built_in_inside kernel t own)))
        (λ its. outside_all kernel (λ c. (c ≤ x) ⊎ (b ≤ c)) n.clear k d lt its)
        (or_cases (is_built_in kernel t) (is_outside kernel t) passes));
  }

  others_all : (kernel : List (ℕ × ℕ)) (P : ℕ → Type 0) → All
      (λ (t : ListedSymbol). (is_built_in kernel t || is_outside kernel t) ≡ true → P t.addr) lines
      → All (λ (t : Mark). P t.addr) (map (mark_of names) (filter (is_outside kernel) lines))
  others_all kernel P all = search (rules, All-map, all_passing, or_right)

  -- what holds of the posts' addresses holds of the marks'
  marks_all : (kernel : List (ℕ × ℕ)) (P : ℕ → Type 0) → HaveFirstLines kernel lines
      → All (λ (t : ListedSymbol). P t.addr) (posts kernel lines)
      → All (λ (t : Mark). P t.addr) (marks_of kernel names lines)
  marks_all kernel P has all =
      let each = all_of_passing (λ l. is_built_in kernel l || is_outside kernel l)
      (λ (t : ListedSymbol). P t.addr) lines all in
      All-append (λ (t : Mark). P t.addr) (kernel_marks kernel) (line_marks kernel names lines)
      (All-map (λ (t : Mark). P t.addr) first_of kernel (λ k d lt.
      let r : ℕ × ℕ = get_or kernel k d in
      let (valid, first) = has k d lt in
      let (l, there, none, at) = first in
      let in' : lies_in_any kernel r.0 ≡ true =
      list_any_at (λ s. holds s r.0) kernel k d lt (within r r.0 (omega arith) valid) in
      let built_in : is_built_in kernel l ≡ true = rw (none, at) in' in
      subst P at
      (All-contains (λ (t : ListedSymbol). (is_built_in kernel t || is_outside kernel t) ≡ true
      → P t.addr) lines l each there
      (or_left (is_built_in kernel l) (is_outside kernel l) built_in))))
      (others_all kernel P each)

  near_marks : (kernel : List (ℕ × ℕ)) (x a : ℕ) → HaveFirstLines kernel lines
      → IsNearestOf (posts kernel lines) x a → IsNearestIn (marks_of kernel names lines) x a
  near_marks kernel x a has n =
      record { below = n.below; clear = marks_all kernel (λ c. (c ≤ a) ⊎ (x < c)) has n.clear }

  next_marks : (kernel : List (ℕ × ℕ)) (x b : ℕ) → HaveFirstLines kernel lines
      → IsNextOf (posts kernel lines) x b → IsNextIn (marks_of kernel names lines) x b
  next_marks kernel x b has n =
      record { above = n.above; clear = marks_all kernel (λ c. (c ≤ x) ⊎ (b ≤ c)) has n.clear }

  -- ---- the lines of a module

  passes_outside : (kernel : List (ℕ × ℕ)) (l : ListedSymbol) (a : ℕ)
      → find (is_line_at a) (filter (is_outside kernel) lines) ≡ Some l → is_outside kernel l ≡ true
  passes_outside kernel l a at = find-has (is_line_at a) (filter (is_outside kernel) lines) l at
      (λ t. is_outside kernel t ≡ true)
      (all_passing (is_outside kernel) (λ t. is_outside kernel t ≡ true) lines (λ k d lt yes. yes))

  is_named_outside : (kernel : List (ℕ × ℕ)) (l : ListedSymbol) (name : List ℕ)
      → l.owner ≡ Some name → (is_built_in kernel l || is_outside kernel l) ≡ true
      → is_outside kernel l ≡ true
  is_named_outside kernel l name own passes = ⊎_elim (λ built_in.
      absurd (let other : is_built_in kernel l ≡ false = not_built_in kernel l name own in cc))
      (λ its. its) (or_cases (is_built_in kernel l) (is_outside kernel l) passes)

  -- a found post of a module is outside
  pub found_outside : (kernel : List (ℕ × ℕ)) (p : ListedSymbol → Bool) (l : ListedSymbol)
      (name : List ℕ) → find p (posts kernel lines) ≡ Some l → l.owner ≡ Some name
      → lies_in_any kernel l.addr ≡ false
  found_outside kernel p l name at own =
      let passes : (is_built_in kernel l || is_outside kernel l) ≡ true =
      find-has p (posts kernel lines) l at (λ t. (is_built_in kernel t || is_outside kernel t)
      ≡ true) (all_passing (λ t. is_built_in kernel t || is_outside kernel t)
      (λ t. (is_built_in kernel t || is_outside kernel t) ≡ true) lines (λ k d lt yes. yes)) in
      outside_not_inside kernel l (is_named_outside kernel l name own passes)

  -- the line of a first mark of a module, which is the first of its address among the posts
  record IsLineOf (kernel : List (ℕ × ℕ)) (m : Mark) (l : ListedSymbol) : Type 0 where
    made : mark_of names l ≡ m
    out : lies_in_any kernel l.addr ≡ false
    first : find (is_line_at l.addr) (posts kernel lines) ≡ Some l

  line_of_first : (kernel : List (ℕ × ℕ)) (m : Mark) → m.owner ≢ 0
      → IsFirstMark (marks_of kernel names lines) m → (l : ListedSymbol) × IsLineOf kernel m l
  line_of_first kernel m some first = grind (
    arith,
    outside_not_inside,
    passes_outside,
    posts_at,
    found_first (marks_of kernel names lines) m first,
    mark_found kernel m some (found_first (marks_of kernel names lines) m first),
  )

  owner_of_line : (kernel : List (ℕ × ℕ)) (m : Mark) (l : ListedSymbol) (n : ℕ) (name : List ℕ)
      → n ≢ 0 → number_in names name ≡ n → m.owner ≡ n → IsLineOf kernel m l → l.owner ≡ Some name
  owner_of_line kernel m l n name some is its line =
      owner_named names l.owner n (ap (λ (s : Mark). s.owner) line.made ∙ its) some
      ∙ ap (λ (w : List ℕ). Some w) (number_names names name n is some)

  -- the first mark of a post of a module
  mark_of_first : (kernel : List (ℕ × ℕ)) (l : ListedSymbol) → HaveFirstLines kernel lines
      → lies_in_any kernel l.addr ≡ false → find (is_line_at l.addr) (posts kernel lines) ≡ Some l
      → find (is_at l.addr) (marks_of kernel names lines) ≡ Some (mark_of names l)
  mark_of_first kernel l has out found =
      found_mark kernel l has out (sym (posts_at kernel lines l.addr out) ∙ found)

  -- ---- how far a module goes on

  of_one : (l t : ListedSymbol) (name : List ℕ) → l.owner ≡ Some name → t.owner ≡ Some name
      → is_of_one_module l t ≡ true
  of_one l t name own its = rw (own, its) (named name)

  one_of : (l t : ListedSymbol) (name : List ℕ) → l.owner ≡ Some name → is_of_one_module l t ≡ true
      → t.owner ≡ Some name
  one_of l t name own h = let here : option_map_or (bytes_eq name) t.owner false ≡ true =
      (rw own at h) in
      is_of name t.owner here

  next_near : (kernel : List (ℕ × ℕ)) (x : ℕ) (l : ListedSymbol) (name : List ℕ)
      → l.owner ≡ Some name → goes_on (posts kernel lines) x l ≡ true
      → (t : ListedSymbol) × (post_above (posts kernel lines) x ≡ Some t) × (t.owner ≡ Some name)
      × (t.addr < l.addr + reach)
  next_near kernel x l name own h =
      grind (arith, common_steps, nat_tests, and_parts, one_of, ltb-true)

  to_goes_on : (kernel : List (ℕ × ℕ)) (n x : ℕ) (name : List ℕ) (m : Mark) (l : ListedSymbol)
      → n ≢ 0 → number_in names name ≡ n → m.owner ≡ n → IsLineOf kernel m l
      → IsNearestIn (marks_of kernel names lines) x l.addr
      → GoesOn (marks_of kernel names lines) x m → goes_on (posts kernel lines) x l ≡ true
  to_goes_on kernel n x name m l some is its line near on =
      let ps : List ListedSymbol = posts kernel lines in
      let of : on.mark.owner ≡ n = on.its ∙ its in
      let (t, its_line) = line_of_first kernel on.mark (λ zero. some (sym of ∙ zero)) on.next.its in
      let addr : on.mark.addr ≡ t.addr = sym (ap (λ (s : Mark). s.addr) its_line.made) in
      let from : m.addr ≡ l.addr = sym (ap (λ (s : Mark). s.addr) line.made) in
      let next : IsNextIn (marks_of kernel names lines) x t.addr =
      subst (λ a. IsNextIn (marks_of kernel names lines) x a) addr
      (record { above = on.next.above; clear = on.next.clear }) in
      let found : post_above ps x ≡ Some t =
      next_by_address ps x t (listed_found (is_line_at t.addr) ps t its_line.first)
      (next_posts kernel x l.addr t.addr line.out near next) ∙ its_line.first in
      let near : t.addr < l.addr + reach = let far = on.near in omega arith in
      let both : (is_of_one_module l t && nat_lt t.addr (l.addr + reach)) ≡ true =
      and_from (is_of_one_module l t) (nat_lt t.addr (l.addr + reach))
      (of_one l t name (owner_of_line kernel m l n name some is its line) (owner_of_line kernel
      on.mark t n name some is of its_line)) (lt-ltb t.addr (l.addr + reach) near) in
      ap (λ (o : Option ListedSymbol). option_map_or
      (λ t. is_of_one_module l t && nat_lt t.addr (l.addr + reach)) o false) found ∙ both

  from_goes_on : (kernel : List (ℕ × ℕ)) (n x : ℕ) (name : List ℕ) (l : ListedSymbol)
      → HaveFirstLines kernel lines → number_in names name ≡ n → l.owner ≡ Some name
      → goes_on (posts kernel lines) x l ≡ true
      → GoesOn (marks_of kernel names lines) x (mark_of names l)
  from_goes_on kernel n x name l has is own h =
      let ps : List ListedSymbol = posts kernel lines in
      let (t, at, its, near) = next_near kernel x l name own h in
      grind (
        arith,
        next_near,
        next_line_is ps x t (find-passes (is_next_line ps x) ps t at),
        find-passes (is_next_line ps x) ps t at,
        next_by_address ps x t (listed_found (is_next_line ps x) ps t at),
        listed_found (is_next_line ps x) ps t at,
        mark_next (marks_of kernel names lines) x (mark_of names t),
        next_marks kernel x t.addr has,
        mark_of_first kernel t has (found_outside kernel (is_next_line ps x) t name at its),
        found_outside kernel (is_next_line ps x) t name at its,
      )

  -- ---- whose an address is

  to_lines : (kernel : List (ℕ × ℕ)) (n x : ℕ) (name : List ℕ) → n ≢ 0 → number_in names name ≡ n
      → Owns (marks_of kernel names lines) n x
      → module_of_address (posts kernel lines) x ≡ Some name
  to_lines kernel n x name some is o =
      let ps : List ListedSymbol = posts kernel lines in
      let m : Mark = o.mark in
      let (l, line) = line_of_first kernel m (λ zero. some (sym o.its ∙ zero)) o.nearest.its in
      let addr : m.addr ≡ l.addr = sym (ap (λ (s : Mark). s.addr) line.made) in
      let near : IsNearestIn (marks_of kernel names lines) x l.addr =
      subst (λ a. IsNearestIn (marks_of kernel names lines) x a) addr
      (record { below = o.nearest.below; clear = o.nearest.clear }) in
      grind (
        arith,
        line_of_first,
        nearest_by_address ps x l (listed_found (is_line_at l.addr) ps l line.first)
            (near_posts kernel x l.addr line.out near),
        listed_found (is_line_at l.addr) ps l line.first,
        near_posts kernel x l.addr line.out near,
        or_left (is_in_page l.addr x) (goes_on ps x l),
        or_right (is_in_page l.addr x) (goes_on ps x l),
        to_goes_on kernel n x name m l some is,
        owner_of_line kernel m l n name some is o.its,
      )

  from_lines : (kernel : List (ℕ × ℕ)) (n x : ℕ) (name : List ℕ) → HaveFirstLines kernel lines
      → n ≢ 0 → number_in names name ≡ n → module_of_address (posts kernel lines) x ≡ Some name
      → Owns (marks_of kernel names lines) n x
  from_lines kernel n x name has some is h =
      let ps : List ListedSymbol = posts kernel lines in
      let (l, at, reached, own) = owned ps x name (post_below ps x) h in
      let near : IsNearestOf ps x l.addr =
      nearest_line_is ps x l (find-passes (is_nearest_line ps x) ps l at) in
      grind (
        arith,
        owned,
        nearest_line_is,
        find-passes,
        nearest_by_address ps x l (listed_found (is_nearest_line ps x) ps l at) near,
        listed_found (is_nearest_line ps x) ps l at,
        found_outside kernel (is_nearest_line ps x) l name at own,
        mark_nearest (marks_of kernel names lines) x (mark_of names l)
            (near_marks kernel x l.addr has near),
        near_marks kernel x l.addr has near,
        mark_of_first kernel l has,
        from_goes_on kernel n x name l has is own,
        or_cases (is_in_page l.addr x) (goes_on ps x l) reached,
      )

  -- the marks of a number stand for the posts of the module of its name
  pub marks_stand : (kernel : List (ℕ × ℕ)) (n : ℕ) (name : List ℕ) → HaveFirstLines kernel lines
      → n ≢ 0 → number_in names name ≡ n
      → StandsFor (marks_of kernel names lines) (posts kernel lines) n name
  marks_stand kernel n name has some is =
      λ x lt. (to_lines kernel n x name some is, from_lines kernel n x name has some is)
