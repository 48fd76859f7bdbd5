-- The lines of modules after events.
use Rattle.recordings.proofs.Words.{◌≡◌, ◌∙◌, ◌++◌, ◌∷◌, ◌||◌, ◌&&◌, ℕ, List, [], Bool, true, false}
use Rattle.recordings.proofs.Words.{not, cond, Option, None, Some, refl, sym, ap, append_assoc}
use Rattle.recordings.proofs.Words.{append-nil, true≢false, filter, flat_map, flat_map-append, fold}
use Rattle.recordings.proofs.Words.{length, nat_eq, nil_from_length, bytes_eq, is_some, option_map}
use Rattle.recordings.proofs.Words.{option_map_or, lines, module_of, without_end, is_among}
use Rattle.recordings.proofs.Words.{SomeLines, joined, joined_if, lines_of_module, modules_in}
use Rattle.recordings.proofs.Words.{names_of, text_of, is_left, modules_after, parts_among}
use Rattle.recordings.proofs.Words.{with_changed, BlockRead, BlockWritten, KernelEvent}
use Rattle.recordings.proofs.Words.{after_module, at_time, is_silent, modules_now, other_names}
use Rattle.recordings.proofs.Words.{own_text}
use Rattle.std.proofs.lemmas.Slice.Eq.{bytes_eq-Decides}
use Rattle.std.proofs.Math.Bool.{and-false, or-false, or-true}
use Rattle.std.proofs.lemmas.Bool.{eqb-true, or_parts}
use Rattle.std.proofs.lemmas.List.Folds.{list_any-append}
use Rattle.std.specs.Prelude.{is_none}
use Rattle.recordings.specs.Changes.{changed_names, is_changed, own_part}
use Rattle.recordings.specs.Laws.{HasAll, HasOthers, HasOwn, IsOfModule, is_of, lines_after}
use Rattle.recordings.specs.Laws.{lines_of_name}
use Rattle.recordings.specs.Recordings.{after_event, after_listing, change_with, is_freed}
use Rattle.recordings.specs.Recordings.{is_mark_of, with_change, with_listing}

same_name : (x y : List ℕ) → bytes_eq x y ≡ true → x ≡ y
same_name x y = (bytes_eq-Decides x y).0

is_same : (x : List ℕ) → bytes_eq x x ≡ true
is_same x = (bytes_eq-Decides x x).1 refl

-- ---- the lines of one name

text_then : (xs ys : List SomeLines) (n : List ℕ)
    → text_of (xs ++ ys) n ≡ text_of xs n ++ text_of ys n
text_then xs ys n = flat_map-append (λ (m : SomeLines). cond (bytes_eq n m.name) m.text []) xs ys

nothing : (t : Bool) → text_of [] [] ≡ cond t (text_of [] []) []
nothing true = refl
nothing false = refl

-- those that pass by their names
text_of_passing : (q : List ℕ → Bool) (xs : List SomeLines) (n : List ℕ)
    → text_of (filter (λ m. q m.name) xs) n ≡ cond (q n) (text_of xs n) []
text_of_passing q [] n = nothing (q n)
text_of_passing q (m ∷ xs) n = by (q m.name) refl (bytes_eq n m.name) refl (text_of_passing q xs n)
  where
    by : (t : Bool) → q m.name ≡ t → (s : Bool) → bytes_eq n m.name ≡ s
        → text_of (filter (λ m. q m.name) xs) n ≡ cond (q n) (text_of xs n) []
        → text_of (filter (λ m. q m.name) (m ∷ xs)) n ≡ cond (q n) (text_of (m ∷ xs) n) []
    by true pass true same more =
        let here : q n ≡ true = ap q (same_name n m.name same) ∙ pass in
        rw (pass, same, more, here) refl
    by true pass false other more = rw (pass, other) more
    by false fail true same more =
        let here : q n ≡ false = ap q (same_name n m.name same) ∙ fail in
        rw (fail, more, here) refl
    by false fail false other more = rw (fail, other) more

text_of_joined : (m : SomeLines) (xs : List SomeLines) (n : List ℕ)
    → text_of (joined m xs) n ≡ text_of (m ∷ xs) n
text_of_joined m [] n = refl
text_of_joined m (next ∷ xs) n = by (bytes_eq next.name m.name) refl (bytes_eq n m.name) refl
  where
    by : (t : Bool) → bytes_eq next.name m.name ≡ t → (s : Bool) → bytes_eq n m.name ≡ s
        → text_of (joined m (next ∷ xs)) n ≡ text_of (m ∷ next ∷ xs) n
    by true goes true same =
        rw (goes, same, ap (bytes_eq n) (same_name next.name m.name goes) ∙ same)
        (append_assoc m.text next.text (text_of xs n))
    by true goes false other =
        rw (goes, other, ap (bytes_eq n) (same_name next.name m.name goes) ∙ other) refl
    by false begins s is = rw begins refl

-- the lines that a listing has of it
in_listing : (ls : List (List ℕ)) (n : List ℕ)
    → text_of (modules_in ls) n ≡ flat_map (λ line. cond (is_of n line) line []) ls
in_listing [] n = refl
in_listing (line ∷ ls) n = by (module_of (without_end line)) (in_listing ls n)
  where
    by : (o : Option (List ℕ))
        → text_of (modules_in ls) n ≡ flat_map (λ line. cond (is_of n line) line []) ls
        → text_of (joined_if (option_map (lines_of_module line) o) (modules_in ls)) n
        ≡ cond (option_map_or (bytes_eq n) o false) line []
        ++ flat_map (λ line. cond (is_of n line) line []) ls
    by None more = more
    by (Some name) more = text_of_joined (lines_of_module line name) (modules_in ls) n
        ∙ ap (λ t. cond (bytes_eq n name) line [] ++ t) more

-- one that no part is named has no lines
without_lines : (xs : List SomeLines) (n : List ℕ) → is_among (names_of xs) n ≡ false
    → text_of xs n ≡ []
without_lines [] n none = refl
without_lines (m ∷ xs) n none =
    let (here, more) = or_parts (bytes_eq n m.name) (is_among (names_of xs) n) none in
    ap (λ t. cond t m.text [] ++ text_of xs n) here ∙ without_lines xs n more

-- ---- which have changed

module _ (named : List (List ℕ)) (now old : List SomeLines) where
  abbrev changed : List ℕ → Bool
  changed = is_changed named now old

  abbrev put : List (List ℕ) → List ℕ → List (List ℕ)
  put = with_changed named now old

  among_then : (xs ys : List (List ℕ)) (n : List ℕ)
      → is_among (xs ++ ys) n ≡ (is_among xs n || is_among ys n)
  among_then xs ys n = list_any-append (bytes_eq n) xs ys

  among_put : (names : List (List ℕ)) (x n : List ℕ)
      → is_among (put names x) n ≡ (is_among names n || (changed n && bytes_eq n x))
  among_put names x n = by (bytes_eq n x) refl (is_among names x) refl (changed x) refl
    where
      by : (s : Bool) → bytes_eq n x ≡ s → (t : Bool) → is_among names x ≡ t → (u : Bool)
          → changed x ≡ u
          → is_among (put names x) n ≡ (is_among names n || (changed n && bytes_eq n x))
      by true same true there u is =
          rw (there, ap (is_among names) (same_name n x same) ∙ there) refl
      by true same false none true is = rw (none, is) (among_then names (x ∷ []) n
          ∙ rw (same, ap changed (same_name n x same) ∙ is, or-true (is_among names n)) refl)
      by true same false none false is =
          rw (none, is, ap changed (same_name n x same) ∙ is, or-false (is_among names n)) refl
      by false other true there u is =
          rw (there, other, and-false (changed n), or-false (is_among names n)) refl
      by false other false none true is = rw (none, is) (among_then names (x ∷ []) n
          ∙ rw (other, and-false (changed n), or-false (is_among names n)) refl)
      by false other false none false is =
          rw (none, is, other, and-false (changed n), or-false (is_among names n)) refl

  among_all : (names asked : List (List ℕ)) (n : List ℕ)
      → is_among (fold put names asked) n ≡ (is_among names n || (changed n && is_among asked n))
  among_all names [] n =
      sym (ap (λ b. is_among names n || b) (and-false (changed n)) ∙ or-false (is_among names n))
  among_all names (x ∷ asked) n = among_all (put names x) asked n
      ∙ ap (λ b. b || (changed n && is_among asked n)) (among_put names x n)
      ∙ regroup (is_among names n) (changed n) (bytes_eq n x) (is_among asked n)
    where
      regroup : (a c s t : Bool) → ((a || (c && s)) || (c && t)) ≡ (a || (c && (s || t)))
      regroup true c s t = refl
      regroup false true s t = refl
      regroup false false s t = refl

  among_changed : (n : List ℕ) → is_among (changed_names named now old) n
      ≡ (changed n && (is_among (names_of now) n || is_among (names_of old) n))
  among_changed n = among_all (fold put [] (names_of now)) (names_of old) n
      ∙ ap (λ b. b || (changed n && is_among (names_of old) n)) (among_all [] (names_of now) n)
      ∙ regroup (changed n) (is_among (names_of now) n) (is_among (names_of old) n)
    where
      regroup : (c s t : Bool) → ((c && s) || (c && t)) ≡ (c && (s || t))
      regroup true s t = refl
      regroup false s t = refl

  -- one that an event names is not among them
  named_apart : (n : List ℕ) → is_among named n ≡ true
      → is_among (changed_names named now old) n ≡ false
  named_apart n there = among_changed n ∙ rw there refl

  -- and of one that none names those are the lines now that are among them, or it has them already
  settled : (n : List ℕ) → is_among named n ≡ false → (t : Bool)
      → is_among (changed_names named now old) n ≡ t
      → text_of now n ≡ cond t (text_of now n) (text_of old n)
  settled n free true among = refl
  settled n free false apart = by (bytes_eq (text_of now n) (text_of old n)) refl
    where
      by : (s : Bool) → bytes_eq (text_of now n) (text_of old n) ≡ s → text_of now n ≡ text_of old n
      by true same = same_name (text_of now n) (text_of old n) same
      by false differ =
          let none : (is_among (names_of now) n || is_among (names_of old) n) ≡ false =
          sym (rw (free, differ) refl) ∙ sym (among_changed n) ∙ apart in
          let parts = or_parts (is_among (names_of now) n) (is_among (names_of old) n) none in
          without_lines now n parts.0 ∙ sym (without_lines old n parts.1)

-- ---- after a change

text_after : (name own : List ℕ) (others : List (List ℕ)) (now old : List SomeLines) (n : List ℕ)
    → text_of (modules_after name own others now old) n
    ≡ cond (not (bytes_eq name n) && not (is_among others n)) (text_of old n) []
    ++ text_of (own_part name own) n ++ cond (is_among others n) (text_of now n) []
text_after name own others now old n =
    text_then (filter (is_left name others) old ++ own_part name own) (parts_among others now) n
    ∙ ap (λ t. t ++ text_of (parts_among others now) n)
    (text_then (filter (is_left name others) old) (own_part name own) n)
    ∙ ap (λ t. t ++ text_of (own_part name own) n ++ text_of (parts_among others now) n)
    (text_of_passing (λ x. not (bytes_eq name x) && not (is_among others x)) old n)
    ∙ ap (λ t. cond (not (bytes_eq name n) && not (is_among others n)) (text_of old n) []
    ++ text_of (own_part name own) n ++ t) (text_of_passing (is_among others) now n)

own_of : (name own : List ℕ) → text_of (own_part name own) name ≡ own
own_of name own = by (nat_eq (length own) 0) refl
  where
    by : (t : Bool) → nat_eq (length own) 0 ≡ t
        → text_of (cond t [] (lines_of_module own name ∷ [])) name ≡ own
    by true none = sym (nil_from_length own (eqb-true (length own) 0 none))
    by false some = ap (λ t. cond t own [] ++ []) (is_same name) ∙ append-nil own

others_of : (name own n : List ℕ) → bytes_eq n name ≡ false → text_of (own_part name own) n ≡ []
others_of name own n other = by (nat_eq (length own) 0)
  where
    by : (t : Bool) → text_of (cond t [] (lines_of_module own name ∷ [])) n ≡ []
    by true = refl
    by false = ap (λ t. cond t own [] ++ []) other

-- of its own module
own_after : (name own : List ℕ) (others : List (List ℕ)) (now old : List SomeLines)
    → is_among others name ≡ false → text_of (modules_after name own others now old) name ≡ own
own_after name own others now old apart = text_after name own others now old name
    ∙ rw (is_same name, apart, own_of name own) (append-nil own)

-- of another one
other_after : (name own : List ℕ) (others : List (List ℕ)) (now old : List SomeLines) (n : List ℕ)
    (t : Bool) → bytes_eq n name ≡ false → bytes_eq name n ≡ false → is_among others n ≡ t
    → text_of (modules_after name own others now old) n ≡ cond t (text_of now n) (text_of old n)
other_after name own others now old n true other other' among =
    text_after name own others now old n ∙ rw (other', among, others_of name own n other) refl
other_after name own others now old n false other other' apart =
    text_after name own others now old n
    ∙ rw (other', apart, others_of name own n other, append-nil (text_of old n))
    (append-nil (text_of old n))

other_way : (x y : List ℕ) → bytes_eq x y ≡ false → bytes_eq y x ≡ false
other_way x y other = by (bytes_eq y x) refl
  where
    by : (t : Bool) → bytes_eq y x ≡ t → bytes_eq y x ≡ false
    by true same =
        absurd (true≢false (sym (is_same x) ∙ ap (bytes_eq x) (sym (same_name y x same)) ∙ other))
    by false is = is

and_second : (a b : Bool) → (a && b) ≡ true → b ≡ true
and_second true b e = e
and_second false b e = absurd (true≢false (sym e))

some_value : {A : Type 0} (o : Option A) → is_some o ≡ true → (x : A) × (o ≡ Some x)
some_value None is = absurd (true≢false (sym is))
some_value (Some x) is = (x, refl)

module _ (b : BlockRead) (text : List ℕ) (p : BlockWritten) (e : KernelEvent) where
  abbrev lines_in : Option (List SomeLines) → List ℕ → List ℕ
  lines_in modules name = option_map_or (λ m. text_of m name) modules []

  now_is : b.listing ≡ Some text → modules_now b ≡ modules_in (lines text)
  now_is read = ap (λ (l : Option (List ℕ)). option_map_or (λ t. modules_in (lines t)) l []) read

  own_is : b.listing ≡ Some text
      → own_text b e ≡ cond (is_freed e.kind) [] (lines_of_name e.name text)
  own_is read =
      ap (λ (now : List SomeLines). cond (is_freed e.kind) [] (text_of now e.name)) (now_is read)
      ∙ ap (cond (is_freed e.kind) []) (in_listing (lines text) e.name)

  pub has_all : HasAll b text p e
  has_all read listed name =
      ap (λ t. lines_after (cond t (after_listing b p e)
      (option_map_or (after_module b p e) p.carried.modules p)) name) listed
      ∙ ap (λ (l : Option (List ℕ)).
      lines_after (option_map_or (λ t. with_listing (at_time p.carried e) t p) l p) name) read
      ∙ in_listing (lines text) name

  module _ (old : List SomeLines) (listed : p.carried.modules ≡ Some old)
      (o : IsOfModule b p e) where
    abbrev own : List ℕ
    own = own_text b e

    abbrev others : List (List ℕ)
    others = other_names b p.has_change old

    after_is : after_event b p e ≡ after_module b p e old
    after_is = ap (λ t.
        cond t (after_listing b p e) (option_map_or (after_module b p e) p.carried.modules p)) o.own
        ∙ ap (λ (m : Option (List SomeLines)). option_map_or (after_module b p e) m p) listed

    -- what a change is written as, if it is
    abbrev written : Bool → BlockWritten
    written silent = option_map_or (λ change. with_change (at_time p.carried e) change p)
        (cond silent None (Some (change_with b e own p.has_change old))) p

    apart : is_among others e.name ≡ false
    apart = by (p.has_change || is_none b.listing)
      where
        by : (t : Bool)
            → is_among (cond t [] (changed_names b.names (modules_now b) old)) e.name ≡ false
        by true = refl
        by false = named_apart b.names (modules_now b) old e.name o.named

    own_so : (t : Bool) → is_silent e own old ≡ t → lines_after (written t) e.name ≡ own
    own_so true silent = ap (λ (m : Option (List SomeLines)). lines_in m e.name) listed
        ∙ sym (same_name own (text_of old e.name)
        (and_second (is_mark_of e.kind) (bytes_eq own (text_of old e.name)) silent))
    own_so false silent = own_after e.name own others (modules_now b) old apart

    own_stands : b.listing ≡ Some text → lines_after (after_event b p e) e.name
        ≡ cond (is_freed e.kind) [] (lines_of_name e.name text)
    own_stands read = ap (λ (w : BlockWritten). lines_after w e.name) after_is
        ∙ own_so (is_silent e own old) refl ∙ own_is read

    module _ (read : b.listing ≡ Some text) (first : p.has_change ≡ false) (name : List ℕ)
        (free : is_among b.names name ≡ false) where
      others_are : others ≡ changed_names b.names (modules_now b) old
      others_are =
          ap (λ t. cond (t || is_none b.listing) [] (changed_names b.names (modules_now b) old))
          first ∙ ap (λ (l : Option (List ℕ)).
          cond (is_none l) [] (changed_names b.names (modules_now b) old)) read

      other_name : bytes_eq name e.name ≡ false
      other_name = by (bytes_eq name e.name) refl
        where
          by : (t : Bool) → bytes_eq name e.name ≡ t → bytes_eq name e.name ≡ false
          by true same = absurd (true≢false
              (sym o.named ∙ ap (is_among b.names) (sym (same_name name e.name same)) ∙ free))
          by false is = is

      others_so : (t : Bool) → (written t).has_change ≡ true
          → lines_after (written t) name ≡ lines_of_name name text
      others_so true written_so = absurd (true≢false (sym written_so ∙ first))
      others_so false written_so =
          let among = is_among others name in
          let same = ap (λ (n : List (List ℕ)). is_among n name) (sym others_are) in
          other_after e.name own others (modules_now b) old name among other_name
          (other_way name e.name other_name) refl
          ∙ sym (settled b.names (modules_now b) old name free among same)
          ∙ ap (λ (now : List SomeLines). text_of now name) (now_is read)
          ∙ in_listing (lines text) name

      others_stand : (after_event b p e).has_change ≡ true
          → lines_after (after_event b p e) name ≡ lines_of_name name text
      others_stand changes = ap (λ (w : BlockWritten). lines_after w name) after_is ∙ others_so
          (is_silent e own old) (sym (ap (λ (w : BlockWritten). w.has_change) after_is) ∙ changes)

  pub has_own : HasOwn b text p e
  has_own read o = let (old, listed) = some_value p.carried.modules o.listed in
      own_stands old listed o read

  pub has_others : HasOthers b text p e
  has_others read o first changes name free = let (old, listed) =
      some_value p.carried.modules o.listed in
      others_stand old listed o read first name free changes
