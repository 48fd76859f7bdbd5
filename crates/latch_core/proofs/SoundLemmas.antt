-- What the writer's steps keep: the stable copy always holds the table that the sequence names, and
-- a latch with no pending update the newest.
use Rattle.latch_core.proofs.Words.{◌≡◌, ◌≢◌, ℕ, ◌+◌, ◌%◌, ◌<◌, ◌≤◌, true, false, cond, List, []}
use Rattle.latch_core.proofs.Words.{◌∷◌, ◌++◌, length, take, Some, None, refl, sym, ◌∙◌, ap, subst}
use Rattle.latch_core.proofs.Words.{inl, inr, ⊎_elim, arith, length-append, length-set, Option}
use Rattle.latch_core.proofs.Words.{get_or-set_other, ◌==◌, ◌⊎◌, not, ne_eqb, eqb-true, cases_lt}
use Rattle.latch_core.proofs.Words.{eqb-false, ltb-false, not-false, or_parts, take-append-le}
use Rattle.latch_core.proofs.Words.{take_all, get_or-replicate, Store, Update, Item, Order}
use Rattle.latch_core.proofs.Words.{IsLawful, IsTable, meets, with_item, without, without_all}
use Rattle.latch_core.proofs.Words.{after, refusal_for, replay, some_overlap, some_meet, table_at}
use Rattle.latch_core.proofs.Words.{current_table, words_per_node, at, root_word, none, HoldsTable}
use Rattle.latch_core.proofs.Words.{by_root, InUse, generation_of, stable_copy_of, PendingUpdate}
use Rattle.latch_core.proofs.Words.{Latch, IsWriterStep, flips_after, latch_after_step}
use Rattle.latch_core.proofs.Words.{latch_with_update, opening_latch, IsHidden, words_after}
use Rattle.latch_core.proofs.Words.{IsPendingUpdate, IsPendingOf, IsSound, IsStanding, AreTables}
use Rattle.latch_core.proofs.Words.{holds_on, flip_same, flip_adds, Insert, Erase, Batch, attempt}
use Rattle.latch_core.proofs.Words.{without_none, without_one, with_item_table, without_table}
use Rattle.latch_core.proofs.Words.{length_with_item, length_without, length_without_all}
use Rattle.latch_core.proofs.Words.{without_all_table, not_meeting, all_valid, all_apart, all_off}
use Rattle.latch_core.proofs.Words.{with_items_table, length_with_items, nat_tests}
use Rattle.std.proofs.Common.{◌-◌, ◌*◌}
use Rattle.std.proofs.lemmas.Bool.{eq-eqb}
use Rattle.latch_core.proofs.TestLemmas.{NoneHolds, all_tests, none_holds}
use Rattle.latch_core.proofs.ReadingLemmas.{AllLoads, stand_on}
use Rattle.latch_core.proofs.WalkLemmas.{walk_uses}

-- what a step does to the words
pub hidden_same : (n : ℕ) (m began : List ℕ) (s : Store) → IsHidden n m began s.word → (w : ℕ)
    → (w ≡ 0) ⊎ InUse m n (stable_copy_of (at m 0)) w → at (words_after m s) w ≡ at m w
hidden_same n m began s h w p = grind (arith, nat_tests, get_or-set_other)

-- the sequence after a step: the same, or one more
pub sequence_after : (n : ℕ) (l : Latch) (h : PendingUpdate) (s : Store) → 0 < length l.words
    → IsWriterStep n l h s
    → (IsHidden n l.words h.old_words s.word × (at (words_after l.words s) 0 ≡ at l.words 0))
    ⊎ (at (words_after l.words s) 0 ≡ at l.words 0 + 1)
sequence_after n l h s sized may =
    ⊎_elim
    (λ hid. inl (hid, hidden_same n l.words h.old_words s hid 0 (inl refl)))
    (⊎_elim (λ f. inr (flip_adds l.words s sized f.sequence f.adds_one))
    (λ f. inr (flip_adds l.words s sized f.sequence f.adds_one)))
    may.kind

-- the words that an attempt loads
pub attempt_uses : {K : Type 0} (o : Order K) (m : List ℕ) (n : ℕ) (k : K)
    → AllLoads m (λ w. (w ≡ 0) ⊎ InUse m n (stable_copy_of (at m 0)) w) (attempt o n k)
attempt_uses o m n k = (
  inl refl,
  (
    inr (inl refl),
    walk_uses o m n k (at m 0) n (at m (root_word (stable_copy_of (at m 0))))
        (λ i e lt. by_root i lt e),
  ),
)

-- a reader's attempt stands through each step of the writer
pub standing_step : {K : Type 0} (o : Order K) (n : ℕ) (k : K) (l : Latch) (h : PendingUpdate)
    (s : Store) (v : List ℕ) → 0 < length l.words → IsWriterStep n l h s
    → IsStanding l.words (attempt o n k) v → IsStanding (words_after l.words s) (attempt o n k) v
standing_step o n k l h s [] sized may st = tt
standing_step o n k l h s (x ∷ v) sized may st =
    ⊎_elim
    (λ (hid, e). (
      omega arith,
      λ is.
          let was : x ≡ at l.words 0 = omega arith in
          stand_on l.words (words_after l.words s)
          (λ w. (w ≡ 0) ⊎ InUse l.words n (stable_copy_of (at l.words 0)) w)
          (hidden_same n l.words h.old_words s hid) (attempt o n k) (x ∷ v)
          (attempt_uses o l.words n k) (st.1 was),
    ))
    (λ e. let le = st.0 in (omega arith, λ is. absurd (omega arith)))
    (sequence_after n l h s sized may)

-- one item more, one item less
pub after_insert : {K : Type 0} (o : Order K) (table : List Item) (i : Item)
    → after o table (Insert i) ≡ with_item o i table
after_insert o table i = ap (with_item o i) (without_none table)

pub after_erase : {K : Type 0} (o : Order K) (table : List Item) (a : ℕ)
    → after o table (Erase a) ≡ without a table
after_erase o table a = without_one a table

-- the table after an accepted update is one, and fits
pub accepted_table : {K : Type 0} (o : Order K) → IsLawful o
    → (n limit : ℕ) (table : List Item) (seq : ℕ) (u : Update)
    → refusal_for o n limit false table seq u ≡ None → IsTable o table → length table ≤ n
    → IsTable o (after o table u) × (length (after o table u) ≤ n)
accepted_table o law n limit table seq (Insert i) e t fits =
    let (valid, free, ne) : (not (o.valid i) ≡ false) × (meets o i table ≡ false)
    × ((length table == n) ≡ false) =
    (let h : NoneHolds (all_tests o n limit false table seq (Insert i)) =
    none_holds (all_tests o n limit false table seq (Insert i)) e in
    (h.1.0, h.1.1.0, h.1.1.1.0)) in
    let differ : length table ≢ n = eqb-false (length table) n ne in
    subst (λ new. IsTable o new × (length new ≤ n)) (sym (after_insert o table i)) (
      with_item_table o law i table (not-false (o.valid i) valid) (not_meeting o i table free) t,
      omega (arith, length_with_item o i table),
    )
accepted_table o law n limit table seq (Erase a) e t fits =
    subst (λ new. IsTable o new × (length new ≤ n)) (sym (after_erase o table a))
    (without_table o a table t, omega (arith, length_without a table))
accepted_table o law n limit table seq (Batch erase insert) e t fits =
    let rest = without_all erase table in
    let h : NoneHolds (all_tests o n limit false table seq (Batch erase insert)) =
    none_holds (all_tests o n limit false table seq (Batch erase insert)) e in
    let overlaps = or_parts (some_overlap o insert) (some_meet o insert rest) h.1.1.1.0 in
    let full = ltb-false n (length table + length insert) h.1.1.1.1.0 in (
      with_items_table o law insert rest (all_valid o insert h.1.0) (all_apart o insert overlaps.0)
          (all_off o insert rest overlaps.1) (without_all_table o erase table t),
      omega (arith, length_with_items o insert rest, length_without_all erase table),
    )

pub replay_push : {K : Type 0} (o : Order K) (table : List Item) (us : List Update) (u : Update)
    → replay o table (us ++ u ∷ []) ≡ after o (replay o table us) u
replay_push o table [] u = refl
replay_push o table (v ∷ us) u = replay_push o (after o table v) us u

pub tables_push : {K : Type 0} (o : Order K) → IsLawful o
    → (n limit : ℕ) (us : List Update) (seq : ℕ) (u : Update)
    → refusal_for o n limit false (replay o [] us) seq u ≡ None → AreTables o n us
    → AreTables o n (us ++ u ∷ [])
tables_push o law n limit us seq u e h j =
    grind (
      arith,
      nat_tests,
      take_all,
      length-append,
      accepted_table,
      replay_push,
      take-append-le,
      cases_lt,
    )

-- what a step leaves, by its kind: the sequence, the number of flips, and what the stable copy
-- holds
record Left {K : Type 0} (o : Order K) (n start : ℕ) (us : List Update) (l : Latch)
    (h : PendingUpdate) (s : Store) : Type 0 where
  sequence : at (words_after l.words s) 0 + h.flips_made ≡ at l.words 0 + flips_after h.flips_made s
  flips : flips_after h.flips_made s ≤ 2
  current : HoldsTable (words_after l.words s) n (stable_copy_of (at (words_after l.words s) 0))
      (current_table o start us (words_after l.words s))

pub flips_of_flip : (f : ℕ) (s : Store) → s.word ≡ 0 → flips_after f s ≡ f + 1
flips_of_flip f s z = let e : (s.word == 0) ≡ true = eq-eqb s.word 0 z in rw e refl

pub flips_of_store : (f : ℕ) (s : Store) → s.word ≢ 0 → flips_after f s ≡ f
flips_of_store f s z = let e : (s.word == 0) ≡ false = ne_eqb s.word 0 z in rw e refl

module _ {K : Type 0} (o : Order K) (n start : ℕ) (us : List Update) (l : Latch) (h : PendingUpdate)
    (s : Store) (ok : IsSound o n start us l) where
  -- a flip leads readers to this copy, which holds the table of the next generation
  left_by_flip : (copy : ℕ) (table : List Item) → s.word ≡ 0 → s.value ≡ at l.words 0 + 1
      → h.flips_made ≤ 1 → stable_copy_of (at l.words 0 + 1) ≡ copy
      → table ≡ table_at o start us (generation_of (at l.words 0 + 1))
      → HoldsTable l.words n copy table → Left o n start us l h s
  left_by_flip copy table first value few to is holds =
      let adds = flip_adds l.words s ok.sized first value in
      let one_made = flips_of_flip h.flips_made s first in
      let there = holds_on l.words (words_after l.words s) n copy table
      (flip_same n copy l.words s first) holds in
      let here = subst (λ c. HoldsTable (words_after l.words s) n c
      (table_at o start us (generation_of (at l.words 0 + 1)))) (sym to)
      (subst (HoldsTable (words_after l.words s) n copy) is there) in
      record {
        sequence = omega (arith, adds, one_made);
        flips = omega (arith, one_made, few);
        current = subst (λ q. HoldsTable (words_after l.words s) n (stable_copy_of q)
            (table_at o start us (generation_of q))) (sym adds) here;
      }

  left_by : IsPendingUpdate o start (at l.words 0) us h → IsWriterStep n l h s
      → Left o n start us l h s
  left_by pending may =
      let c = pending.count in
      let ev : start % 2 ≡ 0 = ok.even in
      ⊎_elim
      (λ hid.
      let same : at (words_after l.words s) 0 ≡ at l.words 0 =
      hidden_same n l.words h.old_words s hid 0 (inl refl) in
      let none_made : flips_after h.flips_made s ≡ h.flips_made =
      flips_of_store h.flips_made s hid.not_sequence in
      let still = holds_on l.words (words_after l.words s) n (stable_copy_of (at l.words 0))
      (current_table o start us l.words)
      (λ w u. hidden_same n l.words h.old_words s hid w (inr u)) ok.current in
      record {
        sequence = omega (arith, same, none_made);
        flips = omega (arith, none_made, pending.flips);
        current = subst (λ q. HoldsTable (words_after l.words s) n (stable_copy_of q)
            (table_at o start us (generation_of q))) (sym same) still;
      })
      (⊎_elim
      (λ f.
      let e : at l.words 0 % 2 ≡ 0 = f.is_even in
      let z : h.flips_made ≡ 0 = f.no_flip in
      let g : generation_of (at l.words 0 + 1) - generation_of start ≡ length us - 1 =
      (let some : 0 < length us = pending.last in omega arith) in
      left_by_flip 1 h.old_table f.sequence f.adds_one (omega arith) (omega arith)
      (pending.old ∙ ap (λ j. replay o [] (take j us)) (sym g)) f.both_old.1)
      (λ f.
      let e : at l.words 0 % 2 ≡ 1 = f.is_odd in
      let z : h.flips_made ≡ 1 = f.one_flip in
      let g : generation_of (at l.words 0 + 1) - generation_of start ≡ length us = omega arith in
      left_by_flip 0 l.newest_table f.sequence f.adds_one (omega arith) (omega arith)
      (ok.table_is ∙ ap (replay o []) (sym (take_all (length us) us (omega arith)))
      ∙ ap (λ j. replay o [] (take j us)) (sym g)) f.first_new))
      may.kind

pub sound_step : {K : Type 0} (o : Order K) (n start : ℕ) (us : List Update) (l : Latch)
    (h : PendingUpdate) (s : Store) → IsSound o n start us l → l.pending ≡ Some h
    → IsWriterStep n l h s → IsSound o n start us (latch_after_step l h s)
sound_step o n start us l h s ok in_hand may =
    let pending : IsPendingUpdate o start (at l.words 0) us h =
    subst (IsPendingOf o start (at l.words 0) us) in_hand ok.in_hand in
    let left = left_by o n start us l h s ok pending may in
    record {
      even = ok.even;
      sized = omega (arith, length-set l.words s.word s.value, ok.sized);
      tables = ok.tables;
      table_is = ok.table_is;
      in_hand =
          elim (h.steps_left == 1) as (λ b. (h.steps_left == 1) ≡ b
          → IsPendingOf o start (at (words_after l.words s) 0) us (cond b None (Some (record {
            old_table = h.old_table;
            old_words = h.old_words;
            flips_made = flips_after h.flips_made s;
            steps_left = h.steps_left - 1;
          })))) [
            | true ↦ λ e. omega (arith, (may.at_end (eqb-true h.steps_left 1 e)).0)
            | false ↦ λ e. record {
              count = omega (arith, left.sequence, pending.count);
              flips = left.flips;
              last = pending.last;
              old = pending.old;
            }
          ] refl;
      current = left.current;
    }

pub sound_begin : {K : Type 0} (o : Order K) → IsLawful o
    → (n limit start : ℕ) (us : List Update) (l : Latch) (u : Update) (left : ℕ)
    → IsSound o n start us l → l.pending ≡ None
    → refusal_for o n limit false l.newest_table (at l.words 0) u ≡ None
    → IsSound o n start (us ++ u ∷ []) (latch_with_update o l u left)
sound_begin o law n limit start us l u left ok free e =
    let seq : at l.words 0 ≡ start + 2 * length us =
    subst (IsPendingOf o start (at l.words 0) us) free ok.in_hand in
    let more = length-append us (u ∷ []) in
    let front : take (length (us ++ u ∷ []) - 1) (us ++ u ∷ []) ≡ us =
    (let k : length (us ++ u ∷ []) - 1 ≡ length us = omega arith in
    ap (λ j. take j (us ++ u ∷ [])) k ∙ take-append-le (length us) us (u ∷ []) (omega arith)
    ∙ take_all (length us) us (omega arith)) in
    let g : generation_of (at l.words 0) - generation_of start ≤ length us =
    (let ev : start % 2 ≡ 0 = ok.even in omega arith) in
    let same : table_at o start (us ++ u ∷ []) (generation_of (at l.words 0))
    ≡ current_table o start us l.words = ap (replay o [])
    (take-append-le (generation_of (at l.words 0) - generation_of start) us (u ∷ []) g) in
    record {
      even = ok.even;
      sized = ok.sized;
      tables = tables_push o law n limit us (at l.words 0) u
          (subst (λ t. refusal_for o n limit false t (at l.words 0) u ≡ None) ok.table_is e)
          ok.tables;
      table_is = ap (λ t. after o t u) ok.table_is ∙ sym (replay_push o [] us u);
      in_hand = record {
        count = omega arith;
        flips = omega arith;
        last = omega arith;
        old = ok.table_is ∙ ap (replay o []) (sym front);
      };
      current = subst (HoldsTable l.words n (stable_copy_of (at l.words 0))) (sym same) ok.current;
    }

pub sound_opening : {K : Type 0} (o : Order K) (n start : ℕ) → stable_copy_of start ≡ 0
    → IsSound o n start [] (opening_latch n start)
sound_opening {K = K} o n start even =
    let m = (opening_latch n start).words in
    let no : (j : ℕ) → replay o [] (take j []) ≡ [] =
    λ j. ap (replay o []) (take_all j [] (omega arith)) in
    let root : at m (root_word (stable_copy_of start)) ≡ 0 = ap (λ c. at m (root_word c)) even
    ∙ get_or-replicate (words_per_node * n + 2) 0 0 0 (omega arith) in
    record {
      even = even;
      sized = omega arith;
      tables = λ j.
          (subst (IsTable o) (sym (no j)) tt, subst (λ t. length t ≤ n) (sym (no j)) (omega arith));
      table_is = refl;
      in_hand = omega arith;
      current = (
        none,
        record {
          leads = root;
          listed_items = sym (no (generation_of start - generation_of start));
        },
      );
    }

-- the sequence names no more updates than were accepted
pub gen_within : {K : Type 0} (o : Order K) (n start : ℕ) (us : List Update) (l : Latch)
    → IsSound o n start us l → generation_of (at l.words 0) - generation_of start ≤ length us
gen_within o n start us l ok = by l.pending ok.in_hand
  where
    by : (h : Option PendingUpdate) → IsPendingOf o start (at l.words 0) us h
        → generation_of (at l.words 0) - generation_of start ≤ length us
    by None e = let ev : start % 2 ≡ 0 = ok.even in omega arith
    by (Some h) e = let ev : start % 2 ≡ 0 = ok.even in
        omega (arith, e.count, e.flips, e.last)

-- with nothing pending the sequence names all accepted updates
pub sequence_at_rest : {K : Type 0} (o : Order K) (n start : ℕ) (us : List Update) (l : Latch)
    → IsSound o n start us l → l.pending ≡ None → at l.words 0 ≡ start + 2 * length us
sequence_at_rest o n start us l ok rest =
    subst (IsPendingOf o start (at l.words 0) us) rest ok.in_hand

pub current_at_rest : {K : Type 0} (o : Order K) (n start : ℕ) (us : List Update) (l : Latch)
    → IsSound o n start us l → l.pending ≡ None → current_table o start us l.words ≡ replay o [] us
current_at_rest o n start us l ok rest = grind (arith, nat_tests, sequence_at_rest, take_all)

-- before any update none is pending
pub none_begun : {K : Type 0} (o : Order K) (n start : ℕ) (l : Latch) → IsSound o n start [] l
    → l.pending ≡ None
none_begun o n start l ok = go l.pending ok.in_hand
  where
    go : (h : Option PendingUpdate) → IsPendingOf o start (at l.words 0) [] h → h ≡ None
    go None is = refl
    go (Some h) is = absurd (omega (arith, is.last))

-- the table after a list of updates
pub table_at_rest : {K : Type 0} (o : Order K) (n start : ℕ) (us : List Update) (l : Latch)
    → IsSound o n start us l → IsTable o (replay o [] us)
table_at_rest o n start us l ok =
    subst (λ v. IsTable o (replay o [] v)) (take_all (length us) us (omega arith))
    (ok.tables (length us)).0

-- and the current table is the newest
pub rest_is_current : {K : Type 0} (o : Order K) (n start : ℕ) (us : List Update) (l : Latch)
    → IsSound o n start us l → l.pending ≡ None → current_table o start us l.words ≡ l.newest_table
rest_is_current o n start us l ok rest = current_at_rest o n start us l ok rest ∙ sym ok.table_is
