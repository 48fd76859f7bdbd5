-- The writer's core, its seat and the pending update, from one call to the next.
use Rattle.latch_table.proofs.Words.{◌≡◌, ◌≢◌, ℕ, suc, ◌+◌, ◌-◌, ◌*◌, ◌%◌, ◌<◌, ◌≤◌, true, false}
use Rattle.latch_table.proofs.Words.{cond, List, [], ◌∷◌, ◌++◌, length, take, drop, Option, Some}
use Rattle.latch_table.proofs.Words.{None, refl, sym, ◌∙◌, ap, subst, inl, inr, ⊎_elim, arith}
use Rattle.latch_table.proofs.Words.{length-append, length-set, ◌⊎◌, ◌==◌, ◌&&◌, MatchOption}
use Rattle.latch_table.proofs.Words.{nat_lt, eq-eqb, ne_eqb, take-append-le, take-append-drop}
use Rattle.latch_table.proofs.Words.{take_all, length-take-le, length-replicate, IsPrefix, Me, step}
use Rattle.latch_table.proofs.Words.{Allows, opening, TableId, Order, IsLawful, look, Item}
use Rattle.latch_table.proofs.Words.{first_and_rest, IsPrefix-whole, Store, at, words_for}
use Rattle.latch_table.proofs.Words.{HoldsTable, words_per_node, words_after, length_after, Update}
use Rattle.latch_table.proofs.Words.{generation_of, stable_copy_of, refusal_for, replay}
use Rattle.latch_table.proofs.Words.{PendingUpdate, Latch, IsWriterStep, flips_after}
use Rattle.latch_table.proofs.Words.{latch_after_step, opening_latch, IsPendingUpdate, IsPendingOf}
use Rattle.latch_table.proofs.Words.{IsSound, WriterView, RepresentsLatch, next_store, why_refused}
use Rattle.latch_table.proofs.Words.{has_pending, writer_after_step, HasBegun, opening_writer}
use Rattle.latch_table.proofs.Words.{flip_adds, hidden_same, flips_of_flip, flips_of_store}
use Rattle.latch_table.proofs.Words.{sound_step, sound_begin, sound_opening, WriterKnowledge}
use Rattle.latch_table.proofs.Words.{Knowledge, Answer, attempt, IsAttempt, loads_of, IsLatched}
use Rattle.latch_table.proofs.Words.{FindsIn, writer_of, writer_knowledge, with_store, with_loads}
use Rattle.latch_table.proofs.Words.{with_update, shown_after, blank_writer, KnowledgeHolds}
use Rattle.latch_table.proofs.Words.{as_writer, word_stored, WriterState, shown_updates}
use Rattle.latch_table.proofs.Words.{steps_left_of, kind_of_store, Steps, Finds, Begins, pending_of}
use Rattle.latch_table.proofs.Words.{writer_state, IsTied, state_with_update, state_after_step}
use Rattle.latch_table.proofs.Words.{OnTheWay, Finishes, Layout, capacity_of}
use Rattle.latch_core.proofs.WriterLemmas.{rests_before, next_may, did_pictures, refuses_pictured}
use Rattle.latch_table.proofs.RuleLemmas.{allows_store, opens}
use Rattle.latch_table.specs.declared.writers.Did.{Did}
use Rattle.latch_table.specs.declared.writers.Did.TheVariants.{Flip, Store as ToStore}
use mathlib.Core.Option as maybe

-- what a step does to the sequence, and at which of its numbers
abbrev StepKind : ℕ → ℕ → ℕ → ℕ → Type 0
StepKind w seq seq' flips =
    ((w ≢ 0) × (seq' ≡ seq))
    ⊎ ((w ≡ 0) × (seq' ≡ seq + 1)
    × (((stable_copy_of seq ≡ 0) × (flips ≡ 0)) ⊎ ((stable_copy_of seq ≡ 1) × (flips ≡ 1))))

kinds : (n : ℕ) (l : Latch) (h : PendingUpdate) (s : Store) → 0 < length l.words
    → IsWriterStep n l h s
    → StepKind s.word (at l.words 0) (at (words_after l.words s) 0) h.flips_made
kinds n l h s sized may =
    ⊎_elim (λ hid. inl (hid.not_sequence, hidden_same n l.words h.old_words s hid 0 (inl refl)))
    (⊎_elim (λ f. inr
    (f.sequence, flip_adds l.words s sized f.sequence f.adds_one, inl (f.is_even, f.no_flip)))
    (λ f. inr
    (f.sequence, flip_adds l.words s sized f.sequence f.adds_one, inr (f.is_odd, f.one_flip))))
    may.kind

-- what is shown after a step that is not the second flip, and after that one
shown_before : (w : ℕ) (p : WriterKnowledge) → (w ≢ 0) ⊎ (stable_copy_of (at p.picture 0) ≡ 0)
    → shown_after w p ≡ p.known
shown_before w p why =
    ⊎_elim
    (λ other. let e : (w == 0) ≡ false = ne_eqb w 0 other in rw e refl)
    (λ even.
    let e : (stable_copy_of (at p.picture 0) == 1) ≡ false =
    ne_eqb (stable_copy_of (at p.picture 0)) 1 (let f : at p.picture 0 % 2 ≡ 0 = even in
    λ z. omega arith) in
    elim (w == 0) as (λ b.
    cond (b && (stable_copy_of (at p.picture 0) == 1)) p.accepted p.known ≡ p.known) [
      | true ↦ rw e refl
      | false ↦ refl
    ])
    why

shown_second : (w : ℕ) (p : WriterKnowledge) → w ≡ 0 → stable_copy_of (at p.picture 0) ≡ 1
    → shown_after w p ≡ p.accepted
shown_second w p z odd =
    let e : (w == 0) ≡ true = eq-eqb w 0 z in
    let f : (stable_copy_of (at p.picture 0) == 1) ≡ true =
    eq-eqb (stable_copy_of (at p.picture 0)) 1 odd in
    rw e (rw f refl)

-- the updates that are shown after a step are those that the sequence then names
shown_step : (seq' w flips : ℕ) (p : WriterKnowledge)
    → at p.picture 0 + 2 ≡ 2 * p.base + 2 * length p.accepted + flips
    → p.known ≡ take (generation_of (at p.picture 0) - p.base) p.accepted
    → StepKind w (at p.picture 0) seq' flips
    → shown_after w p ≡ take (generation_of seq' - p.base) p.accepted
shown_step seq' w flips p count was kind =
    ⊎_elim
    (λ k. shown_before w p (inl k.0) ∙ was
    ∙ ap (λ z. take (generation_of z - p.base) p.accepted) (sym k.1))
    (λ k.
    ⊎_elim
    (λ j.
    let even : at p.picture 0 % 2 ≡ 0 = j.0 in
    let same : generation_of (at p.picture 0) - p.base ≡ generation_of seq' - p.base =
    (let e = k.1 in omega arith) in
    shown_before w p (inr j.0) ∙ was ∙ ap (λ z. take z p.accepted) same)
    (λ j.
    let odd : at p.picture 0 % 2 ≡ 1 = j.0 in
    let one = j.1 in
    let there : length p.accepted ≤ generation_of seq' - p.base = (let e = k.1 in omega arith) in
    shown_second w p k.0 j.0 ∙ sym (take_all (generation_of seq' - p.base) p.accepted there))
    k.2)
    kind

shown_grows : (g w : ℕ) (p : WriterKnowledge) → p.known ≡ take g p.accepted
    → IsPrefix p.known (shown_after w p)
shown_grows g w p was =
    elim (w == 0 && stable_copy_of (at p.picture 0) == 1) as (λ b.
    IsPrefix p.known (cond b p.accepted p.known)) [
      | true ↦ (
        drop g p.accepted,
        ap (λ (z : List Update). z ++ drop g p.accepted) was ∙ take-append-drop g p.accepted,
      )
      | false ↦ IsPrefix-whole p.known
    ]

-- the hand after a step: none after the last
hand_step : (rest : List Store) (p p' : WriterKnowledge) (s : Store) → p'.old ≡ p.old
    → p'.began ≡ p.began → at p'.picture 0 + 2 - (2 * p'.base + 2 * length p'.accepted)
    ≡ flips_after (at p.picture 0 + 2 - (2 * p.base + 2 * length p.accepted)) s
    → pending_of rest p' ≡ cond (suc (length rest) == 1) None (Some (record {
      old_table = p.old;
      old_words = p.began;
      flips_made = flips_after (at p.picture 0 + 2 - (2 * p.base + 2 * length p.accepted)) s;
      steps_left = suc (length rest) - 1;
    }))
hand_step [] p p' s a b e = refl
hand_step (t ∷ rest) p p' s a b e =
    let more : (suc (suc (length rest)) == 1) ≡ false =
    ne_eqb (suc (suc (length rest))) 1 (λ z. omega arith) in
    let less : suc (length rest) ≡ suc (suc (length rest)) - 1 = omega arith in
    rw more (λ i.
    Some (record { old_table = a i; old_words = b i; flips_made = e i; steps_left = less i }))

left_hand : (ss : List Store) (p : WriterKnowledge) → steps_left_of (pending_of ss p) ≡ length ss
left_hand [] p = refl
left_hand (s ∷ ss) p = refl

module _ {S K : Type 0} (o : Order K) (place : TableId) (readers : ℕ) (m : Me S Knowledge)
    (core : WriterView) where
  abbrev here : WriterState
  here = writer_state place readers m.0 core

  abbrev p : WriterKnowledge
  p = writer_of m.0

  pub words_sized : IsTied o m core here → length p.picture ≡ words_for core.capacity
  words_sized tied = sym (length_after p.picture core.stores_left) ∙ tied.pictures.at_rest.sized

  -- the picture holds the table of what was shown
  pub latched_now : IsTied o m core here → IsLatched o core.capacity p.base p.picture p.known
  latched_now tied =
      subst (IsLatched o core.capacity p.base p.picture) (sym tied.known)
      (let bounds = within here.latch.pending tied.sound.in_hand in
      let low = bounds.0 in
      let high = bounds.1 in
      let two : generation_of (2 * p.base) ≡ p.base = omega arith in record {
        sized = words_sized tied;
        counted = omega (
          arith,
          length-take-le (generation_of (at p.picture 0) - p.base) here.history (omega arith),
        );
        is_table = (tied.sound.tables (generation_of (at p.picture 0) - p.base)).0;
        fits = (tied.sound.tables (generation_of (at p.picture 0) - p.base)).1;
        holds = subst (λ g. HoldsTable p.picture core.capacity (stable_copy_of (at p.picture 0))
            (replay o [] (take (generation_of (at p.picture 0) - g) here.history))) two
            tied.sound.current;
      })
    where
      within : (h : Option PendingUpdate)
          → IsPendingOf o (2 * p.base) (at p.picture 0) here.history h
          → (2 * p.base ≤ at p.picture 0) × (at p.picture 0 ≤ 2 * p.base + 2 * length here.history)
      within None is = (omega arith, omega arith)
      within (Some h) is = let count = is.count in
          let some = is.last in
          let most = is.flips in
          (omega arith, omega arith)

  -- a lookup of the writer changes nothing but its loads
  pub tied_loads : (m' : Me S Knowledge) (loads : List (ℕ × ℕ)) → IsTied o m core here
      → m' ≡ (writer_knowledge (with_loads loads p), [])
      → IsTied o m' core (writer_state place readers m'.0 core)
      × (writer_state place readers m'.0 core ≡ record here { loads = loads })
  tied_loads m' loads tied is =
      subst (λ (z : Me S Knowledge). IsTied o z core (writer_state place readers z.0 core)
      × (writer_state place readers z.0 core ≡ record here { loads = loads })) (sym is) (
        record {
          alone = refl;
          capacity = tied.capacity;
          pictures = tied.pictures;
          sound = tied.sound;
          known = tied.known;
        },
        refl,
      )

  pub finds_state : IsTied o m core here
      → (n : ℕ) (k : K) (loads : List (ℕ × ℕ)) (r : Option Item × ℕ) → n ≡ core.capacity
      → FindsIn o n k p loads r → (new : WriterState) → new ≡ record here { loads = loads }
      → Finds o here k new r
  finds_state tied n k loads r cap f new is =
      let same : new.loads ≡ loads = ap (λ (w : WriterState). w.loads) is in (
        is ∙ (λ i. record here { loads = sym same i }),
        f.found ∙ ap (λ us. look o k (replay o [] us)) tied.known,
        f.generation,
        (
          f.values,
          subst (λ c. IsAttempt o c k f.values (Answer r.0 r.1)) cap f.whole,
          same ∙ f.loaded ∙ ap (λ c. loads_of (attempt o c k) f.values) cap,
          subst (λ us. length f.values ≤ 4 * length (replay o [] us) + 3) tied.known f.few,
        ),
      )

  module _ (tied : IsTied o m core here) (s : Store) (next : next_store core ≡ Some s) where
    abbrev rest : List Store
    rest = drop 1 core.stores_left

    left_is : core.stores_left ≡ s ∷ rest
    left_is = first_and_rest core.stores_left s next

    abbrev pending : PendingUpdate
    pending = record {
      old_table = p.old;
      old_words = p.began;
      flips_made = at p.picture 0 + 2 - (2 * p.base + 2 * length p.accepted);
      steps_left = suc (length rest);
    }

    pub hand_is : here.latch.pending ≡ Some pending
    hand_is = ap (λ ss. pending_of ss p) left_is

    pub may_step : IsWriterStep core.capacity here.latch pending s
    may_step =
        let t : (h : PendingUpdate) × (here.latch.pending ≡ Some h)
        × IsWriterStep core.capacity here.latch h s =
        subst (λ x. MatchOption x (here.latch.pending ≡ None) (λ y. (h : PendingUpdate)
        × (here.latch.pending ≡ Some h) × IsWriterStep core.capacity here.latch h y)) next
        (next_may core here.latch tied.pictures) in
        let same : t.0 ≡ pending = (let e = t.1 in let f = hand_is in cc) in
        subst (λ h. IsWriterStep core.capacity here.latch h s) same t.2

    sized : 0 < length p.picture
    sized = omega (arith, words_sized tied)

    is_hand : IsPendingUpdate o (2 * p.base) (at p.picture 0) p.accepted pending
    is_hand =
        subst (IsPendingOf o (2 * p.base) (at p.picture 0) p.accepted) hand_is tied.sound.in_hand

    abbrev picture' : List ℕ
    picture' = words_after p.picture s

    abbrev known' : List Update
    known' = shown_after s.word p

    kind : StepKind s.word (at p.picture 0) (at picture' 0) pending.flips_made
    kind = kinds core.capacity here.latch pending s sized may_step

    shown_now : known' ≡ take (generation_of (at picture' 0) - p.base) p.accepted
    shown_now = shown_step (at picture' 0) s.word pending.flips_made p is_hand.count tied.known kind

    sound' : IsSound o core.capacity (2 * p.base) p.accepted (latch_after_step here.latch pending s)
    sound' = sound_step o core.capacity (2 * p.base) p.accepted here.latch pending s tied.sound
        hand_is may_step

    bounds : (2 * p.base ≤ at picture' 0) × (at picture' 0 ≤ 2 * p.base + 2 * length p.accepted)
    bounds =
        let count = is_hand.count in
        let some = is_hand.last in
        let most = is_hand.flips in
        ⊎_elim (λ k. let e = k.1 in (omega arith, omega arith)) (λ k. let e = k.1 in
        ⊎_elim (λ j. let f = j.1 in (omega arith, omega arith)) (λ j. let f = j.1 in
        (omega arith, omega arith)) k.2) kind

    -- the words after the step hold the table of what is shown then
    pub latched_after : IsLatched o p.capacity p.base picture' known'
    latched_after =
        subst (λ c. IsLatched o c p.base picture' known') (sym tied.capacity)
        (subst (IsLatched o core.capacity p.base picture') (sym shown_now)
        record {
          sized = length-set p.picture s.word s.value ∙ words_sized tied;
          counted = let low = bounds.0 in let high = bounds.1 in omega (
            arith,
            length-take-le (generation_of (at picture' 0) - p.base) p.accepted (omega arith),
          );
          is_table = (sound'.tables (generation_of (at picture' 0) - p.base)).0;
          fits = (sound'.tables (generation_of (at picture' 0) - p.base)).1;
          holds = let two : generation_of (2 * p.base) ≡ p.base = omega arith in
              subst (λ g. HoldsTable picture' core.capacity (stable_copy_of (at picture' 0))
              (replay o [] (take (generation_of (at picture' 0) - g) p.accepted))) two
              sound'.current;
        })

    -- so the store may be made
    pub allows_next : (n base slots id : ℕ) → Allows (KnowledgeHolds {S = S} o n base) slots id m
        s.word (λ _. s.value) (λ _. word_stored (step slots s.word s.value 0 maybe.none) m s.value)
    allows_next n base slots id =
        allows_store o n base slots id m p core.table here.latch.pending pending s
        (ap (λ (z : Me S Knowledge). z.0.writer) tied.alone) sized
        (subst (λ c. IsWriterStep c here.latch pending s) (sym tied.capacity) may_step)
        (shown_grows (generation_of (at p.picture 0) - p.base) s.word p tied.known) latched_after

    -- and then the core and the seat are tied again
    abbrev m' : Me S Knowledge
    m' = as_writer (with_store s.word s.value p) m

    abbrev here' : WriterState
    here' = writer_state place readers m'.0 (writer_after_step core s)

    flips' : at picture' 0 + 2 - (2 * p.base + 2 * length p.accepted)
        ≡ flips_after pending.flips_made s
    flips' =
        let count = is_hand.count in
        ⊎_elim (λ k. let e = k.1 in omega (arith, flips_of_store pending.flips_made s k.0))
        (λ k. let e = k.1 in omega (arith, flips_of_flip pending.flips_made s k.0)) kind

    pub state_after : here' ≡ state_after_step here pending s
    state_after =
        let hand' = hand_step rest p (with_store s.word s.value p) s refl refl flips' in
        λ i. record here {
          latch = record { words = picture'; newest_table = core.table; pending = hand' i };
        }

    pub steps_next : (did : Did) → did ≡ kind_of_store s → Steps here here' (Some did)
    steps_next did is =
        let left : steps_left_of here'.latch.pending + 1 ≡ steps_left_of here.latch.pending =
        omega (arith, left_hand rest (with_store s.word s.value p), ap steps_left_of hand_is) in
        (left, (pending, s, hand_is, may_step, is, state_after))

    pub tied_after : IsTied o m' (writer_after_step core s) here'
    tied_after = record {
      alone = λ k. as_writer (with_store s.word s.value p) (tied.alone k);
      capacity = tied.capacity;
      pictures = subst (λ (w : WriterState). RepresentsLatch (writer_after_step core s) w.latch)
          (sym state_after) (did_pictures core here.latch pending s tied.pictures hand_is next);
      sound = subst (λ (w : WriterState). IsSound o w.capacity (2 * w.base) w.history w.latch)
          (sym state_after) sound';
      known = subst (λ (w : WriterState). known' ≡ shown_updates w) (sym state_after) shown_now;
    }

module _ {S K : Type 0} (o : Order K) (law : IsLawful o) (place : TableId) (readers : ℕ)
    (m : Me S Knowledge) (core : WriterView) where
  abbrev rests : WriterState
  rests = writer_state place readers m.0 core

  module _ (tied : IsTied o m core rests) (u : Update) (accepted : why_refused o core u ≡ None)
      (core' : WriterView) (began : HasBegun o core u core') where
    abbrev q : WriterKnowledge
    q = writer_of m.0

    abbrev taken : Me S Knowledge
    taken = (writer_knowledge (with_update o u q), [])

    abbrev busy : WriterState
    busy = writer_state place readers taken.0 core'

    hand_rests : rests.latch.pending ≡ None
    hand_rests = ap (λ ss. pending_of ss q) (rests_before o core u accepted)

    counted : at q.picture 0 ≡ 2 * q.base + 2 * length q.accepted
    counted =
        subst (IsPendingOf o (2 * q.base) (at q.picture 0) q.accepted) hand_rests tied.sound.in_hand

    all_known : q.known ≡ q.accepted
    all_known = tied.known ∙ take_all (generation_of (at q.picture 0) - q.base) q.accepted (let e =
        counted in omega arith)

    history_busy : busy.history ≡ rests.history ++ u ∷ []
    history_busy = ap (λ (z : List Update). z ++ u ∷ []) all_known

    none_flipped : at q.picture 0 + 2 - (2 * q.base + 2 * length busy.history) ≡ 0
    none_flipped = omega (
      arith,
      counted,
      ap (λ (z : List Update). length z) history_busy,
      length-append q.accepted (u ∷ []),
    )

    old_table : replay o [] q.known ≡ core.table
    old_table = ap (replay o []) all_known ∙ sym tied.sound.table_is

    hand_busy : busy.latch.pending ≡ Some (record {
      old_table = core.table;
      old_words = q.picture;
      flips_made = 0;
      steps_left = length core'.stores_left;
    })
    hand_busy = some_left core'.stores_left began.some
      where
        some_left : (left : List Store) → 0 < length left
            → pending_of left (with_update o u q) ≡ Some (record {
              old_table = core.table;
              old_words = q.picture;
              flips_made = 0;
              steps_left = length left;
            })
        some_left [] some = absurd (omega arith)
        some_left (s ∷ ss) some = λ i. Some (record {
          old_table = old_table i;
          old_words = q.picture;
          flips_made = none_flipped i;
          steps_left = length (s ∷ ss);
        })

    pub state_begun : busy ≡ state_with_update o rests u (length core'.stores_left)
    state_begun = λ i. record {
      place = place;
      readers = readers;
      base = q.base;
      capacity = (began.rest i).capacity;
      limit = (began.rest i).limit;
      history = history_busy i;
      latch =
          record { words = q.picture; newest_table = (began.rest i).table; pending = hand_busy i };
      loads = q.loads;
    }

    pub tied_begun : IsTied o taken core' busy
    tied_begun =
        let room : generation_of (at q.picture 0) - q.base ≤ length q.accepted =
        (let e = counted in omega arith) in
        record {
          alone = refl;
          capacity = tied.capacity ∙ sym (ap (λ (w : WriterView). w.capacity) began.rest);
          pictures = subst (λ (w : WriterState). RepresentsLatch core' w.latch) (sym state_begun)
              (began.pictures rests.latch tied.pictures);
          sound = subst (λ (w : WriterState). IsSound o w.capacity (2 * w.base) w.history w.latch)
              (sym state_begun)
              (sound_begin o law core.capacity core.limit (2 * q.base) q.accepted rests.latch u
              (length core'.stores_left) tied.sound hand_rests
              (not_busy ∙ accepted));
          known = subst (λ (w : WriterState). q.known ≡ shown_updates w) (sym state_begun)
              (tied.known ∙ sym
              (take-append-le (generation_of (at q.picture 0) - q.base) q.accepted (u ∷ []) room));
        }
      where
        not_busy : refusal_for o core.capacity core.limit false core.table (at q.picture 0) u
            ≡ why_refused o core u
        not_busy = λ i. refusal_for o core.capacity core.limit (none_now i) core.table
            (tied.pictures.sequence i) u
          where
            none_now : false ≡ has_pending core
            none_now = sym
                (ap (λ (ss : List Store). nat_lt 0 (length ss)) (rests_before o core u accepted))

    -- the update is pending
    pub begins : Begins o rests u busy
    begins = (
      refuses_pictured o core rests.latch u tied.pictures ∙ accepted,
      (length core'.stores_left, began.some, began.few, state_begun),
    )

pub did_flip : (s : Store) (did : Did) → s.word ≡ 0 → did ≡ Flip → did ≡ kind_of_store s
did_flip s did z is = let e : (s.word == 0) ≡ true = eq-eqb s.word 0 z in
    is ∙ sym (ap (λ b. cond b Flip ToStore) e)

pub did_store : (s : Store) (did : Did) → s.word ≢ 0 → did ≡ ToStore → did ≡ kind_of_store s
did_store s did other is = let e : (s.word == 0) ≡ false = ne_eqb s.word 0 other in
    is ∙ sym (ap (λ b. cond b Flip ToStore) e)

pub steps_down : (w w' : WriterState) (did : Did) → Steps w w' (Some did)
    → steps_left_of w'.latch.pending < steps_left_of w.latch.pending
steps_down w w' did s = omega (arith, s.0)

pub on_the_way : (w a b : WriterState) (did : Did) → OnTheWay w a → Steps a b (Some did)
    → OnTheWay w b
on_the_way w a b did way s =
    let there : b ≡ record a { latch = b.latch } =
    subst (λ (z : WriterState). z ≡ record a { latch = z.latch }) (sym s.1.5) refl in
    there ∙ (λ i. record (way i) { latch = b.latch })

pub finishes : (w a b : WriterState) (g : ℕ) → OnTheWay w a → Steps a b None
    → g ≡ generation_of (at b.latch.words 0) → Finishes w b g
finishes w a b g way s is =
    let there : OnTheWay w b = subst (OnTheWay w) (sym s.1) way in
    let all : b.history ≡ w.history = ap (λ (z : WriterState). z.history) there in
    let base : b.base ≡ w.base = ap (λ (z : WriterState). z.base) there in
    let same : b ≡ a = s.1 in
    let shown : shown_updates b ≡ b.history =
    subst (λ (z : WriterState). shown_updates z ≡ z.history) (sym same) s.2 in
    let counted : generation_of (at b.latch.words 0) ≡ b.base + length b.history =
    subst (λ (z : WriterState). generation_of (at z.latch.words 0) ≡ z.base + length z.history)
    (sym same) s.3 in (
      there,
      ap (λ (z : WriterState). z.latch.pending) same ∙ s.0,
      shown ∙ all,
      is ∙ counted ∙ (λ i. base i + length (all i)),
    )

module _ {K : Type 0} (o : Order K) (n start : ℕ) (even : stable_copy_of start ≡ 0) where
  latched_opening : IsLatched o n (generation_of start) (opening_latch n start).words []
  latched_opening = record {
    sized = omega (arith, length-replicate {A = ℕ} (words_per_node * n + 2) 0);
    counted = omega arith;
    is_table = tt;
    fits = omega arith;
    holds = subst (HoldsTable (opening_latch n start).words n (stable_copy_of start))
        (ap (replay o []) (take_all (generation_of start - generation_of start) [] (omega arith)))
        (sound_opening o n start even).current;
  }

  -- a row of these words keeps the rule
  pub opens_first : {S : Type 0} (words : List ℕ) (slots : List S)
      → words ≡ (opening_latch n start).words → KnowledgeHolds o n (generation_of start)
      (opening words slots (writer_knowledge (blank_writer n start)))
  opens_first words slots is =
      opens o n (generation_of start) words slots (blank_writer n start)
      (record { based = refl; capacity = refl; picture = sym is; shown = refl })
      (subst (λ m. IsLatched o n (generation_of start) m []) (sym is) latched_opening)

-- and the core is tied to its first seat
pub tied_opening : {S K : Type 0} (o : Order K) (l : Layout) (start : ℕ) → stable_copy_of start ≡ 0
    → (place : TableId) (readers : ℕ) (m : Me S Knowledge) (core : WriterView)
    → m ≡ (writer_knowledge (blank_writer (capacity_of l) start), [])
    → core ≡ opening_writer l start → RepresentsLatch core (opening_latch (capacity_of l) start)
    → IsTied o m core (writer_state place readers m.0 core)
tied_opening {S} o l start even place readers m core is opened pictures =
    let n : ℕ = capacity_of l in
    let first : Me S Knowledge = (writer_knowledge (blank_writer n start), []) in
    let twice : start ≡ 2 * generation_of start = (let e : start % 2 ≡ 0 = even in omega arith) in
    let sound : IsSound o n (2 * generation_of start) [] (opening_latch n start) = subst
    (λ s. IsSound o n s [] (opening_latch n start)) twice (sound_opening o n start even) in
    subst (λ (z : Me S Knowledge × WriterView).
    IsTied o z.0 z.1 (writer_state place readers z.0.0 z.1)) (λ i. (sym is i, sym opened i))
    (record {
      alone = refl;
      capacity = refl;
      pictures =
          subst (λ (w : WriterView). RepresentsLatch w (opening_latch n start)) opened pictures;
      sound = sound;
      known = sym (take_all (generation_of start - generation_of start) [] (omega arith));
    })
