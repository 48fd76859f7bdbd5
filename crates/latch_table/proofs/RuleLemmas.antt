-- Each step keeps the rule.
use Rattle.latch_table.proofs.Words.{◌≡◌, ◌≢◌, ℕ, zero, suc, ◌<◌, List, [], ◌∷◌, ◌++◌, length, set}
use Rattle.latch_table.proofs.Words.{sym, refl, ap, ◌∙◌, subst, ⊎_elim, Option, Some, None}
use Rattle.latch_table.proofs.Words.{IsPrefix, get_elem?, State, Me, step, keeps, stepped, opening}
use Rattle.latch_table.proofs.Words.{Allows, Splits, Joins, Order, IsLawful, Item, Store, at}
use Rattle.latch_table.proofs.Words.{words_after, Update, PendingUpdate, IsWriterStep}
use Rattle.latch_table.proofs.Words.{ReaderKnowledge, WriterKnowledge, Knowledge, IsKept, StandAll}
use Rattle.latch_table.proofs.Words.{IsLatched, reader_of, writer_of, writer_knowledge}
use Rattle.latch_table.proofs.Words.{new_reader_knowledge, joined_knowledge, no_knowledge}
use Rattle.latch_table.proofs.Words.{writer_alone, reader_alone, blank_reader, with_sequence}
use Rattle.latch_table.proofs.Words.{with_word, with_loads, with_update, with_store, shown_after}
use Rattle.latch_table.proofs.Words.{ReaderKnows, WriterKnows, WriterPart, ReaderPart, SeatKnows}
use Rattle.latch_table.proofs.Words.{KnowledgeHolds, LoadsSequence, as_writer, sequence_loaded}
use Rattle.latch_table.proofs.Words.{word_loaded, lookup_begun, writer_loaded, word_copied}
use Rattle.latch_table.proofs.Words.{update_taken, word_stored}
use mathlib.Core.Option.{some-injective, some-ne-none}
use lib.Seq.{set-get_or}
use Rattle.atomic_table.proofs.Lists.{at_set, at_snoc, set_else}
use Rattle.latch_table.proofs.ReaderLemmas.{reader_step, reader_sequence, looks, reader_word}
use Rattle.latch_table.proofs.ReaderLemmas.{reader_new}
use mathlib.Core.Option as maybe

-- what the seats know, after one of them has a new view
seats : (P : ℕ → Knowledge → Type 0) (vs : List Knowledge) (me : ℕ) (w : Knowledge) → P me w
    → ((j : ℕ) (v : Knowledge) → get_elem? vs j ≡ maybe.some v → j ≢ me → P j v)
    → (j : ℕ) (v : Knowledge) → get_elem? (set vs me w) j ≡ maybe.some v → P j v
seats P vs me w mine others j v e =
    ⊎_elim (λ (t : (j ≡ me) × (w ≡ v)).
    subst (λ (x : ℕ × Knowledge). P x.0 x.1) (λ i. (sym t.0 i, t.1 i)) mine)
    (λ (t : (j ≢ me) × (get_elem? vs j ≡ maybe.some v)). others j v t.1 t.0) (at_set vs me j w v e)

other_writers : (n base : ℕ) (words words' : List ℕ) (known known' : List Update)
    (writer_seat j : ℕ) (p : Option WriterKnowledge) → j ≢ writer_seat
    → WriterPart n base words known writer_seat j p
    → WriterPart n base words' known' writer_seat j p
other_writers n base words words' known known' writer_seat j None other k = tt
other_writers n base words words' known known' writer_seat j (Some p) other k = absurd (other k.0)

elsewhere : (vs : List Knowledge) (id other : ℕ) (v w : Knowledge) → ¬ (other ≡ id)
    → get_elem? (set vs id v) other ≡ maybe.some w → get_elem? vs other ≡ maybe.some w
elsewhere vs id other v w apart there = sym (set_else vs id other v apart) ∙ there

same_picture : (n base : ℕ) (q q' : WriterKnowledge) (words : List ℕ) (known : List Update)
    → q'.base ≡ q.base → q'.capacity ≡ q.capacity → q'.picture ≡ q.picture → q'.known ≡ q.known
    → WriterKnows n base words known q → WriterKnows n base words known q'
same_picture n base q q' words known b c e f k =
    record {
      based = b ∙ k.based;
      capacity = c ∙ k.capacity;
      picture = e ∙ k.picture;
      shown = f ∙ k.shown;
    }

module _ {K : Type 0} (o : Order K) where
  readers : (n base : ℕ) (words : List ℕ) (known : List Update) (words' : List ℕ)
      (known' : List Update) → ((e : ReaderKnowledge) → ReaderKnows o n base words known e
      → ReaderKnows o n base words' known' e) → (e : Option ReaderKnowledge)
      → ReaderPart o n base words known e → ReaderPart o n base words' known' e
  readers n base words known words' known' go None k = tt
  readers n base words known words' known' go (Some e) k = go e k

module _ {S K : Type 0} (o : Order K) (n base : ℕ) where
  -- a step that changes no word
  unmoved : (s : State S Knowledge) (r : KnowledgeHolds o n base s) (i me : ℕ) (cs : List (ℕ × S))
      (w : Knowledge) → SeatKnows o n base s.words r.known r.writer_seat me w
      → KnowledgeHolds o n base (stepped s i (at s.words i) me cs w keeps)
  unmoved s r i me cs w mine =
      subst (λ (ws : List ℕ).
      KnowledgeHolds o n base record { words = ws; homes = s.homes; views = set s.views me w })
      (sym (set-get_or s.words i 0))
      record {
        known = r.known;
        writer_seat = r.writer_seat;
        latched = r.latched;
        each = seats (SeatKnows o n base s.words r.known r.writer_seat) s.views me w mine
            (λ j v there _. r.each j v there);
      }

  -- a reader loads word 0
  pub allows_sequence : IsLawful o → (slots id : ℕ) (m : Me S Knowledge) (e : ReaderKnowledge)
      → m.0.reader ≡ Some e → Allows (KnowledgeHolds o n base) slots id m 0 (λ x. x)
      (sequence_loaded o (step slots 0 0 0 maybe.none) m)
  allows_sequence law slots id m e is s r _ there _ =
      let x : ℕ = at s.words 0 in
      let knows = r.each id m.0 there in
      let sees : ReaderKnows o n base s.words r.known e =
      subst (ReaderPart o n base s.words r.known) is knows.1 in
      let same : reader_of m.0 ≡ e =
      ap (λ (z : Option ReaderKnowledge). reader_of record { writer = None; reader = z }) is in
      let w : Knowledge =
      record { writer = m.0.writer; reader = Some (with_sequence x r.known (reader_of m.0)) } in (
        w,
        keeps,
        tt,
        unmoved s r 0 id m.1 w (
          knows.0,
          subst (λ (z : ReaderKnowledge).
              ReaderKnows o n base s.words r.known (with_sequence x r.known z)) (sym same)
              (reader_sequence o law n base s.words r.known e r.latched sees),
        ),
        (
          r.known,
          subst (λ (z : ReaderKnowledge). LoadsSequence o z x r.known) (sym same)
              (looks o law n base s.words r.known e r.latched sees),
          (λ p is_writer. sym (subst (WriterPart n base s.words r.known r.writer_seat id) is_writer
              knows.0).1.shown),
          refl,
        ),
      )

  -- a reader loads a word that is kept, wherever what it has loaded stands
  pub allows_word : (slots id i : ℕ) (m : Me S Knowledge) (e : ReaderKnowledge) (l : ℕ × ℕ)
      (ls : List (ℕ × ℕ)) → m.0.reader ≡ Some e → e.loads ≡ l ∷ ls
      → ((words : List ℕ) → StandAll e.capacity words (l ∷ ls) → IsKept e.capacity words i)
      → Allows (KnowledgeHolds o n base) slots id m i (λ x. x)
      (word_loaded (step slots i 0 0 maybe.none) m)
  allows_word slots id i m e l ls is loads leads s r _ there _ =
      let x : ℕ = at s.words i in
      let knows = r.each id m.0 there in
      let sees : ReaderKnows o n base s.words r.known e =
      subst (ReaderPart o n base s.words r.known) is knows.1 in
      let same : reader_of m.0 ≡ e =
      ap (λ (z : Option ReaderKnowledge). reader_of record { writer = None; reader = z }) is in
      let kept : StandAll n s.words (l ∷ ls) → IsKept n s.words i = subst
      (λ c. StandAll c s.words (l ∷ ls) → IsKept c s.words i) sees.capacity (leads s.words) in
      let w : Knowledge =
      record { writer = m.0.writer; reader = Some (with_word i x (reader_of m.0)) } in (
        w,
        keeps,
        tt,
        unmoved s r i id m.1 w (
          knows.0,
          subst (λ (z : ReaderKnowledge). ReaderKnows o n base s.words r.known (with_word i x z))
              (sym same) (reader_word o n base s.words r.known e l ls i loads kept sees),
        ),
        refl,
      )

  -- the writer loads, and what it then knows of the words is the same
  reads : (id i : ℕ) (m : Me S Knowledge) (p : WriterKnowledge) (new : WriterKnowledge → ℕ
      → WriterKnowledge) → ((q : WriterKnowledge) (x : ℕ) (words : List ℕ) (known : List Update)
      → WriterKnows n base words known q → WriterKnows n base words known (new q x))
      → m.0.writer ≡ Some p → (slots : ℕ) → Allows (KnowledgeHolds o n base) slots id m i (λ x. x)
      (λ x m'. (x ≡ at (writer_of m.0).picture i) × (m' ≡ as_writer (new (writer_of m.0) x) m))
  reads id i m p new stays is slots s r _ there _ =
      let x : ℕ = at s.words i in
      let knows = r.each id m.0 there in
      let mine : WriterPart n base s.words r.known r.writer_seat id (Some p) =
      subst (WriterPart n base s.words r.known r.writer_seat id) is knows.0 in
      let same : writer_of m.0 ≡ p =
      ap (λ (z : Option WriterKnowledge). writer_of record { writer = z; reader = None }) is in
      let w : Knowledge = record { writer = Some (new (writer_of m.0) x); reader = m.0.reader } in (
        w,
        keeps,
        tt,
        unmoved s r i id m.1 w (
          subst (λ (z : WriterKnowledge). WriterPart n base s.words r.known r.writer_seat id
              (Some (new z x))) (sym same) (mine.0, stays p x s.words r.known mine.1),
          knows.1,
        ),
        (
          ap (λ (z : List ℕ). at z i)
              (sym (ap (λ (z : WriterKnowledge). z.picture) same ∙ mine.1.picture)),
          refl,
        ),
      )

  pub allows_begin_lookup : (slots id i : ℕ) (m : Me S Knowledge) (p : WriterKnowledge)
      → m.0.writer ≡ Some p → Allows (KnowledgeHolds o n base) slots id m i (λ x. x)
      (lookup_begun (step slots i 0 0 maybe.none) m)
  allows_begin_lookup slots id i m p is =
      reads id i m p (λ q x. with_loads ((i, x) ∷ []) q) (λ q x ws us.
      same_picture n base q (with_loads ((i, x) ∷ []) q) ws us refl refl refl refl) is slots

  pub allows_writer_load : (slots id i : ℕ) (m : Me S Knowledge) (p : WriterKnowledge)
      → m.0.writer ≡ Some p → Allows (KnowledgeHolds o n base) slots id m i (λ x. x)
      (writer_loaded (step slots i 0 0 maybe.none) m)
  allows_writer_load slots id i m p is =
      reads id i m p (λ q x. with_loads (q.loads ++ (i, x) ∷ []) q) (λ q x ws us. same_picture n
      base q (with_loads (q.loads ++ (i, x) ∷ []) q) ws us refl refl refl refl) is slots

  -- the writer copies a word, and its seat stays as it was
  pub allows_copy : (slots id i : ℕ) (m : Me S Knowledge) (p : WriterKnowledge)
      → m.0.writer ≡ Some p → Allows (KnowledgeHolds o n base) slots id m i (λ x. x)
      (word_copied (step slots i 0 0 maybe.none) m)
  allows_copy slots id i m p is s r _ there _ =
      let knows = r.each id m.0 there in
      let mine : WriterPart n base s.words r.known r.writer_seat id (Some p) =
      subst (WriterPart n base s.words r.known r.writer_seat id) is knows.0 in
      let same : writer_of m.0 ≡ p = ap
      (λ (z : Option WriterKnowledge). writer_of record { writer = z; reader = None }) is in (
        m.0,
        keeps,
        tt,
        unmoved s r i id m.1 m.0 knows,
        (
          ap (λ (z : List ℕ). at z i)
              (sym (ap (λ (z : WriterKnowledge). z.picture) same ∙ mine.1.picture)),
          refl,
        ),
      )

  pub allows_take : (slots id i : ℕ) (m : Me S Knowledge) (p : WriterKnowledge) (u : Update)
      → m.0.writer ≡ Some p → Allows (KnowledgeHolds o n base) slots id m i (λ x. x)
      (update_taken o u (step slots i 0 0 maybe.none) m)
  allows_take slots id i m p u is =
      reads id i m p (λ q x. with_update o u q) (λ q x ws us.
      same_picture n base q (with_update o u q) ws us refl refl refl refl) is slots

  -- the writer stores, by a step that it may make
  pub allows_store : (slots id : ℕ) (m : Me S Knowledge) (p : WriterKnowledge) (table : List Item)
      (pending : Option PendingUpdate) (h : PendingUpdate) (t : Store) → m.0.writer ≡ Some p
      → 0 < length p.picture
      → IsWriterStep p.capacity
      (record { words = p.picture; newest_table = table; pending = pending }) h t
      → IsPrefix p.known (shown_after t.word p)
      → IsLatched o p.capacity p.base (words_after p.picture t) (shown_after t.word p)
      → Allows (KnowledgeHolds o n base) slots id m t.word (λ _. t.value)
      (λ _. word_stored (step slots t.word t.value 0 maybe.none) m t.value)
  allows_store slots id m p table pending h t is sized may more whole s r _ there _ =
      let knows = r.each id m.0 there in
      let mine : WriterPart n base s.words r.known r.writer_seat id (Some p) =
      subst (WriterPart n base s.words r.known r.writer_seat id) is knows.0 in
      let same : writer_of m.0 ≡ p =
      ap (λ (z : Option WriterKnowledge). writer_of record { writer = z; reader = None }) is in
      let words' : List ℕ = words_after s.words t in
      let known' : List Update = shown_after t.word p in
      let w : Knowledge =
      record { writer = Some (with_store t.word t.value (writer_of m.0)); reader = m.0.reader } in
      let along : (P : ℕ → ℕ → List ℕ → List Update → Type 0)
      → P p.capacity p.base p.picture p.known → P n base s.words r.known =
      λ P. subst (λ (z : ℕ × ℕ × List ℕ × List Update). P z.0 z.1 z.2 z.3)
      (λ k. (mine.1.capacity k, mine.1.based k, mine.1.picture k, mine.1.shown k)) in
      let go : (e : ReaderKnowledge) → ReaderKnows o n base s.words r.known e
      → ReaderKnows o n base words' known' e =
      along (λ c b ws us. (e : ReaderKnowledge) → ReaderKnows o c b ws us e
      → ReaderKnows o c b (words_after ws t) known' e)
      (λ e. reader_step o p.capacity p.base
      (record { words = p.picture; newest_table = table; pending = pending }) h t p.known
      known' e sized may more) in
      let whole' : IsLatched o n base words' known' =
      along (λ c b ws us. IsLatched o c b (words_after ws t) known') whole in
      let mine' : WriterPart n base words' known' r.writer_seat id
      (Some (with_store t.word t.value (writer_of m.0))) =
      subst (λ (z : WriterKnowledge). WriterPart n base words' known' r.writer_seat id
      (Some (with_store t.word t.value z))) (sym same) (
        mine.0,
        record {
          based = mine.1.based;
          capacity = mine.1.capacity;
          picture = ap (λ (z : List ℕ). words_after z t) mine.1.picture;
          shown = refl;
        },
      ) in
      let step_readers : (e : Option ReaderKnowledge) → ReaderPart o n base s.words r.known e
      → ReaderPart o n base words' known' e =
      readers o n base s.words r.known words' known' go in (
        w,
        keeps,
        tt,
        record {
          known = known';
          writer_seat = r.writer_seat;
          latched = whole';
          each = seats (SeatKnows o n base words' known' r.writer_seat) s.views id w
              (mine', step_readers m.0.reader knows.1)
              (λ j v at_j other.
              let its = r.each j v at_j in (
                other_writers n base s.words words' r.known known' r.writer_seat j v.writer
                    (λ e. other (e ∙ sym mine.0)) its.0,
                step_readers v.reader its.1,
              ));
        },
        refl,
      )

  -- a new reader
  pub splits_another : (id : ℕ) (v : Knowledge) (p : WriterKnowledge) → v.writer ≡ Some p
      → Splits {S = S} (KnowledgeHolds o n base) id v v (new_reader_knowledge v)
  splits_another id v p is s r there =
      let knows = r.each id v there in
      let mine : WriterPart n base s.words r.known r.writer_seat id (Some p) =
      subst (WriterPart n base s.words r.known r.writer_seat id) is knows.0 in
      let same : writer_of v ≡ p =
      ap (λ (z : Option WriterKnowledge). writer_of record { writer = z; reader = None }) is in
      let blank : blank_reader base n r.known
      ≡ blank_reader (writer_of v).base (writer_of v).capacity (writer_of v).known =
      λ k. blank_reader (sym (ap (λ (z : WriterKnowledge). z.base) same ∙ mine.1.based) k)
      (sym (ap (λ (z : WriterKnowledge). z.capacity) same ∙ mine.1.capacity) k)
      (sym (ap (λ (z : WriterKnowledge). z.known) same ∙ mine.1.shown) k) in
      record {
        known = r.known;
        writer_seat = r.writer_seat;
        latched = r.latched;
        each = λ j u at_j.
            ⊎_elim (seats (SeatKnows o n base s.words r.known r.writer_seat) s.views id v knows
            (λ i x here _. r.each i x here) j u)
            (λ (t : new_reader_knowledge v ≡ u).
            subst (SeatKnows o n base s.words r.known r.writer_seat j) t (
              tt,
              subst (ReaderKnows o n base s.words r.known) blank
                  (reader_new o n base s.words r.known r.latched),
            ))
            (at_snoc (set s.views id v) (new_reader_knowledge v) u j at_j);
      }

  -- a reader and the writer meet
  pub joins_meeting : (id other : ℕ) (v w : Knowledge)
      → Joins {S = S} (KnowledgeHolds o n base) id v other w (joined_knowledge v w) no_knowledge
  joins_meeting id other v w s r there apart its_at =
      let P = SeatKnows o n base s.words r.known r.writer_seat in
      let its = r.each other w (elsewhere s.views id other (joined_knowledge v w) w apart its_at) in
      record {
        known = r.known;
        writer_seat = r.writer_seat;
        latched = r.latched;
        each =
            λ j u here. seats P (set s.views id (joined_knowledge v w)) other no_knowledge (tt, tt)
            (λ i x now _. seats P s.views id (joined_knowledge v w) ((r.each id v there).0, its.1)
            (λ i' x' now' _. r.each i' x' now') i x now) j u here;
      }

  pub splits_meeting : (id : ℕ) (v : Knowledge)
      → Splits {S = S} (KnowledgeHolds o n base) id v (writer_alone v) (reader_alone v)
  splits_meeting id v s r there =
      let P = SeatKnows o n base s.words r.known r.writer_seat in
      let knows = r.each id v there in record {
        known = r.known;
        writer_seat = r.writer_seat;
        latched = r.latched;
        each = λ j u at_j.
            ⊎_elim (seats P s.views id (writer_alone v) (knows.0, tt)
            (λ i x here _. r.each i x here) j u)
            (λ (t : reader_alone v ≡ u). subst (P j) t (tt, knows.1))
            (at_snoc (set s.views id (writer_alone v)) (reader_alone v) u j at_j);
      }

  -- a row of words with what a writer knows
  pub opens : (words : List ℕ) (slots : List S) (p : WriterKnowledge)
      → WriterKnows n base words p.known p → IsLatched o n base words p.known
      → KnowledgeHolds o n base (opening words slots (writer_knowledge p))
  opens words slots p knows whole =
      record { known = p.known; writer_seat = 0; latched = whole; each = first_knows }
    where
      first_knows : (seat : ℕ) (v : Knowledge) → get_elem? (writer_knowledge p ∷ []) seat
          ≡ maybe.some v → SeatKnows o n base words p.known 0 seat v
      first_knows zero v e = subst (SeatKnows o n base words p.known 0 0)
          (some-injective (writer_knowledge p) v e) ((refl, knows), tt)
      first_knows (suc k) v e = absurd (some-ne-none v (sym e))
