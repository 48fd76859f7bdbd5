-- One attempt: a walk, whose loads are those of a reader's seat or of the writer's.
use Rattle.latch_table.proofs.Words.{◌≡◌, ◌≢◌, ℕ, List, [], ◌∷◌, ◌++◌, Option, Some, None, true}
use Rattle.latch_table.proofs.Words.{false, cond, refl, sym, ◌∙◌, ap, subst, append_assoc}
use Rattle.latch_table.proofs.Words.{append-nil, ◌==◌, eqb-true, IsPrefix, Me, TableId, Item, Order}
use Rattle.latch_table.proofs.Words.{IsLawful, look, IsPrefix-along, IsPrefix-whole, Update}
use Rattle.latch_table.proofs.Words.{generation_of, replay, Reading, Load, Ends, Outcome, Answer}
use Rattle.latch_table.proofs.Words.{Again, WalkEnd, AtItem, AtEmptyLink, Stuck, outcome, last_load}
use Rattle.latch_table.proofs.Words.{attempt, attempt_after, rest_after, IsAttempt, Stand, loads_of}
use Rattle.latch_table.proofs.Words.{IsKept, StandAll, IsLatched, wanted_kept, loads_push}
use Rattle.latch_table.proofs.Words.{ReaderKnowledge, Knowledge, Try, Answered, Retry}
use Rattle.latch_table.proofs.Words.{reader_knowledge, reader_of, with_sequence, with_word}
use Rattle.latch_table.proofs.Words.{writer_of, writer_knowledge, with_loads, LoadsSequence}
use Rattle.latch_table.proofs.Words.{as_writer, AreRetries, KnowsMore, EndedAttempt, Tried}
use Rattle.latch_table.proofs.Words.{Searched, Searches, MayLoad, IsReading, LearnsWord}
use Rattle.latch_table.proofs.Words.{LearnsSequence, IsWriting, WriterLearns, at, WriterKnowledge}
use Rattle.latch_table.proofs.Words.{FindsIn}
use Rattle.latch_core.proofs.ReadingLemmas.{rest_push, stand_push}
use Rattle.latch_core.proofs.WalkLemmas.{attempt_length, attempt_answers, attempt_loads}
use Rattle.latch_core.specs.Loading.{Leads, IsReady, HasTried}
use Rattle.latch_core.proofs.LoadingLemmas.{leads_along}

-- a walk that ended so, whose loads were those of a reader who learnt nothing else
pub record HasWalked {K : Type 0} (o : Order K) (k : K) (first : ℕ) (before e : ReaderKnowledge)
    (found : WalkEnd) : Type 0 where
  pub same : e ≡ record before { loads = e.loads; ended = e.ended }
  pub values : List ℕ
  pub loads : e.loads ≡ loads_of (attempt o e.capacity k) (first ∷ values)
  pub rest : rest_after (attempt o e.capacity k) (first ∷ values) ≡ Some (last_load first found)

module _ {T S K : Type 0} (table_of : T → TableId) (me_of : T → Me S Knowledge) (o : Order K)
    (n : ℕ) (k : K) where
  abbrev known : T → ReaderKnowledge
  known s = reader_of (me_of s).0

  abbrev gives : T → ℕ → ℕ → T → Type 0
  gives s w x s' = (table_of s' ≡ table_of s) × LearnsWord (me_of s) w x (me_of s')

  -- a seat that has loaded these values of an attempt, and learnt nothing else
  record IsAlong (table : TableId) (begun : ReaderKnowledge) (s : T) (values : List ℕ) : Type
      0 where
    reading : IsReading table (table_of s) (me_of s)
    same : known s ≡ record begun { loads = (known s).loads; ended = (known s).ended }
    made : (known s).loads ≡ loads_of (attempt o n k) values

  goes_along : (table : TableId) (begun : ReaderKnowledge) (s s' : T) (v : List ℕ) (w x : ℕ)
      (go : ℕ → Reading) → IsAlong table begun s v
      → rest_after (attempt o n k) v ≡ Some (Load w go) → gives s w x s'
      → IsAlong table begun s' (v ++ x ∷ [])
  goes_along table begun s s' v w x go h e g =
      let there : known s' ≡ with_word w x (known s) =
      ap (λ (m : Me S Knowledge). reader_of m.0) g.1 in
      record {
        reading = (g.0 ∙ h.reading.0, g.1 ∙ (λ i. (reader_knowledge (sym there i), [])));
        same = there ∙ (λ i. with_word w x (h.same i))
            ∙ (λ i. record begun { loads = (sym there i).loads; ended = (sym there i).ended });
        made = ap (λ (z : ReaderKnowledge). z.loads) there
            ∙ ap (λ (z : List (ℕ × ℕ)). z ++ (w, x) ∷ []) h.made
            ∙ sym (loads_push (attempt o n k) v w go x e);
      }

  module _ (table : TableId) (begun : ReaderKnowledge) (capacity : begun.capacity ≡ n) (first : ℕ)
      (loads : begun.loads ≡ (0, first) ∷ []) (s : T)
      (reading : IsReading table (table_of s) (me_of s)) (is : known s ≡ begun) where
    begins : IsAlong table begun s (first ∷ [])
    begins = record {
      reading = reading;
      same = is ∙ (λ i. record begun { loads = (sym is i).loads; ended = (sym is i).ended });
      made = ap (λ (z : ReaderKnowledge). z.loads) is ∙ loads;
    }

    led : (v : List ℕ) (m : T) (r : Reading) → Leads gives s (attempt_after o n k first) v m r
        → IsAlong table begun m (first ∷ v) × (rest_after (attempt o n k) (first ∷ v) ≡ Some r)
    led v m r h = leads_along gives (IsAlong table begun) (attempt o n k) (goes_along table begun) s
        (attempt_after o n k first) (first ∷ []) begins refl v m r h

    may_load : (v : List ℕ) (m : T) (w : ℕ) (go : ℕ → Reading) → IsAlong table begun m (first ∷ v)
        → rest_after (attempt o n k) (first ∷ v) ≡ Some (Load w go) → MayLoad (known m) w
    may_load v m w go h e =
        let at_own : (known m).capacity ≡ n =
        ap (λ (z : ReaderKnowledge). z.capacity) h.same ∙ capacity in (
          (0, first),
          loads_of (attempt_after o n k first) v,
          h.made,
          λ words st. subst (λ c. IsKept c words w) (sym at_own)
              (wanted_kept o n k words (first ∷ v) w go e
              (subst (λ c. StandAll c words (loads_of (attempt o n k) (first ∷ v))) at_own st)),
        )

    pub ready : IsReady (λ m w. IsReading table (table_of m) (me_of m) × MayLoad (known m) w) gives
        (λ m. IsReading table (table_of m) (me_of m)) s (attempt_after o n k first)
    ready = record {
      loads = λ v m w go h some. let a = led v m (Load w go) h in
          (a.0.reading, may_load v m w go a.0 a.1);
      ends = λ v m r h. (led v m r h).0.reading;
    }

    -- the walk of a whole attempt
    pub walked : (v : List ℕ) (m : T) (found : WalkEnd)
        → Leads gives s (attempt_after o n k first) v m (last_load first found)
        → IsReading table (table_of m) (me_of m) × HasWalked o k first begun (known m) found
    walked v m found h =
        let a = led v m (last_load first found) h in
        let at_own : (known m).capacity ≡ n =
        ap (λ (z : ReaderKnowledge). z.capacity) a.0.same ∙ capacity in (
          a.0.reading,
          record {
            same = a.0.same;
            values = v;
            loads = subst (λ c. (known m).loads ≡ loads_of (attempt o c k) (first ∷ v)) (sym at_own)
                a.0.made;
            rest =
                subst (λ c. rest_after (attempt o c k) (first ∷ v) ≡ Some (last_load first found))
                (sym at_own) a.1;
          },
        )

-- the second reading of the sequence
module _ {K : Type 0} (o : Order K) (k : K) (before begun e : ReaderKnowledge) (s : ℕ)
    (found : WalkEnd) (all : List Update) (first : LoadsSequence o before s all)
    (is_begun : begun ≡ with_sequence s all before) (walk_is : HasWalked o k s begun e found) where
  module _ (t : ℕ) (known : List Update) (looks : LoadsSequence o e t known) where
    abbrev e' : ReaderKnowledge
    e' = with_sequence t known e

    abbrev n : ℕ
    n = e.capacity

    along : e ≡ record (with_sequence s all before) { loads = e.loads; ended = e.ended }
    along = walk_is.same ∙ (λ i. record (is_begun i) { loads = e.loads; ended = e.ended })

    abbrev values : List ℕ
    values = s ∷ walk_is.values

    ended : rest_after (attempt o n k) (values ++ t ∷ []) ≡ Some (Ends (outcome s t (found)))
    ended = rest_push (attempt o n k) values 0 (λ x. Ends (outcome s x (found))) t walk_is.rest

    loads_now : e'.ended ≡ loads_of (attempt o n k) (values ++ t ∷ [])
    loads_now = ap (λ (z : List (ℕ × ℕ)). z ++ (0, t) ∷ []) walk_is.loads
        ∙ sym (loads_push (attempt o n k) values 0 (λ x. Ends (outcome s x (found))) t walk_is.rest)

    grows_now : KnowsMore before e'
    grows_now = record {
      base = ap (λ (z : ReaderKnowledge). z.base) along;
      capacity = ap (λ (z : ReaderKnowledge). z.capacity) along;
      floor = ap (λ (z : ReaderKnowledge). z.floor) along;
      known = IsPrefix-along before.known e.known known (subst (IsPrefix before.known)
          (sym (ap (λ (z : ReaderKnowledge). z.known) along)) first.begins) looks.begins;
    }

    seen_now : e'.seen ≡ before.seen ++ s ∷ t ∷ []
    seen_now = ap (λ (z : ReaderKnowledge). z.seen ++ t ∷ []) along
        ∙ append_assoc before.seen (s ∷ []) (t ∷ [])

    module _ (out : Outcome) (is : outcome s t (found) ≡ out) where
      whole : IsAttempt o n k (values ++ t ∷ []) out
      whole = ended ∙ ap (λ (z : Outcome). Some (Ends z)) is

      abbrev attempted : EndedAttempt o k e' out
      attempted = record {
        values = values ++ t ∷ [];
        whole = whole;
        loads = loads_now;
        few = attempt_length o n k (values ++ t ∷ []) (Ends out) whole;
      }

      -- if it is the first number again, the attempt is an answer
      right_now : t ≡ s → out ≡ Answer (look o k (replay o [] known)) (generation_of s)
      right_now same =
          let tail : values ++ t ∷ [] ≡ s ∷ (walk_is.values ++ s ∷ []) =
          ap (λ z. values ++ z ∷ []) same in
          looks.right k s walk_is.values out (subst (λ v. IsAttempt o n k v out) tail whole)
          (subst (λ v. e'.ended ≡ loads_of (attempt o n k) v) tail loads_now)

    pub answers_now : (a : Option Item) (g : ℕ) → t ≡ s → outcome s t (found) ≡ Answer a g
        → Tried o k before e' (Answered a g)
    answers_now a g same is =
        let right : Answer a g ≡ Answer (look o k (replay o [] known)) (generation_of s) =
        right_now (Answer a g) is same in
        let found : a ≡ look o k (replay o [] known) = cc in
        let of : g ≡ generation_of s = cc in (
          s,
          seen_now ∙ ap (λ z. before.seen ++ s ∷ z ∷ []) same,
          sym of,
          grows_now,
          attempted (Answer a g) is,
          record {
            floored = looks.floored;
            counted = looks.counted ∙ ap generation_of same ∙ sym of;
            found = found;
          },
        )

    pub retries_now : outcome s t (found) ≡ Again → Tried o k before e' Retry
    retries_now is = (
      s,
      t,
      seen_now,
      (λ same. absurd (let wrong = right_now Again is same in cc)),
      grows_now,
      attempted Again is,
      looks.floored,
    )

-- an answer is given only where the two numbers are the same
same_number : (s t : ℕ) (found : WalkEnd) (a : Option Item) (g : ℕ) → outcome s t found ≡ Answer a g
    → t ≡ s
same_number s t Stuck a g e = absurd (cc)
same_number s t (AtItem x) a g e =
    elim (s == t) as (λ b. (s == t) ≡ b
    → cond b (Answer (Some x) (generation_of s)) Again ≡ Answer a g → t ≡ s) [
      | true ↦ λ is h. sym (eqb-true s t is)
      | false ↦ λ is h. absurd (cc)
    ] refl e
same_number s t AtEmptyLink a g e =
    elim (s == t) as (λ b. (s == t) ≡ b → cond b (Answer None (generation_of s)) Again ≡ Answer a g
    → t ≡ s) [
      | true ↦ λ is h. sym (eqb-true s t is)
      | false ↦ λ is h. absurd (cc)
    ] refl e

-- what a try gives, as an outcome
abbrev pub outcome_of_try : Try → Outcome
outcome_of_try (Answered a g) = Answer a g
outcome_of_try Retry = Again

-- a whole attempt of a reader, whose seat has loaded the sequence once
module _ {T S K : Type 0} (table_of : T → TableId) (me_of : T → Me S Knowledge) (o : Order K)
    (n : ℕ) (k : K) (table : TableId) (before : ReaderKnowledge) (capacity : before.capacity ≡ n)
    (first : ℕ) (s : T) (own : table_of s ≡ table) (learns : (all : List Update) × LoadsSequence o
    before first all × (me_of s ≡ (reader_knowledge (with_sequence first all before), []))) where
  abbrev begun : ReaderKnowledge
  begun = with_sequence first learns.0 before

  begun_is : reader_of (me_of s).0 ≡ begun
  begun_is = ap (λ (m : Me S Knowledge). reader_of m.0) learns.2

  begun_reads : IsReading table (table_of s) (me_of s)
  begun_reads = (own, learns.2 ∙ (λ i. (reader_knowledge (sym begun_is i), [])))

  pub ready_now : IsReady
      (λ m w. IsReading table (table_of m) (me_of m) × MayLoad (reader_of (me_of m).0) w)
      (λ m w x m'. (table_of m' ≡ table_of m) × LearnsWord (me_of m) w x (me_of m'))
      (λ m. IsReading table (table_of m) (me_of m)) s (attempt_after o n k first)
  ready_now = ready table_of me_of o n k table begun capacity first refl s begun_reads begun_is

  module _ (s' : T) (out : Outcome) (loads : ℕ)
      (h : HasTried (λ m w x m'. (table_of m' ≡ table_of m) × LearnsWord (me_of m) w x (me_of m'))
      (λ m x m'. (table_of m' ≡ table_of m) × LearnsSequence o (me_of m) x (me_of m')) o n k first s
      s' out loads) where
    there : IsReading table (table_of h.m) (me_of h.m)
        × HasWalked o k first begun (reader_of (me_of h.m).0) h.found
    there = walked table_of me_of o n k table begun capacity first refl s begun_reads begun_is
        h.values h.m h.found h.leads

    ends_is : reader_of (me_of s').0 ≡ with_sequence h.last h.ended.1.0 (reader_of (me_of h.m).0)
    ends_is = ap (λ (m : Me S Knowledge). reader_of m.0) h.ended.1.2

    table_now : table_of s' ≡ table
    table_now = h.ended.0 ∙ there.0.0

    -- the attempt began with that load
    begun_now : IsPrefix (before.seen ++ first ∷ []) (reader_of (me_of s').0).seen
    begun_now = (
      h.last ∷ [],
      sym (ap (λ (e : ReaderKnowledge). e.seen) ends_is
          ∙ ap (λ (e : ReaderKnowledge). e.seen ++ h.last ∷ []) there.1.same),
    )

    tried_now : (t : Try) → outcome_of_try t ≡ out → Tried o k before (reader_of (me_of s').0) t
    tried_now (Answered a g) is =
        let comes = sym h.comes_to ∙ sym is in
        subst (λ (e : ReaderKnowledge). Tried o k before e (Answered a g)) (sym ends_is)
        (answers_now o k before begun (reader_of (me_of h.m).0) first h.found learns.0 learns.1 refl
        there.1 h.last h.ended.1.0 h.ended.1.1 a g (same_number first h.last h.found a g comes)
        comes)
    tried_now Retry is =
        subst (λ (e : ReaderKnowledge). Tried o k before e Retry) (sym ends_is)
        (retries_now o k before begun (reader_of (me_of h.m).0) first h.found learns.0 learns.1 refl
        there.1 h.last h.ended.1.0 h.ended.1.1 (sym h.comes_to ∙ sym is))

    -- all that an attempt says
    pub walk_now : (table_of s' ≡ table)
        × IsPrefix (before.seen ++ first ∷ []) (reader_of (me_of s').0).seen
        × ((t : Try) → outcome_of_try t ≡ out → Tried o k before (reader_of (me_of s').0) t)
    walk_now = (table_now, begun_now, tried_now)

-- one attempt after another
grows_along : (a b c : ReaderKnowledge) → KnowsMore a b → KnowsMore b c → KnowsMore a c
grows_along a b c p q = record {
  base = q.base ∙ p.base;
  capacity = q.capacity ∙ p.capacity;
  floor = q.floor ∙ p.floor;
  known = IsPrefix-along a.known b.known c.known p.known q.known;
}

pub searches_none : (e : ReaderKnowledge) → Searches e e
searches_none e = (
  [],
  sym (append-nil e.seen),
  record { base = refl; capacity = refl; floor = refl; known = IsPrefix-whole e.known },
  tt,
)

-- one attempt without an answer more
retries_more : (more : List ℕ) (s t : ℕ) → AreRetries more → t ≢ s → AreRetries (more ++ s ∷ t ∷ [])
retries_more [] s t h d = (d, tt)
retries_more (x ∷ []) s t h d = absurd h
retries_more (x ∷ y ∷ more) s t h d = (h.0, retries_more more s t h.1 d)

module _ {K : Type 0} (o : Order K) (k : K) where
  pub searches_more : (a b c : ReaderKnowledge) → Searches a b → Tried o k b c Retry → Searches a c
  searches_more a b c s t = (
    s.0 ++ t.0 ∷ t.1 ∷ [],
    t.2 ∙ (ap (λ (z : List ℕ). z ++ t.0 ∷ t.1 ∷ []) s.1 ∙ append_assoc a.seen s.0 (t.0 ∷ t.1 ∷ [])),
    grows_along a b c s.2 t.4,
    retries_more s.0 t.0 t.1 s.3 t.3,
  )

  pub searched : (a b c : ReaderKnowledge) (x : Option Item) (g : ℕ) → Searches a b
      → Tried o k b c (Answered x g) → Searched o k a c (x, g)
  searched a b c x g s t = (
    s.0,
    t.0,
    t.1 ∙ ap (λ (z : List ℕ). z ++ t.0 ∷ t.0 ∷ []) s.1,
    t.2,
    grows_along a b c s.2 t.3,
    t.4,
    t.5,
    s.3,
  )

-- the writer's seat after the first load of a lookup
pub own_begun_is : {S : Type 0} (m m' : Me S Knowledge) (p : WriterKnowledge) (loads : List (ℕ × ℕ))
    → m ≡ (writer_knowledge p, []) → m' ≡ as_writer (with_loads loads (writer_of m.0)) m
    → m' ≡ (writer_knowledge (with_loads loads p), [])
own_begun_is m m' p loads writes is =
    is ∙ (λ i. as_writer (with_loads loads (writer_of (writes i).0)) (writes i))

module _ {T S K : Type 0} (table_of : T → TableId) (me_of : T → Me S Knowledge) (o : Order K)
    (n : ℕ) (k : K) (table : TableId) (p : WriterKnowledge) where
  abbrev own_gives : T → ℕ → ℕ → T → Type 0
  own_gives s w x s' = (table_of s' ≡ table_of s) × WriterLearns (me_of s) w x (me_of s')

  -- the writer's seat has loaded these values of an attempt, each of which stands in its picture
  record IsWriterAlong (s : T) (values : List ℕ) : Type 0 where
    own : table_of s ≡ table
    view : me_of s ≡ (writer_knowledge (with_loads (loads_of (attempt o n k) values) p), [])
    stand : Stand p.picture (attempt o n k) values

  own_goes_along : (s s' : T) (v : List ℕ) (w x : ℕ) (go : ℕ → Reading) → IsWriterAlong s v
      → rest_after (attempt o n k) v ≡ Some (Load w go) → own_gives s w x s'
      → IsWriterAlong s' (v ++ x ∷ [])
  own_goes_along s s' v w x go h e g =
      let is : x ≡ at p.picture w =
      g.1.0 ∙ ap (λ (m : Me S Knowledge). at (writer_of m.0).picture w) h.view in
      record {
        own = g.0 ∙ h.own;
        view = g.1.1 ∙ (λ i. (
          writer_knowledge
              (with_loads ((writer_of (h.view i).0).loads ++ (w, x) ∷ []) (writer_of (h.view i).0)),
          [],
        ))
            ∙ (λ i. (
              writer_knowledge (with_loads (sym (loads_push (attempt o n k) v w go x e) i) p),
              [],
            ));
        stand = stand_push p.picture (attempt o n k) v w go x e h.stand (sym is);
      }

  module _ (first : ℕ) (s : T) (own : table_of s ≡ table) (is : first ≡ at p.picture 0)
      (view : me_of s ≡ (writer_knowledge (with_loads ((0, first) ∷ []) p), [])) where
    own_led : (v : List ℕ) (m : T) (r : Reading)
        → Leads own_gives s (attempt_after o n k first) v m r
        → IsWriterAlong m (first ∷ v) × (rest_after (attempt o n k) (first ∷ v) ≡ Some r)
    own_led v m r h = leads_along own_gives IsWriterAlong (attempt o n k) own_goes_along s
        (attempt_after o n k first) (first ∷ [])
        (record { own = own; view = view; stand = (sym is, tt) }) refl v m r h

    writing : (m : T) (v : List ℕ) → IsWriterAlong m v → IsWriting table (table_of m) (me_of m)
    writing m v h = (h.own, h.view ∙ (λ i. (writer_knowledge (writer_of (sym h.view i).0), [])))

    pub own_ready_now : IsReady (λ m w. IsWriting table (table_of m) (me_of m)) own_gives
        (λ m. IsWriting table (table_of m) (me_of m)) s (attempt_after o n k first)
    own_ready_now = record {
      loads = λ v m w go h some. writing m (first ∷ v) (own_led v m (Load w go) h).0;
      ends = λ v m r h. writing m (first ∷ v) (own_led v m r h).0;
    }

    module _ (s' : T) (out : Outcome) (loads : ℕ)
        (h : HasTried own_gives (λ m x m'. own_gives m 0 x m') o n k first s s' out loads) where
      abbrev own_values : List ℕ
      own_values = first ∷ (h.values ++ h.last ∷ [])

      ends_at : IsWriterAlong s' own_values
      ends_at =
          let a = own_led h.values h.m (last_load first h.found) h.leads in
          own_goes_along h.m s' (first ∷ h.values) 0 h.last (λ t. Ends (outcome first t h.found))
          a.0 a.1 h.ended

      own_table_now : table_of s' ≡ table
      own_table_now = ends_at.own

      view_now : me_of s' ≡ (writer_knowledge (with_loads (writer_of (me_of s').0).loads p), [])
      view_now = ends_at.view
          ∙ (λ i. (writer_knowledge (with_loads (writer_of (sym ends_at.view i).0).loads p), []))

      module _ (law : IsLawful o) (latched : IsLatched o n p.base p.picture p.known) where
        right : out ≡ Answer (look o k (replay o [] p.known)) (generation_of (at p.picture 0))
        right = attempt_answers o law p.picture n k (replay o [] p.known) latched.holds.0
            latched.holds.1 latched.is_table latched.fits own_values out ends_at.stand h.whole

        not_again : out ≡ Again → ⊥
        not_again is' = absurd (let wrong = sym right ∙ is' in cc)

        finds : (a : Option Item) (g : ℕ) → out ≡ Answer a g
            → FindsIn o n k p (writer_of (me_of s').0).loads (a, g)
        finds a g is' =
            let same : Answer a g
            ≡ Answer (look o k (replay o [] p.known)) (generation_of (at p.picture 0)) =
            sym is' ∙ right in
            record {
              found = cc;
              generation = cc;
              values = own_values;
              whole = h.whole ∙ ap (λ z. Some (Ends z)) is';
              loaded = ap (λ (m : Me S Knowledge). (writer_of m.0).loads) ends_at.view;
              few = attempt_loads o law p.picture n k (replay o [] p.known) latched.holds.0
                  latched.holds.1 latched.is_table latched.fits own_values ends_at.stand;
            }

        -- all that such an attempt says
        pub own_walk_now : (table_of s' ≡ table)
            × (me_of s' ≡ (writer_knowledge (with_loads (writer_of (me_of s').0).loads p), []))
            × ((a : Option Item) (g : ℕ) → out ≡ Answer a g
            → FindsIn o n k p (writer_of (me_of s').0).loads (a, g))
            × (out ≡ Again → ⊥)
        own_walk_now = (own_table_now, view_now, finds, not_again)
