-- What a reader remembers is the answer again while no update is shown.
use Rattle.latch_table.proofs.Words.{◌≡◌, ℕ, ◌+◌, List, [], ◌∷◌, ◌++◌, length, Option, Some, None}
use Rattle.latch_table.proofs.Words.{refl, sym, ⊎_elim, ◌∙◌, ap, subst, arith, append-nil}
use Rattle.latch_table.proofs.Words.{length-append, IsPrefix, Contains, Me, Item, Order, IsLawful}
use Rattle.latch_table.proofs.Words.{IsLook, IsPrefix-along, IsPrefix-whole, Update, generation_of}
use Rattle.latch_table.proofs.Words.{replay, ReaderKnowledge, Knowledge, Try, Answered, Retry}
use Rattle.latch_table.proofs.Words.{reader_of, with_sequence, LoadsSequence, KnowsMore, Answers}
use Rattle.latch_table.proofs.Words.{Tried, Remembers, MemoryHolds, IsRecalled, Recalled, Looked}
use Rattle.latch_table.proofs.Words.{memory_after, LearnsSequence, IfSome}
use Rattle.order_laws.proofs.TableLemmas.{look_is, look_only}

-- a prefix that is as long is the whole list
whole_prefix : {X : Type 0} (xs ys : List X) → IsPrefix xs ys → length xs ≡ length ys → xs ≡ ys
whole_prefix xs ys ([], is) e = sym (append-nil xs) ∙ is
whole_prefix xs ys (z ∷ zs, is) e =
    absurd (let f : length (xs ++ z ∷ zs) ≡ length ys = ap length is in
    omega (arith, length-append xs (z ∷ zs)))

-- after a load of the sequence a reader knows more
loads_more : {K : Type 0} (o : Order K) (e : ReaderKnowledge) (s : ℕ) (known : List Update)
    → LoadsSequence o e s known → KnowsMore e (with_sequence s known e)
loads_more o e s known h = record { base = refl; capacity = refl; floor = refl; known = h.begins }

module _ {K : Type 0} (o : Order K) where
  -- what is remembered stays true as the reader knows more
  pub remembers_more : (e e' : ReaderKnowledge) (last : Option (Item × ℕ)) → KnowsMore e e'
      → MemoryHolds o e last → MemoryHolds o e' last
  remembers_more e e' None more r = tt
  remembers_more e e' (Some x) more r = record {
    shown = r.shown;
    known = IsPrefix-along r.shown e.known e'.known r.known more.known;
    counted = ap (λ (b : ℕ). b + length r.shown) more.base ∙ r.counted;
    inside = r.inside;
  }

  -- an answer with an item may be remembered
  pub remembers_answer : (k : K) (e : ReaderKnowledge) (x : Item) (g : ℕ) → Answers o k e (Some x) g
      → Remembers o e x g
  remembers_answer k e x g a = record {
    shown = e.known;
    known = IsPrefix-whole e.known;
    counted = a.counted;
    inside = (subst (IsLook o k (replay o [] e.known)) (sym a.found)
        (look_is o k (replay o [] e.known))).0;
  }

  pub remembers_tried : (k : K) (e e' : ReaderKnowledge) (last : Option (Item × ℕ)) (t : Try)
      → Tried o k e e' t → MemoryHolds o e last → MemoryHolds o e' (memory_after last t)
  remembers_tried k e e' last (Answered (Some x) g) t r = remembers_answer k e' x g t.5
  remembers_tried k e e' last (Answered None g) t r = remembers_more e e' last t.3 r
  remembers_tried k e e' last Retry t r = remembers_more e e' last t.4 r

  -- an attempt leaves a reader that knows more, and so does a look
  pub tried_more : (k : K) (e e' : ReaderKnowledge) (t : Try) → Tried o k e e' t → KnowsMore e e'
  tried_more k e e' (Answered x g) t = t.3
  tried_more k e e' Retry t = t.4

  pub looked_more : (k : K) (memory : Option (Item × ℕ)) (e e' : ReaderKnowledge) (t : Try)
      → Looked o k memory e e' t → KnowsMore e e'
  looked_more k memory e e' t h = ⊎_elim (λ r. r.2.more) (λ s. tried_more k e e' t s.3) h

  -- what a look came to is an answer of the table that the reader then knows
  abbrev pub AnswersOf : K → ReaderKnowledge → Try → Type 0
  AnswersOf k e (Answered x g) = Answers o k e x g
  AnswersOf k e Retry = Unit {0}

  pub looked_answers : (k : K) (memory : Option (Item × ℕ)) (e e' : ReaderKnowledge) (t : Try)
      → Looked o k memory e e' t → AnswersOf k e' t
  looked_answers k memory e e' t h =
      ⊎_elim (λ r. subst (AnswersOf k e') (sym r.1) r.2.answers) (λ s. tried_answers t s.3) h
    where
      tried_answers : (t : Try) → Tried o k e e' t → AnswersOf k e' t
      tried_answers (Answered x g) t = t.5
      tried_answers Retry t = tt

  -- the updates of a generation are known exactly: an item that was in their table is in the one
  -- that the reader now knows
  pub inside_now : (e : ReaderKnowledge) (s : ℕ) (known : List Update) (x : Item) (g : ℕ)
      → LoadsSequence o e s known → g ≡ generation_of s → Remembers o e x g
      → Contains (replay o [] known) x
  inside_now e s known x g looks same m =
      let long : length m.shown ≡ length known = omega (arith, m.counted, looks.counted, same) in
      let is : m.shown ≡ known = whole_prefix m.shown known
      (IsPrefix-along m.shown e.known known m.known looks.begins) long in
      subst (λ us. Contains (replay o [] us) x) is m.inside

  pub recalls : IsLawful o
      → (k : K) (e : ReaderKnowledge) (s : ℕ) (known : List Update) (last : Option (Item × ℕ))
      → LoadsSequence o e s known → MemoryHolds o e last → (r : Option (Item × ℕ))
      → IsRecalled o k (generation_of s) last r → Recalled o k last e (with_sequence s known e) r
  recalls law k e s known last looks m r h = record {
    sequence = s;
    seen = refl;
    once = refl;
    last = refl;
    more = loads_more o e s known looks;
    floored = looks.floored;
    recalled = h;
    answers = found r h;
  }
    where
      found : (r : Option (Item × ℕ)) → IsRecalled o k (generation_of s) last r
          → IfSome r (λ x. Answers o k (with_sequence s known e) (Some x.0) x.1)
      found None h = tt
      found (Some r) h =
          let there : Remembers o e r.0 r.1 = subst (MemoryHolds o e) h.0 m in
          record {
            floored = looks.floored;
            counted = looks.counted ∙ sym h.1;
            found = look_only o law k (replay o [] known) (Some r.0) looks.is_table
                (inside_now e s known r.0 r.1 looks h.1 there, h.2);
          }

  -- a load of the sequence through a reader's seat
  module _ {S : Type 0} (m m' : Me S Knowledge) (s : ℕ) (learns : LearnsSequence o m s m') where
    there_is : reader_of m'.0 ≡ with_sequence s learns.0 (reader_of m.0)
    there_is = ap (λ (z : Me S Knowledge). reader_of z.0) learns.2

    pub recalls_now : IsLawful o → (k : K) (last : Option (Item × ℕ))
        → MemoryHolds o (reader_of m.0) last → (r : Option (Item × ℕ))
        → IsRecalled o k (generation_of s) last r
        → Recalled o k last (reader_of m.0) (reader_of m'.0) r
    recalls_now law k last mem r h =
        subst (λ (z : ReaderKnowledge). Recalled o k last (reader_of m.0) z r) (sym there_is)
        (recalls law k (reader_of m.0) s learns.0 last learns.1 mem r h)

    pub remembers_now : (last : Option (Item × ℕ)) → MemoryHolds o (reader_of m.0) last
        → MemoryHolds o (reader_of m'.0) last
    remembers_now last mem =
        subst (λ (z : ReaderKnowledge). MemoryHolds o z last) (sym there_is)
        (remembers_more (reader_of m.0) (with_sequence s learns.0 (reader_of m.0)) last
        (loads_more o (reader_of m.0) s learns.0 learns.1) mem)
