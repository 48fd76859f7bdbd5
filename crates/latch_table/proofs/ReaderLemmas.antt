-- What a reader knows stays true under each step of the writer, and each of its own loads adds to
-- it.
use Rattle.latch_table.proofs.Words.{◌≡◌, ℕ, suc, ◌+◌, ◌*◌, ◌<◌, ◌≤◌, List, [], ◌∷◌, ◌++◌, length}
use Rattle.latch_table.proofs.Words.{Some, refl, sym, ◌∙◌, ap, subst, inl, ⊎_elim, arith, le_refl}
use Rattle.latch_table.proofs.Words.{IsPrefix, Order, IsLawful, look, IsPrefix-along}
use Rattle.latch_table.proofs.Words.{IsPrefix-whole, Store, at, words_after, Update, generation_of}
use Rattle.latch_table.proofs.Words.{replay, Reading, Load, Ends, Answer, attempt, rest_after}
use Rattle.latch_table.proofs.Words.{IsAttempt, PendingUpdate, Latch, IsWriterStep, sequence_after}
use Rattle.latch_table.proofs.Words.{ReaderKnowledge, loads_of, IsKept, StandAll, IsSteady}
use Rattle.latch_table.proofs.Words.{IsLatched, blank_reader, with_sequence, with_word, last_or}
use Rattle.latch_table.proofs.Words.{joined_knowledge, reader_of, Rises, EndsRight, ReaderKnows}
use Rattle.latch_table.proofs.Words.{LoadsSequence, as_reader, steady_step, steady_load}
use Rattle.latch_table.proofs.Words.{steady_first, stand_end, latched_answers, Me, WriterKnowledge}
use Rattle.latch_table.proofs.Words.{Knowledge, Met}

pub rises_more : (low : ℕ) (xs : List ℕ) (top top' : ℕ) → top ≤ top' → Rises low xs top
    → Rises low xs top'
rises_more low [] top top' more r = let r' : low ≤ top = r in omega arith
rises_more low (x ∷ xs) top top' more r = (r.0, rises_more x xs top top' more r.1)

rises_end : (low : ℕ) (xs : List ℕ) (top : ℕ) → Rises low xs top → Rises low (xs ++ top ∷ []) top
rises_end low [] top r = (r, le_refl top)
rises_end low (x ∷ xs) top r = (r.0, rises_end x xs top r.1)

pub last_end : (low : ℕ) (xs : List ℕ) (n : ℕ) → last_or low (xs ++ n ∷ []) ≡ n
last_end low [] n = refl
last_end low (x ∷ xs) n = last_end x xs n

-- the value of the last load
abbrev last_value : ℕ → List (ℕ × ℕ) → ℕ
last_value d [] = d
last_value d (l ∷ ls) = last_value l.1 ls

last_value_end : (d : ℕ) (ls : List (ℕ × ℕ)) (l : ℕ × ℕ) → last_value d (ls ++ l ∷ []) ≡ l.1
last_value_end d [] l = refl
last_value_end d (x ∷ ls) l = last_value_end x.1 ls l

last_loads : (r : Reading) (v : List ℕ) (s : ℕ) (r' : Reading) (d : ℕ)
    → rest_after r (v ++ s ∷ []) ≡ Some r' → last_value d (loads_of r (v ++ s ∷ [])) ≡ s
last_loads (Load w go) [] s r' d e = refl
last_loads (Ends out) [] s r' d e = absurd (cc)
last_loads (Load w go) (x ∷ v) s r' d e = last_loads (go x) v s r' x e
last_loads (Ends out) (x ∷ v) s r' d e = absurd (cc)

abbrev first_value : ℕ → List (ℕ × ℕ) → ℕ
first_value d [] = d
first_value d (l ∷ ls) = l.1

ended_stand : (n : ℕ) (m : List ℕ) (ls : List (ℕ × ℕ)) (s : ℕ) (rest : List (ℕ × ℕ))
    → IsSteady n m ls → s ≡ at m 0 → ls ++ (0, at m 0) ∷ [] ≡ (0, s) ∷ rest
    → StandAll n m (ls ++ (0, at m 0) ∷ [])
ended_stand n m [] s rest st is e = (inl refl, refl, tt)
ended_stand n m (l ∷ ls) s rest st is e =
    stand_end n m 0 (inl refl) (l ∷ ls) (st.1 (ap (first_value 0) e ∙ is))

module _ {K : Type 0} (o : Order K) where
  -- a step of the writer, after which these updates are shown
  pub reader_step : (n base : ℕ) (l : Latch) (h : PendingUpdate) (s : Store)
      (known known' : List Update) (e : ReaderKnowledge) → 0 < length l.words → IsWriterStep n l h s
      → IsPrefix known known' → ReaderKnows o n base l.words known e
      → ReaderKnows o n base (words_after l.words s) known' e
  reader_step n base l h s known known' e sized may more see =
      let rises' : at l.words 0 ≤ at (words_after l.words s) 0 =
      ⊎_elim (λ same. omega (arith, same.1)) (λ one. omega (arith, one))
      (sequence_after n l h s sized may) in
      record {
        based = see.based;
        capacity = see.capacity;
        begins = IsPrefix-along e.known known known' see.begins more;
        floored = IsPrefix-along e.floor known known' see.floored more;
        counted = see.counted;
        rises = rises_more (2 * base) e.seen (at l.words 0) (at (words_after l.words s) 0)
            rises' see.rises;
        steady = steady_step n l h s sized may e.loads see.steady;
        right = see.right;
      }

  -- an attempt that ends now with its first number is an answer
  ended_right : IsLawful o → (n base : ℕ) (m : List ℕ) (known : List Update) (e : ReaderKnowledge)
      → e.capacity ≡ n → IsLatched o n base m known → IsSteady n m e.loads
      → EndsRight o (with_sequence (at m 0) known e)
  ended_right law n base m known e cap latched steady k s v out whole is =
      let loads : List (ℕ × ℕ) = e.loads ++ (0, at m 0) ∷ [] in
      let whole' : IsAttempt o n k (s ∷ (v ++ s ∷ [])) out =
      subst (λ c. IsAttempt o c k (s ∷ (v ++ s ∷ [])) out) cap whole in
      let is' : loads ≡ loads_of (attempt o n k) (s ∷ (v ++ s ∷ [])) =
      subst (λ c. loads ≡ loads_of (attempt o c k) (s ∷ (v ++ s ∷ []))) cap is in
      let seq : at m 0 ≡ s = sym (last_value_end 0 e.loads (0, at m 0))
      ∙ (ap (last_value 0) is' ∙ last_loads (attempt o n k) (s ∷ v) s (Ends out) 0 whole') in
      let stand : StandAll n m loads = ended_stand n m e.loads s _ steady (sym seq) is' in
      (latched_answers o law n base k m known (s ∷ (v ++ s ∷ [])) out latched
      whole' (subst (StandAll n m) is' stand)).0
      ∙ ap (λ z. Answer (look o k (replay o [] known)) (generation_of z)) seq

  -- the reader loads word 0
  pub reader_sequence : IsLawful o
      → (n base : ℕ) (m : List ℕ) (known : List Update) (e : ReaderKnowledge)
      → IsLatched o n base m known → ReaderKnows o n base m known e
      → ReaderKnows o n base m known (with_sequence (at m 0) known e)
  reader_sequence law n base m known e latched see =
      let last : last_or (2 * e.base) (e.seen ++ at m 0 ∷ []) ≡ at m 0 =
      last_end (2 * e.base) e.seen (at m 0) in
      record {
        based = see.based;
        capacity = see.capacity;
        begins = IsPrefix-whole known;
        floored = see.floored;
        counted = latched.counted ∙ ap generation_of (sym last);
        rises = rises_end (2 * base) e.seen (at m 0) see.rises;
        steady = steady_first n m;
        right = ended_right law n base m known e see.capacity latched see.steady;
      }

  pub looks : IsLawful o → (n base : ℕ) (m : List ℕ) (known : List Update) (e : ReaderKnowledge)
      → IsLatched o n base m known → ReaderKnows o n base m known e
      → LoadsSequence o e (at m 0) known
  looks law n base m known e latched see = record {
    begins = see.begins;
    floored = see.floored;
    counted = ap (λ (z : ℕ). z + length known) see.based ∙ latched.counted;
    is_table = latched.is_table;
    right = ended_right law n base m known e see.capacity latched see.steady;
  }

  -- the reader loads another word, to which what it loaded leads
  pub reader_word : (n base : ℕ) (m : List ℕ) (known : List Update) (e : ReaderKnowledge) (l : ℕ
      × ℕ) (ls : List (ℕ × ℕ)) (w : ℕ) → e.loads ≡ l ∷ ls → (StandAll n m (l ∷ ls) → IsKept n m w)
      → ReaderKnows o n base m known e → ReaderKnows o n base m known (with_word w (at m w) e)
  reader_word n base m known e l ls w is kept see = record {
    based = see.based;
    capacity = see.capacity;
    begins = see.begins;
    floored = see.floored;
    counted = see.counted;
    rises = see.rises;
    steady = subst (λ xs. IsSteady n m (xs ++ (w, at m w) ∷ [])) (sym is)
        (steady_load n m w l ls kept (subst (IsSteady n m) is see.steady));
    right = λ k s v out whole e'. absurd (none_ended k s v e');
  }
    where
      none_ended : (k : K) (s : ℕ) (v : List ℕ)
          → [] ≡ loads_of (attempt o e.capacity k) (s ∷ (v ++ s ∷ [])) → ⊥
      none_ended k s v e' = let h : 0 ≡ suc (length (loads_of (Load _ _) (v ++ s ∷ []))) =
          ap (λ (z : List (ℕ × ℕ)). length z) e' in
          omega arith

  -- a reader that has loaded nothing
  pub reader_new : (n base : ℕ) (m : List ℕ) (known : List Update) → IsLatched o n base m known
      → ReaderKnows o n base m known (blank_reader base n known)
  reader_new n base m known latched = let c = latched.counted in record {
    based = refl;
    capacity = refl;
    begins = (known, refl);
    floored = IsPrefix-whole known;
    counted = omega arith;
    rises = omega arith;
    steady = tt;
    right = λ k s v out whole e'. absurd (none_ended k s v e');
  }
    where
      none_ended : (k : K) (s : ℕ) (v : List ℕ) → [] ≡ loads_of (attempt o n k) (s ∷ (v ++ s ∷ []))
          → ⊥
      none_ended k s v e' = let h : 0 ≡ suc (length (loads_of (Load _ _) (v ++ s ∷ []))) =
          ap (λ (z : List (ℕ × ℕ)). length z) e' in
          omega arith

-- what a reader knows that loaded the sequence while it was joined to the writer
pub met : {S K : Type 0} (o : Order K) (v w : Knowledge) (m m' : Me S Knowledge) (s : ℕ)
    (p : WriterKnowledge)
    → m.0 ≡ joined_knowledge v w → v.writer ≡ Some p
    → (known : List Update) × LoadsSequence o (reader_of m.0) s known
    × ((q : WriterKnowledge) → m.0.writer ≡ Some q → known ≡ q.known)
    × (m' ≡ as_reader (with_sequence s known (reader_of m.0)) m)
    → Met (reader_of w) (reader_of m'.0) p.known
met {S} o v w m m' s p both writes h =
    let e : reader_of m.0 ≡ reader_of w = ap reader_of both in
    let looks = subst (λ (z : ReaderKnowledge). LoadsSequence o z s h.0) e h.1 in
    let there : reader_of m'.0 ≡ with_sequence s h.0 (reader_of w) =
    ap (λ (z : Me S Knowledge). reader_of z.0) h.3 ∙ ap (with_sequence s h.0) e in
    subst (λ (z : ReaderKnowledge). Met (reader_of w) z p.known) (sym there) (
      s,
      refl,
      h.2 p (ap (λ (z : Knowledge). z.writer) both ∙ writes),
      record { base = refl; capacity = refl; floor = refl; known = looks.begins },
      looks.floored,
    )
