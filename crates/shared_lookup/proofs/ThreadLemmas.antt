-- Lists of threads, one thread more at a time.
use Rattle.shared_lookup.proofs.Words.{◌≡◌, ℕ, ◌+◌, ◌<◌, Bool, List, [], ◌∷◌, ◌++◌, length, take}
use Rattle.shared_lookup.proofs.Words.{Option, Some, None, sym, ◌∙◌, ap, subst, ⊎_elim, arith}
use Rattle.shared_lookup.proofs.Words.{append_assoc, length-append, Vec, IfSome, vec_capacity}
use Rattle.shared_lookup.proofs.Words.{vec_len, length-take-le, TableId, ReaderState}
use Rattle.shared_lookup.proofs.Words.{slice_get-push_cases, Answer, LookupResults, CatalogEntries}
use Rattle.shared_lookup.proofs.Words.{Change, ChangeResults, AreMade, LedgerState, AreAnswered}
use Rattle.shared_lookup.proofs.Words.{EachIsAnswered, IsHeard, IsReaderOf, AreAllMade, AreChanging}
use Rattle.shared_lookup.proofs.Words.{AreHeard, AreReading, HaveRoom}
use Rattle.std.specs.Prelude.{◌≤◌}
use Rattle.shared_lookup.specs.declared.threads.ReaderThread.{ReaderThread}
use Rattle.shared_lookup.specs.declared.threads.Changing.{Changing}
use Rattle.shared_lookup.specs.declared.threads.WriterThread.{WriterThread}
use Rattle.shared_lookup.proofs.PairedLemmas.{count, here, partner, so_far, taken}

-- what a loop has yielded, the next, and what is left are all that it goes over
pub next_yielded : {A : Type 0} (all done left rest : List A) (x : A) → all ≡ done ++ left
    → left ≡ x ∷ rest
    → all ≡ done ++ x ∷ rest
next_yielded all done left rest x gone next = gone ∙ ap (λ xs. done ++ xs) next

-- and so they are once the next is yielded
pub one_yielded : {A : Type 0} (all done left rest : List A) (x : A) → all ≡ done ++ left
    → left ≡ x ∷ rest
    → all ≡ (done ++ x ∷ []) ++ rest
one_yielded all done left rest x gone next =
    next_yielded all done left rest x gone next ∙ sym (append_assoc done (x ∷ []) rest)

-- while a list of threads or of what they came back with is put together there is room for one more
pub room_left : {A B C : Type 0} (lists : List A) (all done left rest : List B) (x : B)
    (made : Vec C) → all ≡ done ++ left → left ≡ x ∷ rest
    → length all ≡ length lists → length made.items ≡ length (take (length done) lists)
    → length lists ≤ vec_capacity made → vec_len made < vec_capacity made
room_left lists all done left rest x made gone next whole same long =
    let m =
    ap length (next_yielded all done left rest x gone next) ∙ length-append done (x ∷ rest) in
    let t = length-take-le (length done) lists (omega (arith, whole, m)) in
    omega (arith, whole, m, t, same, long, made.ok.0)

-- one list with its answers more
pub answered_more : (keys : List (Vec ℕ)) (list : Vec ℕ) (answers : List (Vec Answer))
    (found : Vec Answer) (ended : List Bool) (end : Bool)
    → EachIsAnswered keys answers ended → AreAnswered (length keys) list.items found.items end
    → EachIsAnswered (keys ++ list ∷ []) (answers ++ found ∷ []) (ended ++ end ∷ [])
answered_more keys list answers found ended end all last =
    record {
      same = length-append answers (found ∷ []) ∙ ap (λ n. n + 1) all.same
          ∙ sym (length-append keys (list ∷ []));
      told = length-append ended (end ∷ []) ∙ ap (λ n. n + 1) all.told
          ∙ sym (length-append keys (list ∷ []));
      each = λ i k f e ek ef ee.
          ⊎_elim
          (λ p. ⊎_elim
          (λ q. ⊎_elim (λ s. all.each i k f e p.1 q.1 s.1)
          (λ s. absurd (let l = p.0 in let m = s.0 in let n = all.told in omega arith))
          (slice_get-push_cases ended end e i ee))
          (λ q. absurd (let l = p.0 in let m = q.0 in let n = all.same in omega arith))
          (slice_get-push_cases answers found f i ef))
          (λ p. ⊎_elim
          (λ q. absurd (let l = p.0 in let m = q.0 in let n = all.same in omega arith))
          (λ q. ⊎_elim
          (λ s. absurd (let l = p.0 in let m = s.0 in let n = all.told in omega arith))
          (λ s.
          subst (λ z. AreAnswered z k.items f.items e) (sym p.0)
          (subst (λ (z : Vec ℕ). AreAnswered (length keys) z.items f.items e) p.1
          (subst (λ (z : Vec Answer). AreAnswered (length keys) list.items z.items e) q.1
          (subst (λ z. AreAnswered (length keys) list.items found.items z) s.1 last))))
          (slice_get-push_cases ended end e i ee))
          (slice_get-push_cases answers found f i ef))
          (slice_get-push_cases keys list k i ek);
    }

-- one thread more has come back
pub heard_more : {W : Type 0} (table : W → Option TableId) (c : W) (keys : List (Vec ℕ))
    (done rest : List (ReaderThread W)) (r : ReaderThread W) (all : List LookupResults)
    (f : LookupResults)
    → AreReading c keys (done ++ r ∷ rest) → AreHeard (table c) (take (length done) keys) all
    → IsHeard (table r.changer.now) r.reader r.keys.now f.answers.items f.ended f.seat
    → AreHeard (table c) (take (length (done ++ r ∷ [])) keys) (all ++ f ∷ [])
heard_more table c keys done rest r all f reading before last =
    let of = here _ keys done rest r reading in
    let list = (partner _ keys done rest r reading).items in
    so_far _ keys done rest r reading _ all f before
    (subst (λ z. IsHeard (table z) (length done) list f.answers.items f.ended f.seat) of.0
    (subst (λ z. IsHeard (table r.changer.now) z list f.answers.items f.ended f.seat) of.1
    (subst (λ z. IsHeard (table r.changer.now) r.reader z f.answers.items f.ended f.seat) of.2
    last)))

at_place : (table : Option TableId) (place : TableId) → table ≡ Some place
    → (back : Option ReaderState) → IfSome back (IsReaderOf table)
    → IfSome back (λ r. r.place ≡ place)
at_place table place is None h = tt
at_place table place is (Some r) h = h.0 place is

-- what came back of the list at the place behind those whose reader has met the writer
module _ (table : Option TableId) (keys : List (Vec ℕ)) (done rest : List LookupResults)
    (f : LookupResults) (heard : AreHeard table keys (done ++ f ∷ rest)) where
  abbrev of_list : Vec ℕ
  of_list = partner _ keys done rest f heard

  pub heard_here : IsHeard table (length done) of_list.items f.answers.items f.ended f.seat
  heard_here = here _ keys done rest f heard

  pub answered_so_far : (answers : List (Vec Answer)) (ended : List Bool)
      → EachIsAnswered (take (length done) keys) answers ended
      → EachIsAnswered (take (length (done ++ f ∷ [])) keys) (answers ++ f.answers ∷ [])
      (ended ++ f.ended ∷ [])
  answered_so_far answers ended all =
      subst (λ (ks : List (Vec ℕ)). EachIsAnswered ks (answers ++ f.answers ∷ [])
      (ended ++ f.ended ∷ [])) (sym (taken _ keys done rest f heard))
      (answered_more (take (length done) keys) of_list answers f.answers ended f.ended all
      (subst (λ z. AreAnswered z of_list.items f.answers.items f.ended)
      (sym (count _ keys done rest f heard)) heard_here.answered))

  -- a reader that came back is of the table
  pub met_here : (place : TableId) → table ≡ Some place → IfSome f.seat (λ r. r.place ≡ place)
  met_here place is = at_place table place is f.seat heard_here.reads

-- the thread of one list of changes more
pub changing_more : {W : Type 0} (c : W) (changes : List (Vec Change)) (done rest : List Changing)
    (l : Changing) (ws : List (WriterThread W)) (w : WriterThread W)
    → HaveRoom changes (done ++ l ∷ rest) → AreChanging c (take (length done) changes) ws
    → w.changer.now ≡ c → w.changes.now ≡ l.changes.now
    → AreChanging c (take (length (done ++ l ∷ [])) changes) (ws ++ w ∷ [])
changing_more c changes done rest l ws w room all ec ek =
    so_far _ changes done rest l room _ ws w all (ec, ek ∙ here _ changes done rest l room)

-- one list more whose thread has come back
pub made_more : {W : Type 0} (table : W → Option TableId) (opened : W → Option LedgerState)
    (catalog : W → CatalogEntries) (c : W) (changes : List (Vec Change))
    (done rest : List (WriterThread W)) (w : WriterThread W) (all : List ChangeResults)
    (made : ChangeResults)
    → AreChanging c changes (done ++ w ∷ rest)
    → AreAllMade (table c) (opened c) (catalog c) (take (length done) changes) all
    → AreMade (table w.changer.now) (opened w.changer.now) (catalog w.changer.now) w.changes.now
    made.outcomes.items made.seat
    → AreAllMade (table c) (opened c) (catalog c) (take (length (done ++ w ∷ [])) changes)
    (all ++ made ∷ [])
made_more table opened catalog c changes done rest w all made changing before last =
    let of = here _ changes done rest w changing in
    let list = (partner _ changes done rest w changing).items in
    so_far _ changes done rest w changing _ all made before
    (subst (λ z. AreMade (table z) (opened z) (catalog z) list made.outcomes.items made.seat) of.0
    (subst (λ z. AreMade (table w.changer.now) (opened w.changer.now) (catalog w.changer.now) z
    made.outcomes.items made.seat) of.1 last))
