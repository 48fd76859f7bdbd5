-- What the events of a lookup do to an idle moment.
use Rattle.latch_steps.proofs.Definitions.{◌≡◌, ◌≢◌, ℕ, List, [], ◌∷◌, ◌++◌, Option, Some, None}
use Rattle.latch_steps.proofs.Definitions.{refl, sym, ◌∙◌, ap, subst, ⊎_elim, AllByRecursion, get}
use Rattle.latch_steps.proofs.Definitions.{cases_eq, Order, get-insert_other, get-remove_other}
use Rattle.latch_steps.proofs.Definitions.{get-remove_same, PendingUpdate, Write, Start, Read}
use Rattle.latch_steps.proofs.Definitions.{Reply, Started, Lookup, World, PendingLookup, Moment}
use Rattle.latch_steps.proofs.Definitions.{Done, step_done, last_of, machine, AfterLoad, Goes}
use Rattle.latch_steps.proofs.Definitions.{Retries, Returns, Run, Step, IsWrite, after_load}
use Rattle.latch_steps.proofs.Definitions.{load_done, read_done, start_done, new_lookup, counted_up}
use Rattle.latch_steps.proofs.Definitions.{RepresentsMoment}
use Rattle.latch_steps.specs.declared.replies.Reply.TheVariants.{Returned as ReturnedReply}
use Rattle.latch_steps.specs.declared.replies.Returned.{Returned}
use Rattle.latch_steps.specs.Lookups.{IsPendingLookup as IsHeld}

-- no lookup is pending
abbrev pub NoLookup : {K : Type 0} → Moment K → Type 0
NoLookup w = (r : ℕ) → get w.lookups r ≡ None

none_held : {O K : Type 0} (o : Order K) (n : ℕ) (c : Option (Lookup O K))
    (a b : Option (PendingLookup K))
    → IsHeld o n c a → IsHeld o n c b → a ≡ None → b ≡ None
none_held o n None a None h k e = refl
none_held o n None a (Some l) h k e = absurd k
none_held o n (Some c) None b h k e = absurd h
none_held o n (Some c) (Some l) b h k e = absurd (cc)

-- all moments that a world shows have the same readers at rest
pub same_readers : {O K : Type 0} (o : Order K) (c : World O K) (w v : Moment K)
    → RepresentsMoment o c w → RepresentsMoment o c v
    → NoLookup w → NoLookup v
same_readers o c w v s t none r =
    none_held o _ _ (get w.lookups r) (get v.lookups r) (s.lookups r) (t.lookups r) (none r)

-- a run of writes leaves the pending lookups as they are
write_keeps : {K : Type 0} (n : ℕ) (w : Moment K) (h : Option PendingUpdate) (reply : Reply K)
    (v : Moment K)
    → IsWrite n w h reply v → v.lookups ≡ w.lookups
write_keeps n w None reply v step = ap (λ m. m.lookups) step.1
write_keeps n w (Some h) reply v step = ap (λ m. m.lookups) step.3

pub writes_keep : {K : Type 0} (o : Order K) (n limit : ℕ) (w : Moment K) (run : List (Done K))
    → AllByRecursion (λ d. d.event ≡ Write) run → Run (machine o n limit) w run
    → (last_of w run).lookups ≡ w.lookups
writes_keep o n limit w [] all steps = refl
writes_keep o n limit w (d ∷ run) all steps =
    let one = subst (λ e. Step (machine o n limit) w e d.reply d.after) all.0 steps.0 in
    writes_keep o n limit d.after run all.1 steps.1
    ∙ write_keeps n w w.latch.pending d.reply d.after one

-- one moment differs from another in the lookup of one reader at most
pub record Differs {K : Type 0} (r : ℕ) (w v : Moment K) : Type 0 where
  pub latch : v.latch ≡ w.latch
  pub others : (q : ℕ) → q ≢ r → get v.lookups q ≡ get w.lookups q

-- of a reply that returns, the reader has no pending lookup any more
abbrev pub Ends : {K : Type 0} → ℕ → Reply K → Moment K → Type 0
Ends r (ReturnedReply x) v = get v.lookups r ≡ None
Ends r _ v = Unit {0}

-- what a load does to a moment
pub record Reads {K : Type 0} (r : ℕ) (w : Moment K) (done : Reply K × Moment K) : Type 0 where
  pub differs : Differs r w done.1
  pub ends : Ends r done.0 done.1

module _ {K : Type 0} (r : ℕ) where
  pub start_differs : (w : Moment K) (k : K) (found : Option (PendingLookup K))
      → Differs r w (start_done w r k found).1
  start_differs w k None = record {
    latch = refl;
    others = λ q ne. get-insert_other w.lookups q r (new_lookup k (counted_up w.events)) ne;
  }
  start_differs w k (Some l) = record { latch = refl; others = λ q ne. refl }

  load_reads : (w : Moment K) (next : AfterLoad K) → Reads r w (load_done w r next)
  load_reads w (Goes l) = record {
    differs = record { latch = refl; others = λ q ne. get-insert_other w.lookups q r l ne };
    ends = tt;
  }
  load_reads w (Retries l) = record {
    differs = record { latch = refl; others = λ q ne. get-insert_other w.lookups q r l ne };
    ends = tt;
  }
  load_reads w (Returns x) = record {
    differs = record { latch = refl; others = λ q ne. get-remove_other w.lookups q r ne };
    ends = get-remove_same w.lookups r;
  }

  pub read_reads : (o : Order K) (n : ℕ) (w : Moment K) (found : Option (PendingLookup K))
      → Reads r w (read_done o n w r found)
  read_reads o n w None =
      record { differs = record { latch = refl; others = λ q ne. refl }; ends = tt }
  read_reads o n w (Some l) = load_reads w (after_load o n w r l)

  differs_twice : (w v u : Moment K) → Differs r w v → Differs r v u → Differs r w u
  differs_twice w v u a b =
      record { latch = b.latch ∙ a.latch; others = λ q ne. b.others q ne ∙ a.others q ne }

  one_read : (o : Order K) (n : ℕ) (w v : Moment K) (reply : Reply K)
      → read_done o n w r (get w.lookups r) ≡ (reply, v)
      → Reads r w (reply, v)
  one_read o n w v reply e = subst (Reads r w) e (read_reads o n w (get w.lookups r))

  -- reads, and the one that returns
  pub reads_to_end : (o : Order K) (n limit : ℕ) (w : Moment K) (run : List (Done K))
      (x : Returned K) (done : Moment K)
      → AllByRecursion (λ d. d.event ≡ Read r) run
      → Run (machine o n limit) w (run ++ step_done (Read r) (ReturnedReply x) done ∷ [])
      → Reads r w (ReturnedReply x, done)
  reads_to_end o n limit w [] x done all steps = one_read o n w done (ReturnedReply x) steps.0
  reads_to_end o n limit w (d ∷ run) x done all steps =
      let one = one_read o n w d.after d.reply
      (subst (λ e. Step (machine o n limit) w e d.reply d.after) all.0 steps.0) in
      let rest = reads_to_end o n limit d.after run x done all.1 steps.1 in
      record { differs = differs_twice w d.after done one.differs rest.differs; ends = rest.ends }

  -- the whole lookup
  pub found_at_end : (o : Order K) (n limit : ℕ) (w begun : Moment K) (k : K) (run : List (Done K))
      (x : Returned K) (done : Moment K)
      → AllByRecursion (λ d. d.event ≡ Read r) run
      → Run (machine o n limit) w (step_done (Start r k) Started begun ∷ run
      ++ step_done (Read r) (ReturnedReply x) done ∷ [])
      → Reads r w (ReturnedReply x, done)
  found_at_end o n limit w begun k run x done all steps =
      let first = subst (λ (p : Reply K × Moment K). Differs r w p.1) steps.0
      (start_differs w k (get w.lookups r)) in
      let rest = reads_to_end o n limit begun run x done all steps.1 in
      record { differs = differs_twice w begun done first rest.differs; ends = rest.ends }

  pub none_at_end : (w v : Moment K) (x : Returned K) → NoLookup w → Reads r w (ReturnedReply x, v)
      → NoLookup v
  none_at_end w v x none h q =
      ⊎_elim
      (λ same. subst (λ j. get v.lookups j ≡ None) (sym same) h.ends)
      (λ ne. h.differs.others q ne ∙ none q) (cases_eq q r)
