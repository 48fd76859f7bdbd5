-- One load of a lookup: by cases, whatever holds of a lookup whose attempt goes on, of one that has
-- to try again and of one that returns the look of its key, holds of what the load leads to; and
-- what the code makes of it.
use Rattle.latch_steps.proofs.Definitions.{◌≡◌, ℕ, ◌-◌, ◌≤◌, true, false, cond, List, [], ◌∷◌, ◌++◌}
use Rattle.latch_steps.proofs.Definitions.{length, Some, None, refl, sym, ◌∙◌, ap, subst, Option}
use Rattle.latch_steps.proofs.Definitions.{nat_cmp, eq_by_cmp, FinMap, get, insert, remove}
use Rattle.latch_steps.proofs.Definitions.{get-insert, get-remove, Item, Order, IsLawful, IsTable}
use Rattle.latch_steps.proofs.Definitions.{look, at, Nodes, Holds, Update, generation_of}
use Rattle.latch_steps.proofs.Definitions.{stable_copy_of, current_table, Answer, Again, Reading}
use Rattle.latch_steps.proofs.Definitions.{Load, Ends, attempt, rest_after, Stand, IsStanding}
use Rattle.latch_steps.proofs.Definitions.{IsSound, rest_push, stand_push, attempt_answers}
use Rattle.latch_steps.proofs.Definitions.{standing_push, answer_first, PendingLookup, Moment}
use Rattle.latch_steps.proofs.Definitions.{AfterLoad, Goes, Retries, Returns, with_value}
use Rattle.latch_steps.proofs.Definitions.{next_attempt, return_of, after_value, load_left}
use Rattle.latch_steps.proofs.Definitions.{after_load, counted_up, Lookup, IsLookupOf, LoadsTo}
use Rattle.latch_steps.proofs.Definitions.{LoadsNextFrom, word_asked, NextLoad}
use Rattle.std.specs.Cmp.{nat_cmp_total}
use Rattle.latch_core.specs.declared.readers.ReaderCore.{ReaderCore}
use Rattle.latch_core.specs.declared.readers.Taken.TheVariants.{Going, Retrying, Returned}
use Rattle.latch_core.specs.Cores.{capacity_of_core, key_of_core, rest_of_core, HasTaken, HandsBack}
use Rattle.latch_core.specs.Cores.{IsWanted}
use Rattle.latch_core.proofs.LoadingLemmas.{core_loads}
use Rattle.latch_steps.specs.declared.lookups.LoadOutcome.TheVariants.{Going as GoingLoad}
use Rattle.latch_steps.specs.declared.lookups.LoadOutcome.TheVariants.{Retrying as RetryingLoad}
use Rattle.latch_steps.specs.declared.lookups.LoadOutcome.TheVariants.{Returned as ReturnedLoad}

-- what holds of each pending lookup holds of each after a change at one reader
module _ {K : Type 0} (Holds_of : PendingLookup K → Type 0) (ls : FinMap nat_cmp (PendingLookup K))
    (r : ℕ) where
  pub each_insert : (new : PendingLookup K)
      → ((q : ℕ) (l : PendingLookup K) → get ls q ≡ Some l → Holds_of l) → Holds_of new
      → (q : ℕ) (l : PendingLookup K) → get (insert ls r new) q ≡ Some l → Holds_of l
  each_insert new h is q l e =
      elim (eq_by_cmp nat_cmp q r) as (λ b. cond b (Some new) (get ls q) ≡ Some l → Holds_of l) [
        | true ↦ λ f. (let same : new ≡ l = cc in subst Holds_of same is)
        | false ↦ λ f. h q l f
      ] (sym (get-insert nat_cmp_total ls r new q) ∙ e)

  pub each_remove : ((q : ℕ) (l : PendingLookup K) → get ls q ≡ Some l → Holds_of l)
      → (q : ℕ) (l : PendingLookup K) → get (remove ls r) q ≡ Some l → Holds_of l
  each_remove h q l e =
      elim (eq_by_cmp nat_cmp q r) as (λ b. cond b None (get ls q) ≡ Some l → Holds_of l) [
        | true ↦ λ f. absurd (cc)
        | false ↦ λ f. h q l f
      ] (sym (get-remove nat_cmp_total ls r q) ∙ e)

-- a pending lookup: while its first number is word 0 its values stand, and its attempt asks for a
-- word
pub record IsGoing {K : Type 0} (o : Order K) (n : ℕ) (m : List ℕ)
    (l : PendingLookup K) : Type 0 where
  pub standing : IsStanding m (attempt o n l.key) l.values
  pub word : ℕ
  pub go : ℕ → Reading
  pub left : rest_after (attempt o n l.key) l.values ≡ Some (Load word go)

-- at the beginning of an attempt
pub none_loaded : {K : Type 0} (o : Order K) (n : ℕ) (m : List ℕ) (l : PendingLookup K)
    → l.values ≡ [] → IsGoing o n m l
none_loaded o n m l none_yet =
    record {
      standing = subst (IsStanding m (attempt o n l.key)) (sym none_yet) tt;
      word = 0;
      go = _;
      left = ap (rest_after (attempt o n l.key)) none_yet;
    }

-- in words whose stable copy holds this table
module _ {K : Type 0} (o : Order K) (law : IsLawful o) (n : ℕ) (m : List ℕ) (table : List Item)
    (t : Nodes) (holds : Holds m n (stable_copy_of (at m 0)) table t) (is_table : IsTable o table)
    (fits : length table ≤ n) where
  module _ (w : Moment K) (same : w.latch.words ≡ m) (r : ℕ) (l : PendingLookup K)
      (is : IsGoing o n m l) where
    abbrev value : ℕ
    value = at m is.word

    -- all values that were loaded in the attempt, with this one
    abbrev values : List ℕ
    values = l.values ++ value ∷ []

    pub by_load : (Holds_of : AfterLoad K → Type 0)
        → (IsGoing o n m (with_value l value) → (Stand m (attempt o n l.key) l.values
        → Stand m (attempt o n l.key) values) → Holds_of (Goes (with_value l value)))
        → ((Stand m (attempt o n l.key) l.values → ⊥) → Holds_of (Retries (next_attempt l)))
        → (Stand m (attempt o n l.key) values
        → Holds_of (Returns (return_of w r l (look o l.key table) (generation_of (at m 0)))))
        → Holds_of (after_load o n w r l)
    by_load Holds_of goes retries returns =
        subst (λ p. Holds_of (load_left w r l p)) (sym is.left)
        (subst (λ ws. Holds_of (after_value w r l (at ws is.word) (is.go (at ws is.word))))
        (sym same) (by (is.go value) refl))
      where
        a : Reading
        a = attempt o n l.key

        push : Stand m (attempt o n l.key) l.values → Stand m (attempt o n l.key) values
        push st = stand_push m (attempt o n l.key) l.values is.word is.go value is.left st refl

        after_it : (next : Reading) → is.go value ≡ next
            → rest_after (attempt o n l.key) values ≡ Some next
        after_it next e =
            rest_push (attempt o n l.key) l.values is.word is.go value is.left ∙ ap Some e

        by : (next : Reading) → is.go value ≡ next → Holds_of (after_value w r l value next)
        by (Load word go) e =
            goes (record {
              standing = standing_push m _ l.values is.word is.go is.left is.standing;
              word = word;
              go = go;
              left = after_it (Load word go) e;
            }) push
        by (Ends Again) e =
            retries (λ st.
            let answers : Again ≡ Answer (look o l.key table) (generation_of (at m 0)) =
            attempt_answers o law m n l.key table t holds is_table fits values Again (push st)
            (after_it (Ends Again) e) in
            absurd (cc))
        by (Ends (Answer x g)) e =
            let st =
            push (answer_first o n l.key m l.values is.word is.go x g is.left is.standing e) in
            let answers : Answer x g ≡ Answer (look o l.key table) (generation_of (at m 0)) =
            attempt_answers o law m n l.key table t holds is_table fits values (Answer x g) st
            (after_it (Ends (Answer x g)) e) in
            subst (λ out. Holds_of (after_value w r l value (Ends out))) (sym answers) (returns st)

-- in a sound latch, where that table is the current one
pub by_sound_load : {K : Type 0} (o : Order K) → IsLawful o → (n start : ℕ) (us : List Update)
    (w : Moment K) → IsSound o n start us w.latch → (r : ℕ) (l : PendingLookup K)
    (is : IsGoing o n w.latch.words l)
    → (Holds_of : AfterLoad K → Type 0)
    → (IsGoing o n w.latch.words (with_value l (at w.latch.words is.word))
    → Holds_of (Goes (with_value l (at w.latch.words is.word))))
    → ((Stand w.latch.words (attempt o n l.key) l.values → ⊥) → Holds_of (Retries (next_attempt l)))
    → (Holds_of (Returns (return_of w r l (look o l.key (current_table o start us w.latch.words))
    (generation_of (at w.latch.words 0)))))
    → Holds_of (after_load o n w r l)
by_sound_load o law n start us w ok r l is Holds_of goes retries returns =
    let m = w.latch.words in
    let ts = ok.tables (generation_of (at m 0) - generation_of start) in
    by_load o law n m (current_table o start us m) ok.current.0 ok.current.1 ts.0 ts.1 w refl r l is
    Holds_of (λ going st. goes going) retries (λ st. returns)

module _ {O K : Type 0} (o : Order K) (n : ℕ) (c : Lookup O K) (l : PendingLookup K)
    (is : IsLookupOf o n c l) (words : List ℕ) (word value : ℕ)
    (wants : (values : List ℕ) → HasTaken o values c.core → (go : ℕ → Reading)
    × (rest_after (attempt o (capacity_of_core c.core) (key_of_core c.core)) values
    ≡ Some (Load word go)))
    (got : value ≡ at words word) where
  same_attempt : attempt o (capacity_of_core c.core) (key_of_core c.core) ≡ attempt o n l.key
  same_attempt = λ i. attempt o (is.capacity i) (is.key i)

  -- what the load leads to, by what is left of the attempt with the value that the core was given
  leads_to : (next : Reading) → rest_after (attempt o n l.key) (l.values ++ value ∷ []) ≡ Some next
      → (w : Moment K) (r : ℕ) → w.latch.words ≡ words
      → after_load o n w r l ≡ after_value w r l value next
  leads_to next left w r same =
      let g = wants l.values is.leads in
      let asks : rest_after (attempt o n l.key) l.values ≡ Some (Load word g.0) =
      ap (λ a. rest_after a l.values) (sym same_attempt) ∙ g.1 in
      let gives : at w.latch.words word ≡ value = ap (λ ws. at ws word) same ∙ sym got in
      let both : Some (g.0 value) ≡ Some next =
      sym (rest_push (attempt o n l.key) l.values word g.0 value asks) ∙ left in
      let after_it : g.0 value ≡ next = cc in
      ap (load_left w r l) asks ∙ ap (λ x. after_value w r l x (g.0 x)) gives
      ∙ ap (after_value w r l value) after_it

  -- what the next core has before it is what the attempt has
  left_after : (next : ReaderCore O K) → capacity_of_core next ≡ capacity_of_core c.core
      → key_of_core next ≡ key_of_core c.core → (values : List ℕ) → HasTaken o values next
      → rest_after (attempt o n l.key) values ≡ Some (rest_of_core o next)
  left_after next ec ek values leads =
      let same : attempt o (capacity_of_core next) (key_of_core next) ≡ attempt o n l.key =
      (λ i. attempt o ((ec ∙ is.capacity) i) ((ek ∙ is.key) i)) in
      ap (λ a. rest_after a values) (sym same) ∙ leads

  pub goes : (core : ReaderCore O K) (x r last : ℕ) → HandsBack o (capacity_of_core c.core)
      (key_of_core c.core) (l.values ++ value ∷ []) (Going core) → x ≡ counted_up c.loads
      → LoadsTo o n words r last l
      (GoingLoad (record { core = core; first = c.first; loads = x; attempts = c.attempts }))
  goes core x r last leads ex =
      let values = l.values ++ value ∷ [] in
      let asks = core_loads o core in
      let left : rest_after (attempt o n l.key) values ≡ Some (Load asks.0 asks.1) =
      left_after core leads.0 leads.1 values leads.2 ∙ ap Some asks.2 in (
        with_value l value,
        record {
          capacity = leads.0 ∙ is.capacity;
          key = leads.1 ∙ is.key;
          leads = leads.2;
          first = is.first;
          loads = ex ∙ ap counted_up is.loads;
          attempts = is.attempts;
        },
        λ w same. leads_to (Load asks.0 asks.1) left w r same,
      )

  pub retries : (core : ReaderCore O K) (x y r last : ℕ) → HandsBack o (capacity_of_core c.core)
      (key_of_core c.core) (l.values ++ value ∷ []) (Retrying core) → x ≡ counted_up c.loads
      → y ≡ counted_up c.attempts
      → LoadsTo o n words r last l
      (RetryingLoad (record { core = core; first = c.first; loads = x; attempts = y }))
  retries core x y r last leads ex ey =
      let values = l.values ++ value ∷ [] in
      let left : rest_after (attempt o n l.key) values ≡ Some (Ends Again) =
      ap (λ a. rest_after a values) (sym same_attempt) ∙ leads.2 in (
        next_attempt l,
        record {
          capacity = leads.0 ∙ is.capacity;
          key = leads.1 ∙ is.key;
          leads = leads.3;
          first = is.first;
          loads = ex ∙ ap counted_up is.loads;
          attempts = ey ∙ ap counted_up is.attempts;
        },
        λ w same. leads_to (Ends Again) left w r same,
      )

  pub ends : (k : K) (x : Option Item) (g loads r last : ℕ) → k ≡ key_of_core c.core
      → HandsBack {O = O} o (capacity_of_core c.core) (key_of_core c.core) (l.values ++ value ∷ [])
      (Returned x g) → loads ≡ counted_up c.loads
      → LoadsTo {O = O} o n words r last l (ReturnedLoad (record {
        reader = r;
        key = k;
        answer = x;
        generation = g;
        first = c.first;
        last = last;
        loads = loads;
        attempts = c.attempts;
      }))
  ends k x g loads r last ek whole e = λ w same now.
      let values = l.values ++ value ∷ [] in
      let left : rest_after (attempt o n l.key) values ≡ Some (Ends (Answer x g)) =
      ap (λ a. rest_after a values) (sym same_attempt) ∙ whole in
      let same_key : l.key ≡ k = sym is.key ∙ sym ek in
      let count : counted_up l.loads ≡ loads = ap counted_up (sym is.loads) ∙ sym e in
      leads_to (Ends (Answer x g)) left w r same
      ∙ (λ i. Returns (record {
        reader = r;
        key = same_key i;
        answer = x;
        generation = g;
        first = sym is.first i;
        last = now i;
        loads = count i;
        attempts = sym is.attempts i;
      }))

module _ {O K : Type 0} (o : Order K) where
  -- a core's wanted word is the one that its attempt asks for
  pub loads_next : (c : Lookup O K) (words : List ℕ) (load : NextLoad K)
      → load.key ≡ key_of_core c.core → IsWanted o c.core load.word
      → load.value ≡ at words load.word → load.loads ≡ counted_up c.loads
      → load.attempts ≡ c.attempts → LoadsNextFrom o c words load
  loads_next c words load key wants value loads attempts n l is =
      let asks = wants l.values is.leads in
      let same : attempt o (capacity_of_core c.core) (key_of_core c.core) ≡ attempt o n l.key =
      (λ i. attempt o (is.capacity i) (is.key i)) in
      let word : load.word ≡ word_asked (rest_after (attempt o n l.key) l.values) =
      sym (ap word_asked (ap (λ a. rest_after a l.values) (sym same) ∙ asks.1)) in
      λ i. record {
        key = (key ∙ is.key) i;
        word = word i;
        value = (value ∙ ap (at words) word) i;
        loads = (loads ∙ ap counted_up is.loads) i;
        attempts = (attempts ∙ is.attempts) i;
      }
