-- Outcomes of changes in the order of a log, and of a longer one.
use Rattle.shared_lookup.proofs.Words.{◌≡◌, ℕ, suc, ◌+◌, ◌<◌, List, [], ◌∷◌, ◌++◌, length, take}
use Rattle.shared_lookup.proofs.Words.{set, get_or, inl, inr, Option, Some, None, refl, sym, ◌∙◌}
use Rattle.shared_lookup.proofs.Words.{ap, subst, arith, append_assoc, length-append, Vec, ForSome}
use Rattle.shared_lookup.proofs.Words.{◌⊎◌, Ok, Err, IfOk, IfErr, IfSome, OnErr, take_all}
use Rattle.shared_lookup.proofs.Words.{take_more, take_more_set, slice_get_within}
use Rattle.shared_lookup.proofs.Words.{take-append_whole, ReaderState, IsPrefix, TableId, Update}
use Rattle.shared_lookup.proofs.Words.{CatalogEntries, Change, ChangeResults, AreAllMade, known_by}
use Rattle.shared_lookup.proofs.Words.{with_log, IsNamed, LedgerState, with_entry, with_first}
use Rattle.shared_lookup.proofs.Words.{AreNotMade, ChangeOutcome, HasOutcomes, AreMade, count_after}
use Rattle.shared_lookup.proofs.Words.{FollowKnown, FollowLog, IsHeld, IsMadeBeside, IsOpenedAs}
use Rattle.shared_lookup.proofs.Words.{IsOutcomeBehind, IsServedLedger}
use Rattle.std.proofs.Common.{◌≤◌}
use Rattle.shared_lookup.proofs.PairedLemmas.{pair_taken}
use Rattle.shared_lookup.proofs.ReaderLemmas.{same_some}
use Rattle.shared_lookup.specs.Changes.{Changes, IsOutcomeOf, RefusesChange}
use Rattle.shared_lookup.proofs.FoundLemmas.{length-prefix, take-prefix}

pub prefix_on : (xs ys zs : List Update) → IsPrefix xs ys → IsPrefix ys zs → IsPrefix xs zs
prefix_on xs ys zs p q =
    (p.0 ++ q.0, sym (append_assoc xs p.0 q.0) ∙ ap (λ us. us ++ q.0) p.1 ∙ q.1)

-- the outcome of a change at a ledger is the one behind its log
outcome_behind : (c : CatalogEntries) (ch : Change) (o l l' : LedgerState) (known : List Update)
    (r : ChangeOutcome) → l ≡ with_log l.log o → known ≡ l'.log
    → IfOk r (λ g. Changes c ch l l' g) → IfErr r (RefusesChange c ch l) → OnErr r (l' ≡ l)
    → IsOutcomeBehind c (with_log known o) (length l.log) ch r
outcome_behind c ch o l l' known (Ok g) is whole (u, gives, (may, entry, count)) refused same =
    let n = length l.log in
    let all : known ≡ l.log ++ u ∷ [] = whole ∙ ap (λ (x : LedgerState). x.log) entry in
    let first : take n known ≡ l.log = ap (take n) all ∙ take-append_whole l.log (u ∷ []) in
    let long : length known ≡ n + 1 = ap length all ∙ length-append l.log (u ∷ []) in
    let every : take (suc n) known ≡ known = take_all (suc n) known (omega (arith, long)) in
    let before : with_first n (with_log known o) ≡ l = ap (λ us. with_log us o) first ∙ sym is in
    let after : with_first (suc n) (with_log known o) ≡ l' =
    ap (λ us. with_log us o) (every ∙ all) ∙ sym (entry ∙ ap (with_entry u) is) in (
      omega (arith, long),
      subst (λ a. Changes c ch a (with_first (suc n) (with_log known o)) g) (sym before)
          (subst (λ b. Changes c ch l b g) (sym after) (u, gives, (may, entry, count))),
    )
outcome_behind c ch o l l' known (Err e) is whole changed refused same =
    let n = length l.log in
    let all : known ≡ l.log = whole ∙ ap (λ (x : LedgerState). x.log) same in
    let first : take n known ≡ l.log = ap (take n) all ∙ take_all n l.log (omega arith) in
    let before : with_first n (with_log known o) ≡ l = ap (λ us. with_log us o) first ∙ sym is in (
      let long = ap length all in omega (arith, long),
      subst (λ a. RefusesChange c ch a e) (sym before) refused,
    )

-- a change between two meetings
pub made_beside : (c : CatalogEntries) (opened : Option LedgerState) (ch : Change)
    (k k' known : List Update) (l l' : LedgerState) (r : ChangeOutcome) → IsOpenedAs opened l
    → IsPrefix k k' → k' ≡ l.log → IsPrefix k' known → known ≡ l'.log
    → IfOk r (λ g. Changes c ch l l' g) → IfErr r (RefusesChange c ch l) → OnErr r (l' ≡ l)
    → IsMadeBeside c opened ch k known r
made_beside c opened ch k k' known l l' r is begins here kept whole changed refused same =
    record {
      before = l.log;
      begins = subst (IsPrefix k) here begins;
      kept = subst (λ us. IsPrefix us known) here kept;
      outcome = λ o e. outcome_behind c ch o l l' known r (is o e) whole changed refused same;
    }

-- what follows a log follows a longer one
behind_later : (c : CatalogEntries) (l : LedgerState) (log : List Update) (n : ℕ) (ch : Change)
    (r : ChangeOutcome) → IsPrefix l.log log → IsOutcomeBehind c l n ch r
    → IsOutcomeBehind c (with_log log l) n ch r
behind_later c l log n ch (Ok g) p (less, changed) =
    let before : with_first n (with_log log l) ≡ with_first n l =
    ap (λ us. with_log us l) (take-prefix l.log log n p (omega (arith, less))) in
    let after : with_first (suc n) (with_log log l) ≡ with_first (suc n) l =
    ap (λ us. with_log us l) (take-prefix l.log log (suc n) p (omega (arith, less))) in (
      (let longer = length-prefix l.log log p in omega (arith, less, longer)),
      subst (λ a. Changes c ch a (with_first (suc n) (with_log log l)) g) (sym before)
          (subst (λ b. Changes c ch (with_first n l) b g) (sym after) changed),
    )
behind_later c l log n ch (Err e) p (few, refused) =
    let before : with_first n (with_log log l) ≡ with_first n l =
    ap (λ us. with_log us l) (take-prefix l.log log n p few) in (
      (let longer = length-prefix l.log log p in omega (arith, few, longer)),
      subst (λ a. RefusesChange c ch a e) (sym before) refused,
    )

pub follow_later : (c : CatalogEntries) (l : LedgerState) (log : List Update) (from : ℕ)
    (changes : List Change) (outcomes : List ChangeOutcome) → IsPrefix l.log log
    → FollowLog c l from changes outcomes → FollowLog c (with_log log l) from changes outcomes
follow_later c l log from [] outcomes p none = none
follow_later c l log from (ch ∷ rest) [] p h = absurd h
follow_later c l log from (ch ∷ rest) (r ∷ more) p (n, le, here, on) = (
  n,
  le,
  behind_later c l log n ch r p here,
  follow_later c l log (count_after n r) rest more p on,
)

count_within : (c : CatalogEntries) (l : LedgerState) (n : ℕ) (ch : Change) (r : ChangeOutcome)
    → IsOutcomeBehind c l n ch r → count_after n r ≤ length l.log
count_within c l n ch (Ok g) (less, changed) = omega (arith, less)
count_within c l n ch (Err e) (few, refused) = few

-- one change more
pub follow_more : (c : CatalogEntries) (l : LedgerState) (log : List Update) (from n : ℕ)
    (changes : List Change) (outcomes : List ChangeOutcome) (ch : Change) (r : ChangeOutcome)
    → IsPrefix l.log log → from ≤ length l.log → length l.log ≤ n
    → FollowLog c l from changes outcomes → IsOutcomeBehind c (with_log log l) n ch r
    → FollowLog c (with_log log l) from (changes ++ ch ∷ []) (outcomes ++ r ∷ [])
follow_more c l log from n [] outcomes ch r p few long none out =
    subst (λ rs. FollowLog c (with_log log l) from (ch ∷ []) (rs ++ r ∷ [])) (sym none)
    (n, (omega (arith, few, long)), out, refl)
follow_more c l log from n (b ∷ rest) [] ch r p few long h out = absurd h
follow_more c l log from n (b ∷ rest) (q ∷ more) ch r p few long (m, le, here, on) out = (
  m,
  le,
  behind_later c l log m b q p here,
  follow_more c l log (count_after m q) n rest more ch r p (count_within c l m b q here) long on
      out,
)

-- the ledger under the lock
pub held_opened : (table : Option TableId) (opened held : Option LedgerState) (l m : LedgerState)
    → IsHeld table opened held → held ≡ Some l → m ≡ l → IsNamed table m.place × IsOpenedAs opened m
held_opened table opened held l m (k, is, named, opens) here same =
    let there : m ≡ k = same ∙ sym (same_some k l (sym is ∙ here)) in
    subst (λ (x : LedgerState). IsNamed table x.place × IsOpenedAs opened x) (sym there)
    (named, opens)

-- and after a change
still_opened : (table : Option TableId) (opened : Option LedgerState) (c : CatalogEntries)
    (ch : Change) (l l' : LedgerState) (r : ChangeOutcome)
    → IsNamed table l.place × IsOpenedAs opened l
    → IfOk r (λ g. Changes c ch l l' g) → OnErr r (l' ≡ l)
    → IsNamed table l'.place × IsOpenedAs opened l'
still_opened table opened c ch l l' (Ok g) (named, opens) (u, gives, (may, entry, count)) same =
    subst (λ (x : LedgerState). IsNamed table x.place × IsOpenedAs opened x) (sym entry)
    (named, λ o e. ap (with_entry u) (opens o e))
still_opened table opened c ch l l' (Err e) both changed same =
    subst (λ (x : LedgerState). IsNamed table x.place × IsOpenedAs opened x) (sym same) both

pub held_after : (table : Option TableId) (opened : Option LedgerState) (c : CatalogEntries)
    (ch : Change) (l l' now : LedgerState) (r : ChangeOutcome)
    → IsNamed table l.place × IsOpenedAs opened l
    → IfOk r (λ g. Changes c ch l l' g) → OnErr r (l' ≡ l) → now ≡ l'
    → IsHeld table opened (Some now)
held_after table opened c ch l l' now r both changed same is =
    let after = still_opened table opened c ch l l' r both changed same in
    let here : IsNamed table now.place × IsOpenedAs opened now =
    subst (λ (x : LedgerState). IsNamed table x.place × IsOpenedAs opened x) (sym is) after in
    (now, refl, here.0, here.1)

pub none_made : (c : CatalogEntries) → HasOutcomes c [] []
none_made c = record {
  same = refl;
  each = λ place ch r e f. absurd (let l = slice_get_within [] place ch e in omega arith);
}

-- what a list has come to once its change at a place is made
module _ (c : CatalogEntries) (changes : List Change) (outcomes : List ChangeOutcome) (i : ℕ)
    (d : Change) (r : ChangeOutcome) (less : i < length changes)
    (same : length outcomes ≡ length changes) where
  abbrev ch : Change
  ch = get_or changes i d

  outcomes_taken : take (i + 1) (set outcomes i r) ≡ take i outcomes ++ r ∷ []
  outcomes_taken = take_more_set outcomes i r (omega (arith, less, same))

  pub one_made : HasOutcomes c (take i changes) (take i outcomes) → IsOutcomeOf c ch r
      → HasOutcomes c (take (i + 1) changes) (take (i + 1) (set outcomes i r))
  one_made before here =
      subst (HasOutcomes c (take (i + 1) changes)) (sym outcomes_taken)
      (pair_taken _ changes i d ch (take i outcomes) r less refl before here)

  pub one_follows : (opened : Option LedgerState) (known known' : List Update)
      → ForSome opened (λ o. FollowLog c (with_log known o) 0 (take i changes) (take i outcomes))
      → IsMadeBeside c opened ch known known' r → ForSome opened (λ o. FollowLog c
      (with_log known' o) 0 (take (i + 1) changes) (take (i + 1) (set outcomes i r)))
  one_follows opened known known' before made o e =
      let longer = length-prefix known made.before made.begins in
      subst (FollowLog c (with_log known' o) 0 (take (i + 1) changes)) (sym outcomes_taken)
      (subst (λ cs. FollowLog c (with_log known' o) 0 cs (take i outcomes ++ r ∷ []))
      (sym (take_more changes i d less))
      (follow_more c (with_log known o) known' 0 (length made.before) (take i changes)
      (take i outcomes) ch r (prefix_on known made.before known' made.begins made.kept)
      (omega arith) longer (before o e) (made.outcome o e)))

-- all changes of the list are made
pub all_made : (table : Option TableId) (opened : Option LedgerState) (c : CatalogEntries)
    (changes : List Change) (outcomes : List ChangeOutcome) (i : ℕ) (r : ReaderState)
    → length changes ≤ i → length outcomes ≡ length changes
    → HasOutcomes c (take i changes) (take i outcomes) → table ≡ Some r.place → ForSome opened
    (λ o. FollowLog c (with_log r.knowledge.known o) 0 (take i changes) (take i outcomes))
    → AreMade table opened c changes outcomes (Some r)
all_made table opened c changes outcomes i r past same made place follow =
    let these : take i changes ≡ changes = take_all i changes past in
    let those : take i outcomes ≡ outcomes = take_all i outcomes (omega (arith, past, same)) in
    record {
      outcomes_of = inl (subst (λ cs. HasOutcomes c cs outcomes) these
          (subst (HasOutcomes c (take i changes)) those made));
      follow = (
        place,
        λ o e. subst (λ cs. FollowLog c (with_log r.knowledge.known o) 0 cs outcomes) these (subst
            (FollowLog c (with_log r.knowledge.known o) 0 (take i changes)) those (follow o e)),
      );
    }

-- a list whose changes are made, once its reader has met the writer
pub follow_met : (c : CatalogEntries) (l : LedgerState) (changes : List Change)
    (outcomes : List ChangeOutcome) (back : Option ReaderState)
    → FollowKnown (Some l.place) (Some l) c changes outcomes back
    → IsPrefix (known_by back) l.log
    → FollowLog c l 0 changes outcomes ⊎ AreNotMade changes outcomes
follow_met c l changes outcomes None none p = inr none
follow_met c l changes outcomes (Some r) (place, follow) p =
    inl (follow_later c (with_log r.knowledge.known l) l.log 0 changes outcomes p (follow l refl))

pub beside_here : (place : TableId) (opened : Option LedgerState) (c : CatalogEntries)
    (changes : List Change) (outcomes : List ChangeOutcome) (back : Option ReaderState)
    → FollowKnown (Some place) opened c changes outcomes back
    → IfSome back (λ r. r.place ≡ place)
beside_here place opened c changes outcomes None none = tt
beside_here place opened c changes outcomes (Some r) (is, follow) = sym (same_some place r.place is)

-- the ledger that comes out of the lock says how it was opened
known_named : (table : Option TableId) (opened : Option LedgerState) (l o : LedgerState)
    (c : CatalogEntries) (changes : List Change) (outcomes : List ChangeOutcome)
    (back : Option ReaderState)
    → table ≡ Some l.place → opened ≡ Some o → l ≡ with_log l.log o
    → FollowKnown table opened c changes outcomes back
    → FollowKnown (Some l.place) (Some l) c changes outcomes back
known_named table opened l o c changes outcomes None there as_opened is none = none
known_named table opened l o c changes outcomes (Some r) there as_opened is (place, follow) = (
  sym there ∙ place,
  λ k e.
      let same : with_log r.knowledge.known o ≡ with_log r.knowledge.known k =
      ap (with_log r.knowledge.known) (sym is ∙ same_some l k e) in
      subst (λ x. FollowLog c x 0 changes outcomes) same (follow o as_opened),
)

pub made_named : (table : Option TableId) (opened : Option LedgerState) (l o : LedgerState)
    (c : CatalogEntries) (changes : List (Vec Change)) (all : List ChangeResults)
    → table ≡ Some l.place → opened ≡ Some o → l ≡ with_log l.log o
    → AreAllMade table opened c changes all → AreAllMade (Some l.place) (Some l) c changes all
made_named table opened l o c changes all there as_opened is made = record {
  same = made.same;
  each = λ writer list m ec em.
      let here = made.each writer list m ec em in
      record {
        outcomes_of = here.outcomes_of;
        follow = known_named table opened l o c list.items m.outcomes.items m.seat there as_opened
            is here.follow;
      };
}

-- what is served is what was opened
pub served_now : (c : CatalogEntries) (log now : List Update) (l o : LedgerState)
    → IsServedLedger c log o → l ≡ with_log l.log o → l.log ≡ now → IsServedLedger c now l
served_now c log now l o fresh is logged = record {
  logged = logged;
  base = ap (λ (x : LedgerState). x.base) is ∙ fresh.base;
  room = (let e = ap (λ (x : LedgerState). x.capacity) is in omega (arith, e, fresh.room));
  limit = ap (λ (x : LedgerState). x.limit) is ∙ fresh.limit;
}

-- a ledger with other readers, and with others again
pub with_readers : (a b c : LedgerState) → b ≡ record a { readers = b.readers }
    → c ≡ record b { readers = c.readers } → c ≡ record a { readers = c.readers }
with_readers a b c first then_on =
    then_on ∙ ap (λ (x : LedgerState). record x { readers = c.readers }) first
