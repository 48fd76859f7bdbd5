-- What a lookup of the code means, what one load of it does, and what it loads next.
use Rattle.std.specs.Prelude.{◌≡◌, ℕ, List, Option, Some, None}
use Rattle.std.specs.Ordering.{nat_cmp}
use Rattle.std.specs.Option.{option_flatten, option_map}
use Rattle.std.specs.BTreeMap.{BTreeMap, get as tree_get}
use Rattle.order_laws.specs.Orders.{Order}
use Rattle.latch_core.specs.Cores.{capacity_of_core, key_of_core, HasTaken}
use Rattle.latch_steps.specs.declared.lookups.Lookup.{Lookup}
use Rattle.latch_steps.specs.declared.lookups.LoadOutcome.{LoadOutcome}
use Rattle.latch_steps.specs.declared.lookups.LoadOutcome.TheVariants.{Going, Retrying, Returned}
use Rattle.latch_steps.specs.Runs.{PendingLookup, Moment}
use Rattle.latch_steps.specs.Steps.{counted_up, Goes, Retries, Returns, after_load}
use Rattle.std.specs.FinMap.{get}
use Rattle.word_layout.specs.Words.{at}
use Rattle.latch_core.specs.Attempts.{Reading, Load, attempt, rest_after}
use Rattle.latch_steps.specs.declared.replies.NextLoad.{NextLoad}

-- a lookup at n nodes
pub record IsLookupOf {O K : Type 0} (o : Order K) (n : ℕ) (c : Lookup O K)
    (l : PendingLookup K) : Type 0 where
  pub capacity : capacity_of_core c.core ≡ n
  pub key : key_of_core c.core ≡ l.key
  pub leads : HasTaken o l.values c.core
  pub first : c.first ≡ l.first
  pub loads : c.loads ≡ l.loads
  pub attempts : c.attempts ≡ l.attempts

-- a reader has this pending lookup, or none
abbrev pub IsPendingLookup : {O K : Type 0} → Order K → ℕ → Option (Lookup O K)
    → Option (PendingLookup K)
    → Type 0
IsPendingLookup o n None None = Unit {0}
IsPendingLookup o n (Some c) (Some l) = IsLookupOf o n c l
IsPendingLookup o n _ _ = ⊥

-- the pending lookup of a reader: an idle reader may keep its place, with none in it
abbrev pub lookup_at : {O K : Type 0} → BTreeMap ℕ (Option (Lookup O K)) → ℕ → Option (Lookup O K)
lookup_at places r = option_flatten (tree_get nat_cmp places r)

-- one load of this reader's pending lookup, from these words, as event number `last`
abbrev pub LoadsTo : {O K : Type 0} → Order K → ℕ → List ℕ → ℕ → ℕ → PendingLookup K
    → LoadOutcome O K → Type 0
LoadsTo {O} {K} o n words r last l (Going c) =
    (next : PendingLookup K) × IsLookupOf o n c next
    × ((w : Moment K) → w.latch.words ≡ words → after_load o n w r l ≡ Goes next)
LoadsTo {O} {K} o n words r last l (Retrying c) =
    (next : PendingLookup K) × IsLookupOf o n c next
    × ((w : Moment K) → w.latch.words ≡ words → after_load o n w r l ≡ Retries next)
LoadsTo {O} {K} o n words r last l (Returned x) =
    (w : Moment K) → w.latch.words ≡ words → counted_up w.events ≡ last
    → after_load o n w r l ≡ Returns x

-- so from whatever lookup of the definitions the code's is
abbrev pub LoadsFromAny : {O K : Type 0} → Order K → Lookup O K → List ℕ → ℕ → ℕ → LoadOutcome O K
    → Type 0
LoadsFromAny {O} {K} o c words r last loaded =
    (n : ℕ) (l : PendingLookup K) → IsLookupOf o n c l → LoadsTo o n words r last l loaded

-- the word that what is left of an attempt asks for; no lookup of a run is at its attempt's end
abbrev pub word_asked : Option Reading → ℕ
word_asked (Some (Load word go)) = word
word_asked _ = 0

-- what a lookup loads next of these words, at n nodes
abbrev pub next_load : {K : Type 0} → Order K → ℕ → List ℕ → PendingLookup K → NextLoad K
next_load o n words l =
    let word = word_asked (rest_after (attempt o n l.key) l.values) in
    record {
      key = l.key;
      word = word;
      value = at words word;
      loads = counted_up l.loads;
      attempts = l.attempts;
    }

-- and what the lookup of this reader does, at a moment
abbrev pub load_of : {K : Type 0} → Order K → ℕ → Moment K → ℕ → Option (NextLoad K)
load_of o n w r = option_map (next_load o n w.latch.words) (get w.lookups r)

-- so of whatever lookup of the definitions the code's is
abbrev pub LoadsNextFrom : {O K : Type 0} → Order K → Lookup O K → List ℕ → NextLoad K → Type 0
LoadsNextFrom {O} {K} o c words load =
    (n : ℕ) (l : PendingLookup K) → IsLookupOf o n c l → load ≡ next_load o n words l
