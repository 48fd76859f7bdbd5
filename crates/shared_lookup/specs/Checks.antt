-- How the answers are checked.
use Rattle.std.specs.Prelude.{◌≡◌, ℕ, ◌+◌, ◌<◌, Bool, ◌&&◌, ◌||◌, not, nat_eq, nat_lt, List, []}
use Rattle.std.specs.Prelude.{length, map, take, count_by, min, slice_index_or, Option, None}
use Rattle.std.specs.Borrow.{Bor}
use Rattle.std.specs.List.Sorted.{IsNonDecreasingBy}
use Rattle.std.specs.Option.{option_eq}
use Rattle.order_laws.specs.declared.items.Item.{Item}
use Rattle.order_laws.specs.Orders.{half_open}
use Rattle.order_laws.specs.Tables.{look}
use Rattle.table_updates.specs.declared.updates.Update.{Update}
use Rattle.table_updates.specs.Updates.{replay}
use Rattle.shared_lookup.specs.declared.served.Answer.{Answer}
use Rattle.latch_table.specs.Writers.{WriterState}
use Rattle.shared_lookup.specs.Ledgers.{HasNothingPending, LedgerState, ledger_of}
use Rattle.shared_lookup.specs.Servings.{ChangeOutcome, has_generation}

-- both are none, or items of equal words
abbrev pub is_same_item : Option Item → Option Item → Bool
is_same_item = option_eq (λ i j. nat_eq i.a j.a && nat_eq i.b j.b && nat_eq i.tag j.tag)

-- the answer is wrong, as a test
abbrev pub is_wrong_answer : List Update → Answer → Bool
is_wrong_answer log a =
    nat_lt (length log) a.generation
    || not (is_same_item a.item
    (look half_open a.key (replay half_open [] (take a.generation log))))

-- the answers that are referred to
abbrev pub answers_at : List (Bor Answer) → List Answer
answers_at all = map (λ a. a.now) all

-- they are referred to by rising generation
abbrev pub AreReferredInOrder : List (Bor Answer) → Type 0
AreReferredInOrder all = IsNonDecreasingBy (λ a. a.now.generation) all

-- the table of a ledger with these updates as its log
abbrev pub with_log : List Update → LedgerState → LedgerState
with_log log l = record l { log = log }

-- a writer went on to these updates, and none is pending
abbrev pub HasReplayed : List Update → WriterState → WriterState → Type 0
HasReplayed log w w' = HasNothingPending w' × (ledger_of w' ≡ with_log log (ledger_of w))

-- for each entry of the log after the first `from` how many of the accepted changes have its
-- generation: none, one or more
abbrev pub AreTallied : ℕ → List ChangeOutcome → List ℕ → Type 0
AreTallied from outcomes times =
    (place : ℕ) → place < length times
    → slice_index_or times place 0 ≡ min 255 (count_by (has_generation (from + place + 1)) outcomes)

abbrev pub no_answer : Answer
no_answer = record { reader = 0; place = 0; key = 0; generation = 0; item = None }

-- a reference to it
abbrev pub no_reference : Bor Answer
no_reference = record { ref_ptr = (0, 0); now = no_answer }

-- the times of the entries after the first `from` ones, once these outcomes are counted too
abbrev pub IsTalliedBy : ℕ → List ChangeOutcome → List ℕ → List ℕ → Type 0
IsTalliedBy from outcomes times times' =
    (place : ℕ) → place < length times
    → slice_index_or times' place 0
    ≡ min 255 (slice_index_or times place 0 + count_by (has_generation (from + place + 1)) outcomes)
