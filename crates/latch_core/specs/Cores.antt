-- What a reader's core has still to do, and how the values that it takes lead it on.
use Rattle.std.specs.Prelude.{◌≡◌, ℕ, ◌+◌, ◌*◌, ◌<◌, ◌≤◌, List, [], ◌∷◌, ◌++◌, length, Some}
use Rattle.order_laws.specs.Orders.{Order}
use Rattle.word_layout.specs.Words.{left_word, right_word}
use Rattle.latch_core.specs.Sequences.{stable_copy_of}
use Rattle.latch_core.specs.Attempts.{Answer, Again, Reading, Load, AtItem, AtEmptyLink, last_load}
use Rattle.latch_core.specs.Attempts.{after_a, after_b, visit, walk, attempt_after, attempt}
use Rattle.latch_core.specs.Attempts.{rest_after, IsAttempt, Stuck as AtStuck}
use Rattle.latch_core.specs.Whole.{Wants}
use Rattle.latch_core.specs.declared.readers.ReaderCore.{ReaderCore}
use Rattle.latch_core.specs.declared.readers.Taken.{Taken}
use Rattle.latch_core.specs.declared.readers.Taken.TheVariants.{Going, Retrying, Returned}
use Rattle.latch_core.specs.declared.progress.AttemptProgress.{AttemptProgress}
use Rattle.latch_core.specs.declared.progress.AwaitedValue.{AwaitedValue}
use Rattle.latch_core.specs.declared.progress.AwaitedValue.TheVariants.{First, Root, WordA, WordB}
use Rattle.latch_core.specs.declared.progress.AwaitedValue.TheVariants.{Tag, Left, Right, Found}
use Rattle.latch_core.specs.declared.progress.AwaitedValue.TheVariants.{Missing, Stuck}

-- the number of nodes, and the key
abbrev pub capacity_of_core : {O K : Type 0} → ReaderCore O K → ℕ
capacity_of_core c = c.progress.capacity

abbrev pub key_of_core : {O K : Type 0} → ReaderCore O K → K
key_of_core c = c.key

-- the walk of a key that goes on from a spot, by the link that it follows
abbrev pub walk_from : {K : Type 0} → Order K → K → AttemptProgress → ℕ → Reading
walk_from o k s = walk o s.capacity k s.first s.visits_left

-- what is left of a key's attempt at a spot, by the place whose value it waits for
abbrev pub rest_of_attempt : {K : Type 0} → Order K → K → AttemptProgress → AwaitedValue → Reading
rest_of_attempt o k s First = attempt o s.capacity k
rest_of_attempt o k s Root = attempt_after o s.capacity k s.first
rest_of_attempt o k s WordA = visit o k s.first s.node (walk_from o k s)
rest_of_attempt o k s WordB = after_a o k s.first s.node (walk_from o k s) s.a
rest_of_attempt o k s Tag = after_b o k s.first s.node (walk_from o k s) s.a s.b
rest_of_attempt o k s Left = Load (left_word (stable_copy_of s.first) s.node) (walk_from o k s)
rest_of_attempt o k s Right = Load (right_word (stable_copy_of s.first) s.node) (walk_from o k s)
rest_of_attempt o k s Found = last_load s.first (AtItem (record { a = s.a; b = s.b; tag = s.tag }))
rest_of_attempt o k s Missing = last_load s.first AtEmptyLink
rest_of_attempt o k s Stuck = last_load s.first AtStuck

-- what is left of the core's attempt
abbrev pub rest_of_core : {O K : Type 0} → Order K → ReaderCore O K → Reading
rest_of_core o c = rest_of_attempt o c.key c.progress c.progress.awaited

-- these values lead from the start of the core's key to the core
abbrev pub HasTaken : {O K : Type 0} → Order K → List ℕ → ReaderCore O K → Type 0
HasTaken o values c =
    rest_after (attempt o (capacity_of_core c) (key_of_core c)) values ≡ Some (rest_of_core o c)

-- whatever values led to the core, its attempt goes on with a load of this word
abbrev pub IsWanted : {O K : Type 0} → Order K → ReaderCore O K → ℕ → Type 0
IsWanted o c word =
    (values : List ℕ) → HasTaken o values c
    → Wants o (capacity_of_core c) (key_of_core c) values word

-- one value more leads to what the core hands back: to a core that has taken these values, at most
-- 4n + 2; or to the end of the attempt, after which a core that begins again has taken none
abbrev pub HandsBack : {O K : Type 0} → Order K → ℕ → K → List ℕ → Taken O K → Type 0
HandsBack o n k values (Going c) =
    (capacity_of_core c ≡ n) × (key_of_core c ≡ k)
    × HasTaken o values c × (length values ≤ 4 * n + 2)
HandsBack o n k values (Retrying c) =
    (capacity_of_core c ≡ n) × (key_of_core c ≡ k)
    × IsAttempt o n k values Again × HasTaken o [] c
HandsBack o n k values (Returned answer g) = IsAttempt o n k values (Answer answer g)

-- whatever values led to the core, this one leads on to what it hands back
abbrev pub TakesTo : {O K : Type 0} → Order K → ReaderCore O K → ℕ → Taken O K → Type 0
TakesTo o c value taken =
    (values : List ℕ) → HasTaken o values c
    → HandsBack o (capacity_of_core c) (key_of_core c) (values ++ value ∷ []) taken

-- how many loads a core makes at most before its attempt ends
abbrev pub most_loads_at : ℕ → ℕ → AwaitedValue → ℕ
most_loads_at n visits First = 4 * n + 3
most_loads_at n visits Root = 4 * n + 2
most_loads_at n visits WordA = 4 * visits + 5
most_loads_at n visits WordB = 4 * visits + 4
most_loads_at n visits Tag = 4 * visits + 3
most_loads_at n visits Left = 4 * visits + 2
most_loads_at n visits Right = 4 * visits + 2
most_loads_at n visits Found = 1
most_loads_at n visits Missing = 1
most_loads_at n visits Stuck = 1

abbrev pub most_loads_left : {O K : Type 0} → ReaderCore O K → ℕ
most_loads_left c = most_loads_at c.progress.capacity c.progress.visits_left c.progress.awaited

-- a core that goes on has fewer loads before it
abbrev pub IsShorter : {O K : Type 0} → ReaderCore O K → Taken O K → Type 0
IsShorter old (Going c) = most_loads_left c < most_loads_left old
IsShorter old _ = Unit {0}

-- a core that begins again has its whole attempt before it
abbrev pub StartsAgain : {O K : Type 0} → Order K → Taken O K → Type 0
StartsAgain o (Retrying c) = rest_of_core o c ≡ attempt o (capacity_of_core c) (key_of_core c)
StartsAgain o _ = Unit {0}

-- a core that is handed back looks its key up among as many nodes
abbrev pub IsSameLookup : {O K : Type 0} → ReaderCore O K → Taken O K → Type 0
IsSameLookup old (Going c) =
    (capacity_of_core c ≡ capacity_of_core old) × (key_of_core c ≡ key_of_core old)
IsSameLookup old (Retrying c) =
    (capacity_of_core c ≡ capacity_of_core old) × (key_of_core c ≡ key_of_core old)
IsSameLookup old (Returned answer g) = Unit {0}
