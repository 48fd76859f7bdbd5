-- Lists of stores that the writer plans, and when they carry an update out.
use Rattle.std.specs.Prelude.{◌≡◌, ℕ, ◌+◌, List, [], ◌∷◌, ◌++◌, Some, None}
use Rattle.word_layout.specs.declared.stores.Store.{Store}
use Rattle.latch_core.specs.Latches.{PendingUpdate, Latch, IsWriterStep, latch_after_step}

-- the writer may make just these steps, one after another, and they end the pending update
abbrev pub IsPlan : ℕ → Latch → List Store → Type 0
IsPlan n l [] = l.pending ≡ None
IsPlan n l (s ∷ ss) = (h : PendingUpdate) × (l.pending ≡ Some h) × IsWriterStep n l h s
    × IsPlan n (latch_after_step l h s) ss

-- the store that makes this number the sequence
abbrev pub flip_to : ℕ → Store
flip_to seq = record { word = 0; value = seq }

-- the stores of an update from a sequence on: item words of free nodes, the first flip, links of
-- copy 0, the second flip, links of copy 1
abbrev pub update_stores : ℕ → List Store → List Store → List Store → List Store
update_stores seq item_stores links0 links1 =
    item_stores ++ flip_to (seq + 1) ∷ links0 ++ flip_to (seq + 2) ∷ links1
