-- The table at a generation, after a list of updates.
use Rattle.std.specs.Prelude.{ℕ, ◌-◌, List, [], take}
use Rattle.order_laws.specs.declared.items.Item.{Item}
use Rattle.order_laws.specs.Orders.{Order}
use Rattle.word_layout.specs.Words.{at}
use Rattle.table_updates.specs.declared.updates.Update.{Update}
use Rattle.table_updates.specs.Updates.{replay}
use Rattle.latch_core.specs.Sequences.{generation_of}

-- the table at a generation, if the opening sequence is start
abbrev pub table_at : {K : Type 0} → Order K → ℕ → List Update → ℕ → List Item
table_at o start us g = replay o [] (take (g - generation_of start) us)

-- the current table: the one that word 0 names, at the generation of its number. Later updates of
-- the list are not in it.
abbrev pub current_table : {K : Type 0} → Order K → ℕ → List Update → List ℕ → List Item
current_table o start us words = table_at o start us (generation_of (at words 0))
