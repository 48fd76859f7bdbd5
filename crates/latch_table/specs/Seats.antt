-- What the seats know, and how it changes.
use Rattle.std.specs.Prelude.{ℕ, ◌*◌, List, [], ◌∷◌, ◌++◌, slice_set, Option, Some, None}
use Rattle.std.specs.Prelude.{if◌then◌else◌, ◌==◌, ◌&&◌}
use Rattle.order_laws.specs.Orders.{Order}
use Rattle.word_layout.specs.Layouts.{capacity_of}
use Rattle.word_layout.specs.Words.{at}
use Rattle.table_updates.specs.declared.updates.Update.{Update}
use Rattle.latch_core.specs.Sequences.{generation_of, stable_copy_of}
use Rattle.table_updates.specs.Updates.{replay}
use Rattle.latch_core.specs.Latches.{opening_latch}
use Rattle.latch_table.specs.declared.knowledge.ReaderKnowledge.{ReaderKnowledge}
use Rattle.latch_table.specs.declared.knowledge.WriterKnowledge.{WriterKnowledge}
use Rattle.latch_table.specs.declared.knowledge.Knowledge.{Knowledge}
use Rattle.latch_table.specs.declared.knowledge.Origin.{Origin}
use Rattle.latch_table.specs.declared.knowledge.Origin.TheVariants.{Start, Moved}

-- a reader that has loaded nothing
abbrev pub blank_reader : ℕ → ℕ → List Update → ReaderKnowledge
blank_reader base n floor =
    record {
      base = base;
      capacity = n;
      seen = [];
      known = [];
      floor = floor;
      loads = [];
      ended = [];
    }

-- a writer that has taken no update
abbrev pub blank_writer : ℕ → ℕ → WriterKnowledge
blank_writer n start =
    record {
      base = generation_of start;
      capacity = n;
      picture = (opening_latch n start).words;
      known = [];
      accepted = [];
      began = [];
      old = [];
      loads = [];
    }

-- a writer that goes on in other words
abbrev pub moved_writer : ℕ → List ℕ → WriterKnowledge → WriterKnowledge
moved_writer n words p = record p { capacity = n; picture = words; loads = [] }

abbrev pub reader_or : ReaderKnowledge → Option ReaderKnowledge → ReaderKnowledge
reader_or d None = d
reader_or d (Some e) = e

abbrev pub writer_or : WriterKnowledge → Option WriterKnowledge → WriterKnowledge
writer_or d None = d
writer_or d (Some p) = p

-- what a seat knows as a reader, and as the writer
abbrev pub reader_of : Knowledge → ReaderKnowledge
reader_of v = reader_or (blank_reader 0 0 []) v.reader

abbrev pub writer_of : Knowledge → WriterKnowledge
writer_of v = writer_or (blank_writer 0 0) v.writer

abbrev pub reader_knowledge : ReaderKnowledge → Knowledge
reader_knowledge e = record { writer = None; reader = Some e }

abbrev pub writer_knowledge : WriterKnowledge → Knowledge
writer_knowledge p = record { writer = Some p; reader = None }

-- what the first seat knows
abbrev pub first_knowledge : Origin → Knowledge
first_knowledge (Start l start) = writer_knowledge (blank_writer (capacity_of l) start)
first_knowledge (Moved l seat words) =
    writer_knowledge (moved_writer (capacity_of l) words.value.items (writer_of seat.value.me.0))

-- what is left of a seat that was joined to another
abbrev pub no_knowledge : Knowledge
no_knowledge = record { writer = None; reader = None }

-- a reader that the writer's seat parts with
abbrev pub new_reader_knowledge : Knowledge → Knowledge
new_reader_knowledge v =
    reader_knowledge (blank_reader (writer_of v).base (writer_of v).capacity (writer_of v).known)

abbrev pub joined_knowledge : Knowledge → Knowledge → Knowledge
joined_knowledge v w = record { writer = v.writer; reader = w.reader }

abbrev pub writer_alone : Knowledge → Knowledge
writer_alone v = record { writer = v.writer; reader = None }

abbrev pub reader_alone : Knowledge → Knowledge
reader_alone v = record { writer = None; reader = v.reader }

-- a reader that has loaded the sequence s, and then knows these updates
abbrev pub with_sequence : ℕ → List Update → ReaderKnowledge → ReaderKnowledge
with_sequence s known e =
    record e {
      seen = e.seen ++ s ∷ [];
      known = known;
      loads = (0, s) ∷ [];
      ended = e.loads ++ (0, s) ∷ [];
    }

-- and one that has loaded the value x from another word
abbrev pub with_word : ℕ → ℕ → ReaderKnowledge → ReaderKnowledge
with_word w x e = record e { loads = e.loads ++ (w, x) ∷ []; ended = [] }

-- a writer after a load
abbrev pub with_loads : List (ℕ × ℕ) → WriterKnowledge → WriterKnowledge
with_loads loads p = record p { loads = loads }

-- a writer that begins an update
abbrev pub with_update : {K : Type 0} → Order K → Update → WriterKnowledge → WriterKnowledge
with_update o u p =
    record p { accepted = p.known ++ u ∷ []; began = p.picture; old = replay o [] p.known }

-- the updates that are shown after a store of this word: at the second flip all that were accepted
abbrev pub shown_after : ℕ → WriterKnowledge → List Update
shown_after w p = if w == 0 && stable_copy_of (at p.picture 0) == 1 then p.accepted else p.known

-- a writer after a store
abbrev pub with_store : ℕ → ℕ → WriterKnowledge → WriterKnowledge
with_store w x p = record p { picture = slice_set p.picture w x; known = shown_after w p }

-- the last sequence that a reader loaded; before the first, the one of the opening generation
abbrev pub last_or : ℕ → List ℕ → ℕ
last_or n [] = n
last_or n (x ∷ xs) = last_or x xs

abbrev pub last_seen : ReaderKnowledge → ℕ
last_seen e = last_or (2 * e.base) e.seen
