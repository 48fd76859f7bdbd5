-- What lookups return.
use Rattle.std.specs.Prelude.{◌≡◌, ℕ, List, Option, Some, None}
use Rattle.order_laws.specs.declared.items.Item.{Item}
use Rattle.order_laws.specs.Orders.{half_open}
use Rattle.latch_table.specs.Readers.{ReaderState}
use Rattle.latch_table.specs.Memory.{Looked, memory_after}
use Rattle.latch_table.specs.declared.readers.Try.{Try}
use Rattle.latch_table.specs.declared.readers.Try.TheVariants.{Answered, Retry}
use Rattle.modules.specs.Entries.{CatalogEntries}
use Rattle.latchsym_ffi.specs.Answers.{answer_number}
use Rattle.latchsym_ffi.specs.declared.answers.CallOutcome.TheVariants as answer
use Rattle.latchsym_ffi.specs.declared.finding.CatalogAnswer.{CatalogAnswer}
use Rattle.latchsym_ffi.specs.declared.lookups.TableAnswer.{TableAnswer}
use Rattle.latchsym_ffi.specs.Finding.{answer_of, copied, known_code, known_in, owner_named}
use Rattle.latchsym_ffi.specs.Finding.{symbol_named}

-- a lookup of a reader: by memory or by an attempt, and it remembers the item that was found
pub record LooksUp (addr : ℕ) (r r' : ReaderState) (t : Try) : Type 0 where
  pub place : r'.place ≡ r.place
  pub looked : Looked half_open addr r.memory r.knowledge r'.knowledge t
  pub memory : r'.memory ≡ memory_after r.memory t

-- an item and a generation, as they are written; without an item all numbers are 0
abbrev pub answer_from : Option Item → ℕ → TableAnswer
answer_from None g = record { a = 0; b = 0; tag = 0; generation = g }
answer_from (Some i) g = record { a = i.a; b = i.b; tag = i.tag; generation = g }

-- the number of what was found
abbrev pub found_code : Option Item → ℕ
found_code None = answer_number answer.Nothing
found_code (Some i) = answer_number answer.Done

-- the number of a lookup
abbrev pub try_code : Try → ℕ
try_code (Answered x g) = found_code x
try_code Retry = answer_number answer.Retry

-- what a lookup writes; nothing if another is to be made
abbrev pub Shows : Try → TableAnswer → TableAnswer → Type 0
Shows (Answered x g) old new = new ≡ answer_from x g
Shows Retry old new = new ≡ old

-- the number of a lookup with a name: of what is known, or that another is to be made
abbrev pub name_code : CatalogEntries → ℕ → Try → ℕ
name_code c addr (Answered x g) = known_code (known_in c addr x)
name_code c addr Retry = answer_number answer.Retry

-- what a lookup with a name writes of the symbol
abbrev pub Names : CatalogEntries → ℕ → Try → CatalogAnswer → CatalogAnswer → Type 0
Names c addr (Answered x g) old new = new ≡ answer_of c (known_in c addr x)
Names c addr Retry old new = new ≡ old

-- and of its name and its module's, in rooms for them
abbrev pub Copies : CatalogEntries → ℕ → Try → List ℕ → List ℕ → List ℕ → List ℕ → Type 0
Copies c addr (Answered x g) name name' owner owner' =
    (name' ≡ copied (symbol_named (known_in c addr x)) name)
    × (owner' ≡ copied (owner_named c (known_in c addr x)) owner)
Copies c addr Retry name name' owner owner' = (name' ≡ name) × (owner' ≡ owner)
