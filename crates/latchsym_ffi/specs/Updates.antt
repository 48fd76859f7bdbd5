-- The numbers that calls on a writer return.
use Rattle.std.specs.Prelude.{◌≡◌, ℕ, Option, Some, None}
use Rattle.order_laws.specs.declared.items.Item.{Item}
use Rattle.order_laws.specs.declared.refusals.Refusal.{Refusal}
use Rattle.order_laws.specs.Orders.{half_open}
use Rattle.order_laws.specs.Refusals.{refusal_number}
use Rattle.table_updates.specs.declared.updates.Update.{Update}
use Rattle.latch_table.specs.declared.writers.Did.{Did}
use Rattle.latch_table.specs.declared.writers.Did.TheVariants.{Flip, Store}
use Rattle.latch_table.specs.Writers.{Refuses, WriterState}
use Rattle.latchsym_ffi.specs.Answers.{answer_number}
use Rattle.latchsym_ffi.specs.declared.answers.CallOutcome.TheVariants as answer
use Rattle.latchsym_ffi.specs.declared.updates.TableItem.{TableItem}

abbrev pub item_from : TableItem → Item
item_from i = record { a = i.a; b = i.b; tag = i.tag }

-- the number of a step
abbrev pub did_code : Option Did → ℕ
did_code None = answer_number answer.Done
did_code (Some Flip) = answer_number answer.Flip
did_code (Some Store) = answer_number answer.Store

-- the writer refuses an update by the refusal of this number
abbrev pub RefusesAs : WriterState → Update → ℕ → Type 0
RefusesAs w u result = (e : Refusal) × (result ≡ refusal_number e) × Refuses half_open w u e
