-- The lines that a run of a script writes.
use Rattle.std.specs.Prelude.{ℕ, ◌+◌, ◌-◌, ◌*◌, ◌^◌, List, [], ◌++◌, codes, decimal, flat_map}
use Rattle.std.specs.Prelude.{length, min, sum_by, Ok, Err}
use Rattle.std.specs.Global.{Vec}
use Rattle.std.specs.List.{range_with_len, zip}
use Rattle.texts.specs.Exact.{hexadecimal}
use Rattle.modules.specs.Entries.{CatalogEntries}
use Rattle.order_laws.specs.Refusals.{refusal_number}
use Rattle.shared_lookup.specs.Servings.{ChangeOutcome}
use Rattle.shared_lookup.specs.declared.served.Answer.{Answer}
use Rattle.shared_lookup.specs.declared.served.Served.{Served}
use Rattle.listing.specs.AddressRules.{as_given}
use Rattle.listing.specs.Answers.{answer_text_by}
use Rattle.command_tables.specs.LookupTexts.{count_text}
use Rattle.command_tables.specs.declared.run_texts.TheConstants as text

-- `refused W N NAME` for a change that was refused, nothing for one that was accepted
unfoldable pub change_text : ℕ → List ℕ × ChangeOutcome → List ℕ
change_text writer (name, Ok generation) = []
change_text writer (name, Err refusal) =
    count_text text.REFUSED.now writer ++ count_text (codes " ") (refusal_number refusal)
    ++ codes " " ++ name ++ codes "\n"

-- the changes of a writer, of modules of these names
abbrev pub writer_text : ℕ → List (List ℕ) → List ChangeOutcome → List ℕ
writer_text writer names outcomes = flat_map (change_text writer) (zip names outcomes)

-- the names and outcomes of a writer, by its number
abbrev pub numbered_text : ℕ × (Vec (List ℕ) × Vec ChangeOutcome) → List ℕ
numbered_text (writer, (names, outcomes)) = writer_text writer names.items outcomes.items

-- the changes of each writer, the first being number 1
abbrev pub refusals_text : List (Vec (List ℕ)) → List (Vec ChangeOutcome) → List ℕ
refusals_text names outcomes =
    flat_map numbered_text (zip (range_with_len 1 (length names)) (zip names outcomes))

-- `R ADDR -> TEXT gen J`
unfoldable pub answered_text : CatalogEntries → Answer → List ℕ
answered_text c a =
    decimal (a.reader + 1) ++ codes " " ++ hexadecimal a.key ++ text.ARROW.now
    ++ answer_text_by c as_given a.item a.key ++ count_text text.GENERATION.now a.generation
    ++ codes "\n"

-- the answers of a reader
abbrev pub answers_text : CatalogEntries → Vec Answer → List ℕ
answers_text c answers = flat_map (answered_text c) answers.items

-- the greatest u64
abbrev pub greatest_count : ℕ
greatest_count = 2 ^ 64 - 1

-- how many answers there are in all lists; it stays at the greatest u64
abbrev pub count_of_answers : List (Vec Answer) → ℕ
count_of_answers answers = min (sum_by (λ list. length list.items) answers) greatest_count

-- `checked C wrong D seq K gen J`: the sequence is twice the number of updates
unfoldable pub totals_text : ℕ → ℕ → ℕ → List ℕ
totals_text checked wrong updates =
    count_text text.CHECKED.now checked ++ count_text text.WRONG.now wrong
    ++ count_text text.SEQUENCE.now (min (updates * 2) greatest_count)
    ++ count_text text.GENERATION.now updates ++ codes "\n"

-- the refused changes of each writer, the answers of each reader, and how many there are
abbrev pub run_text : CatalogEntries → List (Vec (List ℕ)) → Served → List ℕ
run_text c names served =
    refusals_text names served.changes.items ++ flat_map (answers_text c) served.answers.items
    ++ totals_text (count_of_answers served.answers.items) served.wrong (length served.log.items)
