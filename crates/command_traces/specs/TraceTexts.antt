-- The lines that a trace writes.
use Rattle.std.specs.Prelude.{ℕ, ◌/◌, List, ◌++◌, Option, codes, decimal}
use Rattle.std.specs.Option.{option_map_or}
use Rattle.texts.specs.Exact.{hexadecimal}
use Rattle.order_laws.specs.declared.items.Item.{Item}
use Rattle.order_laws.specs.Refusals.{refusal_number}
use Rattle.latch_steps.specs.declared.replies.Note.{Note}
use Rattle.latch_steps.specs.declared.replies.Note.TheVariants.{Returned as ReturnedNote, Refused}
use Rattle.latch_steps.specs.declared.replies.Returned.{Returned}
use Rattle.command_traces.specs.declared.trace_texts.TheConstants as text

-- the tag of the item that was found, or `-`
abbrev pub tag_text : Option Item → List ℕ
tag_text answer = option_map_or (λ item. decimal item.tag) answer (codes "-")

-- R ADDR -> TAG
abbrev pub found_text : ℕ → ℕ → Option Item → List ℕ
found_text reader key answer =
    decimal reader ++ codes " " ++ hexadecimal key ++ text.ARROW.now ++ tag_text answer

-- gen J loads S tries T, after a blank
abbrev pub load_counts_text : ℕ → ℕ → ℕ → List ℕ
load_counts_text generation loads attempts =
    text.GENERATION.now ++ decimal generation ++ text.LOADS.now ++ decimal loads
    ++ text.TRIES.now ++ decimal attempts

abbrev pub returned_text : Returned ℕ → List ℕ
returned_text r =
    found_text r.reader r.key r.answer ++ load_counts_text r.generation r.loads r.attempts
    ++ codes "\n"

abbrev pub refused_text : ℕ → List ℕ
refused_text n = text.REFUSED.now ++ decimal n ++ codes "\n"

abbrev pub note_text : Note ℕ → List ℕ
note_text (ReturnedNote returned) = returned_text returned
note_text (Refused refusal) = refused_text (refusal_number refusal)

-- the last line: the sequence, and the generation, which is half of it
abbrev pub end_text : ℕ → List ℕ
end_text sequence =
    text.SEQUENCE.now ++ decimal sequence ++ text.GENERATION.now ++ decimal (sequence / 2)
    ++ codes "\n"
