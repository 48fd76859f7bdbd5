-- The lines that the steps of a trace write, an object of JSON each.
use Rattle.std.specs.Prelude.{ℕ, ◌==◌, if◌then◌else◌, Bool, List, [], ◌∷◌, ◌++◌, codes, flat_map}
use Rattle.std.specs.Prelude.{Option}
use Rattle.std.specs.Option.{option_map_or}
use Rattle.order_laws.specs.declared.items.Item.{Item}
use Rattle.order_laws.specs.declared.refusals.Refusal.{Refusal}
use Rattle.order_laws.specs.Orders.{Order}
use Rattle.order_laws.specs.Refusals.{refusal_number}
use Rattle.word_layout.specs.declared.stores.Store.{Store}
use Rattle.table_updates.specs.declared.updates.Update.{Update}
use Rattle.table_updates.specs.Updates.{erased, inserted}
use Rattle.latch_steps.specs.declared.events.Event.{Event}
use Rattle.latch_steps.specs.declared.events.Event.TheVariants.{Begin, Write, Start, Read}
use Rattle.latch_steps.specs.declared.replies.NextLoad.{NextLoad}
use Rattle.latch_steps.specs.declared.replies.Returned.{Returned}
use Rattle.latch_steps.specs.declared.replies.Reply.{Reply}
use Rattle.latch_steps.specs.declared.replies.Reply.TheVariants.{Begun, Wrote, Started, Loaded}
use Rattle.latch_steps.specs.declared.replies.Reply.TheVariants.{Retried, Refused}
use Rattle.latch_steps.specs.declared.replies.Reply.TheVariants.{Returned as ReturnedReply}
use Rattle.latch_steps.specs.declared.reports.Outcome.{Outcome}
use Rattle.latch_steps.specs.Reports.{outcome_of}
use Rattle.latch_steps.specs.Runs.{Moment, Done}
use Rattle.texts.specs.Exact.{hexadecimal}
use Rattle.run_files.specs.declared.header.Header.{Header}
use Rattle.run_files.specs.declared.header.Version.{Version}
use Rattle.run_files.specs.declared.header.Version.TheVariants.{First, Second, Third}
use Rattle.command_parts.specs.Json.{json_number}
use Rattle.command_parts.specs.JsonTexts.{json_count}
use Rattle.command_traces.specs.declared.step_texts.TheConstants as text

-- a list of values
abbrev pub json_list : {T : Type 0} → (T → List ℕ) → List T → List ℕ
json_list value [] = codes "[]"
json_list value (x ∷ xs) =
    codes "[" ++ value x ++ flat_map (λ y. codes "," ++ value y) xs ++ codes "]"

unfoldable pub json_item : Item → List ℕ
json_item item =
    json_count text.ITEM_A.now item.a ++ json_count text.ITEM_B.now item.b
    ++ json_count text.TAG.now item.tag ++ codes "}"

-- what an update erases, and what it inserts
unfoldable pub update_members : Update → List ℕ
update_members u =
    text.ERASE.now ++ json_list json_number (erased u)
    ++ text.INSERT.now ++ json_list json_item (inserted u)

-- a reader, and the key of its lookup
unfoldable pub reader_members : ℕ → ℕ → List ℕ
reader_members r key =
    json_count text.READER.now r ++ text.ADDRESS.now ++ hexadecimal key ++ codes "\""

-- a word and what it holds
abbrev pub word_members : ℕ → ℕ → List ℕ
word_members word value =
    json_count text.WORD.now word ++ json_count text.VALUE.now value

-- what a reader loads, if it may load something
abbrev pub loaded_word : Option (NextLoad ℕ) → List ℕ
loaded_word load = option_map_or (λ l. word_members l.word l.value) load []

-- a load after which its attempt goes on
unfoldable pub plain_load_members : ℕ → Option (NextLoad ℕ) → List ℕ
plain_load_members r load = json_count text.LOAD.now r ++ loaded_word load

-- the last load of an attempt: its lookup, what it loads, and how many loads and attempts
-- these are
unfoldable pub load_members : ℕ → NextLoad ℕ → List ℕ
load_members r load =
    reader_members r load.key ++ word_members load.word load.value
    ++ json_count text.LOADS.now load.loads ++ json_count text.TRIES.now load.attempts

-- the next load of a reader, if it has one
abbrev pub loaded_members : ℕ → Option (NextLoad ℕ) → List ℕ
loaded_members r load = option_map_or (load_members r) load []

-- the tag of the item that was found, or `null`
abbrev pub json_tag : Option Item → List ℕ
json_tag answer = option_map_or (λ item. json_number item.tag) answer text.NULL.now

-- what a lookup found, and its generation
unfoldable pub answer_members : Returned ℕ → List ℕ
answer_members x =
    text.TAG.now ++ json_tag x.answer ++ json_count text.GENERATION.now x.generation

-- a refusal
unfoldable pub refused_member : Refusal → List ℕ
refused_member why = json_count text.REFUSED.now (refusal_number why)

-- what the writer began
abbrev pub begun_members : Update → Reply ℕ → List ℕ
begun_members u (Begun left) =
    text.BEGIN.now ++ update_members u ++ json_count text.STEPS.now left
begun_members u (Refused why) =
    text.REFUSED_BEGIN.now ++ update_members u ++ refused_member why
begun_members u _ = text.NULL.now

-- what it stored
unfoldable pub stored_members : Store → List ℕ
stored_members s =
    (if s.word == 0 then text.FLIP.now else text.STORED.now) ++ word_members s.word s.value

abbrev pub written_members : Reply ℕ → List ℕ
written_members (Wrote s) = stored_members s
written_members _ = text.NULL.now

-- what a reader began
abbrev pub started_members : ℕ → ℕ → Reply ℕ → List ℕ
started_members r key Started = text.START.now ++ reader_members r key
started_members r key (Refused why) =
    text.REFUSED_START.now ++ reader_members r key ++ refused_member why
started_members r key _ = text.NULL.now

-- what it loaded, and what this came to
abbrev pub read_members : ℕ → Option (NextLoad ℕ) → Reply ℕ → List ℕ
read_members r load Loaded = plain_load_members r load
read_members r load Retried = text.RETRY.now ++ loaded_members r load
read_members r load (ReturnedReply x) =
    text.RETURN.now ++ loaded_members r load ++ answer_members x
read_members r load (Refused why) =
    json_count text.REFUSED_LOAD.now r ++ refused_member why
read_members r load _ = text.NULL.now

-- what was done, from its kind on; `null` if no run has such a reply
abbrev pub done_members : Option (NextLoad ℕ) → Event ℕ → Reply ℕ → List ℕ
done_members load (Begin u) reply = begun_members u reply
done_members load Write reply = written_members reply
done_members load (Start r key) reply = started_members r key reply
done_members load (Read r) reply = read_members r load reply

-- the end of a line
abbrev pub line_end : ℕ → List ℕ
line_end sequence = json_count text.SEQUENCE.now sequence ++ codes "}\n"

-- the line of an event that a command on this line of the trace asked for
unfoldable pub event_text : ℕ → Event ℕ → Outcome ℕ → List ℕ
event_text line e x =
    json_count text.EVENT_NUMBER.now x.number ++ json_count text.LINE.now line
    ++ text.KIND.now ++ done_members x.load e x.reply ++ line_end x.sequence

-- the line of an event that was done at a moment
abbrev pub step_text : Order ℕ → ℕ → ℕ → Moment ℕ → Done ℕ → List ℕ
step_text o n line w d = event_text line d.event (outcome_of o n w d)

-- the lines of all events of a run from a moment
abbrev pub steps_text : Order ℕ → ℕ → ℕ → Moment ℕ → List (Done ℕ) → List ℕ
steps_text o n line w [] = []
steps_text o n line w (d ∷ run) = step_text o n line w d ++ steps_text o n line d.after run

-- the number of a version
abbrev pub version_number : Version → ℕ
version_number First = 1
version_number Second = 2
version_number Third = 3

abbrev pub order_text : Bool → List ℕ
order_text closed = if closed then text.CLOSED.now else text.HALF_OPEN.now

-- the first line: the opening, as event 0
unfoldable pub opening_text : Header → List ℕ
opening_text h =
    json_count text.OPENING.now
    (version_number h.version)
    ++ text.ORDER.now ++ order_text h.closed
    ++ json_count text.CAPACITY.now h.capacity
    ++ json_count text.SEQUENCE.now h.start ++ codes "}\n"
