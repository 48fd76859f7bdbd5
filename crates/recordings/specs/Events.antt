-- What a line of ftrace says of the modules of a kernel.
use Rattle.std.specs.Prelude.{ℕ, ◌==◌, ◌||◌, ◌&&◌, not, Bool, false, if◌then◌else◌, nat_eq, nat_lt}
use Rattle.std.specs.Prelude.{List, [], ◌∷◌, length, take, drop, get_or, codes, Option, Some, None}
use Rattle.std.specs.List.{list_any, starts_with}
use Rattle.std.specs.Option.{option_and_then, option_map, option_or}
use Rattle.logs.specs.Lines.{is_long}
use Rattle.texts.specs.Lines.{words_of}
use Rattle.histories.specs.LineTimes.{is_gap}
use Rattle.histories.specs.ListingLines.{without_end}
use Rattle.histories.specs.Times.{timestamp_in}
use Rattle.histories.specs.declared.times.Timestamp.{Timestamp}
use Rattle.recordings.specs.declared.events.EventKind.{EventKind}
use Rattle.recordings.specs.declared.events.EventKind.TheVariants.{Mark, MarkOf, Loaded, Freed}
use Rattle.recordings.specs.declared.events.EventLine.{EventLine}
use Rattle.recordings.specs.declared.events.TheConstants.{FREED, LOADED, LOST, MARK}
use Rattle.recordings.specs.KernelEvents.{KernelEvent}

-- ---- words

-- what follows this beginning, if the text begins so
abbrev pub after : List ℕ → List ℕ → Option (List ℕ)
after beginning text =
    if starts_with nat_eq text beginning then Some (drop (length beginning) text) else None

-- a text is a word: it has bytes, and no blank and no tab is among them
abbrev pub is_word : List ℕ → Bool
is_word text =
    nat_lt 0 (length text)
    && not (list_any (λ b. b == 32) text || list_any (λ b. b == 9) text)

-- what is before the first blank
abbrev pub first_word : List ℕ → List ℕ
first_word text = get_or (words_of text) 0 []

-- ---- what is told after a time

-- this of the module of this name, if it is a word
abbrev pub named : EventKind → List ℕ → Option (EventKind × List ℕ)
named kind name = if is_word name then Some (kind, name) else None

-- a mark that goes on like this: of all, or of one module
abbrev pub marked : List ℕ → Option (EventKind × List ℕ)
marked [] = Some (Mark, [])
marked (b ∷ name) = if b == 32 then named MarkOf name else None

-- a module was freed, perhaps
abbrev pub freed_by : List ℕ → Option (EventKind × List ℕ)
freed_by text =
    option_and_then (λ rest. named Freed (first_word rest)) (after FREED.now text)

-- a module was loaded, or freed, perhaps
abbrev pub moved_by : List ℕ → Option (EventKind × List ℕ)
moved_by text = elim (after LOADED.now text) [
  | Some rest ↦ named Loaded (first_word rest)
  | None ↦ freed_by text
]

-- what a text says, and its module
abbrev pub told_by : List ℕ → Option (EventKind × List ℕ)
told_by text = elim (after MARK.now text) [
  | Some rest ↦ marked rest
  | None ↦ moved_by text
]

-- ---- the event of a line

abbrev pub event_with : Timestamp → List ℕ → EventKind × List ℕ → KernelEvent
event_with t bytes told = record {
  kind = told.0;
  time = t.nanoseconds;
  time_text = take t.length bytes;
  name = told.1;
}

-- the event whose TIME begins here: after it come `: ` and what it says
abbrev pub event_here : List ℕ → Option KernelEvent
event_here bytes =
    option_and_then (λ t. option_and_then (λ text.
    option_map (event_with t bytes) (told_by text))
    (after (codes ": ") (drop t.length bytes))) (timestamp_in bytes)

-- the first event whose TIME begins here or later, after a blank or tab
abbrev pub event_after : Bool → List ℕ → Option KernelEvent
event_after gap [] = None
event_after gap (b ∷ bytes) =
    option_or (if gap then event_here (b ∷ bytes) else None) (event_after (is_gap b) bytes)

-- the event of a line
abbrev pub event_in : List ℕ → Option KernelEvent
event_in line = event_after false line

-- a line says that events were lost
abbrev pub has_lost : List ℕ → Bool
has_lost [] = false
has_lost (b ∷ bytes) = starts_with nat_eq (b ∷ bytes) LOST.now || has_lost bytes

-- what a line says, which is nothing if it is too long
abbrev pub said_by : List ℕ → EventLine
said_by line =
    if is_long line then record { event = None; is_lost = false }
    else record { event = event_in (without_end line); is_lost = has_lost line }
