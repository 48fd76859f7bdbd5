-- Which lines of a log one listing of a history names.
use Rattle.std.specs.Prelude.{◌≡◌, ℕ, ◌==◌, ◌||◌, ◌&&◌, not, Bool, true, false, filter}
use Rattle.std.specs.Prelude.{List, [], ◌∷◌, ◌++◌, Some}
use Rattle.std.specs.Option.{option_map_or}
use Rattle.logs.specs.Annotation.{IsOpen}
use Rattle.logs.specs.Lines.{has_end, lines, unless_long}
use Rattle.logs.specs.Unnamed.{has_address}
use Rattle.logs.specs.declared.annotator.Annotator.{Annotator}
use Rattle.histories.specs.Grammar.{HistoryPart}
use Rattle.histories.specs.LineTimes.{before_log, time_after}
use Rattle.histories.specs.ListingsAt.{count_at}
use Rattle.command_listings.specs.declared.line_runs.LogTimes.{LogTimes}

-- before the first line
abbrev pub first_times : LogTimes
first_times = record { last = before_log; is_asked = false }

-- after a line: its own time is the last one, if it has one; and it may be the first with an
-- address word while no time is known
abbrev pub times_after : Bool → LogTimes → List ℕ → LogTimes
times_after narrow t line =
    let last = time_after t.last line in
    record {
      last = last;
      is_asked = t.is_asked || (not last.is_known && has_address narrow line);
    }

-- likewise after a line that may be too long to be named: it changes nothing
abbrev pub times_behind : Bool → LogTimes → List ℕ → LogTimes
times_behind narrow t line = option_map_or (times_after narrow t) (unless_long line) t

-- after lines
abbrev pub times_over : Bool → LogTimes → List (List ℕ) → LogTimes
times_over narrow t [] = t
times_over narrow t (line ∷ more) = times_over narrow (times_behind narrow t line) more

-- no line of a log has a time, and one has an address word
abbrev pub is_untimed : LogTimes → Bool
is_untimed t = t.is_asked && not t.last.is_known

-- the lines that have their end among the bytes
abbrev pub ended_in : List ℕ → List (List ℕ)
ended_in bytes = filter has_end (lines bytes)

module _ (parts : List HistoryPart) (narrow : Bool) (count : ℕ) where
  -- after these times the listing after this many parts is the one at the last time
  abbrev pub is_at : LogTimes → Bool
  is_at t = count == count_at (Some t.last.nanoseconds) parts

  -- It may name a line: it is the one at the line's time, or the line has no address word, or is
  -- too long to be named.
  abbrev pub may_name : LogTimes → List ℕ → Bool
  may_name t line =
      option_map_or (λ l. is_at (times_after narrow t l) || not (has_address narrow l))
      (unless_long line) true

  -- it may name each of these lines
  abbrev pub may_name_all : LogTimes → List (List ℕ) → Bool
  may_name_all t [] = true
  may_name_all t (line ∷ more) = may_name t line && may_name_all (times_behind narrow t line) more

  -- it may name these lines, and these are the times after them
  abbrev pub IsRun : LogTimes → LogTimes → List (List ℕ) → Type 0
  IsRun t t' ls = (may_name_all t ls ≡ true) × (t' ≡ times_over narrow t ls)

  -- so it is with the lines that have their end in bytes after a line that is open
  abbrev pub IsRunAfter : Annotator → LogTimes → LogTimes → List ℕ → Type 0
  IsRunAfter a t t' bytes =
      (line : List ℕ) → IsOpen a line → IsRun t t' (ended_in (line ++ bytes))
