-- The time of a line of a log.
use Rattle.std.specs.Prelude.{ℕ, ◌==◌, ◌||◌, ◌&&◌, Bool, true, false, if◌then◌else◌}
use Rattle.std.specs.Prelude.{List, [], ◌∷◌, drop, Option, Some, None}
use Rattle.std.specs.Option.{option_and_then, option_map_or, option_or}
use Rattle.histories.specs.Times.{timestamp_in}
use Rattle.histories.specs.declared.line_times.Before.{Before}
use Rattle.histories.specs.declared.line_times.LogTime.{LogTime}

-- a blank or a tab
abbrev pub is_gap : ℕ → Bool
is_gap b = b == 32 || b == 9

-- before the first byte of a line
abbrev pub before_line : Before
before_line = record { is_first = true; is_gap = true; is_open = false }

-- after a byte that is no gap and no bracket, as a `.` is
abbrev pub after_point : Before
after_point = record { is_first = false; is_gap = false; is_open = false }

-- before the next place, if this byte is between
abbrev pub before_next : Before → ℕ → Before
before_next before b =
    record {
      is_first = before.is_first && is_gap b;
      is_gap = is_gap b;
      is_open = b == 91 || (before.is_open && b == 32);
    }

-- a TIME may end before these bytes: at the `]` of its brackets, at a `:` if a gap is before it,
-- and as the first word at a gap or the end of the line
abbrev pub may_end : Before → List ℕ → Bool
may_end before [] = before.is_first
may_end before (b ∷ rest) =
    (before.is_open && b == 93) || (before.is_gap && b == 58)
    || (before.is_first && (is_gap b || b == 13 || b == 10))

-- the time that begins here, with 6 or 9 decimals
abbrev pub time_here : Before → List ℕ → Option ℕ
time_here before bytes =
    option_and_then (λ t.
    if (t.decimals == 6 || t.decimals == 9) && may_end before (drop t.length bytes)
    then Some t.nanoseconds else None) (timestamp_in bytes)

-- the first time that begins here or later
abbrev pub first_time : Before → List ℕ → Option ℕ
first_time before [] = None
first_time before (b ∷ bytes) =
    option_or (if before.is_gap || before.is_open then time_here before (b ∷ bytes) else None)
    (first_time (before_next before b) bytes)

-- the time that a line has itself
abbrev pub line_time : List ℕ → Option ℕ
line_time line = first_time before_line line

-- before the first line of a log
abbrev pub before_log : LogTime
before_log = record { nanoseconds = 0; is_known = false }

-- a line has its own time, or else the one of the line before
abbrev pub time_after : LogTime → List ℕ → LogTime
time_after before line =
    option_map_or (λ time. record { nanoseconds = time; is_known = true }) (line_time line) before
