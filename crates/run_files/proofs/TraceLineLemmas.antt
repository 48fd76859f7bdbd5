-- What the lines of a trace say of it.
use Rattle.run_files.proofs.Words.{◌≡◌, ℕ, List, [], ◌∷◌, ◌++◌, Option, Some, None, Result, Ok, Err}
use Rattle.run_files.proofs.Words.{MatchResult, refl, inl, inr, Command, one_more, AreEntries}
use Rattle.run_files.proofs.Words.{are_entries, entries_after, entries_from, command_by, header_of}
use Rattle.run_files.specs.declared.header.Header.{Header}
use Rattle.run_files.specs.declared.command_lines.NumberedCommand.{NumberedCommand}
use Rattle.run_files.specs.CommandLines.{GivesCommand, LinesLeft}
use Rattle.run_files.specs.Trace.{contents_with, trace_of_lines, with_header}
use Rattle.run_files.specs.Understood.{IsFirstBad, IsTraceBy}

-- commands before those that lines say which are left, if what was taken is known by its test
pub gone_past : (left rest : LinesLeft) (whole : Result (List (Command ℕ)) ℕ)
    (next : Option NumberedCommand) (taken : NumberedCommand) → next ≡ Some taken
    → GivesCommand left rest (Ok next)
    → (front : List (Command ℕ)) × (entries_after front left.said ≡ whole)
    → (front : List (Command ℕ)) × (entries_after front rest.said ≡ whole)
gone_past left rest whole None taken there gives way = absurd (cc)
gone_past left rest whole (Some x) taken there gives way =
    let (front, is) = way in
    (front ++ x.command ∷ [], one_more front left.said whole is x.command rest.said gives.said)

with_commands : (first : List ℕ) (lines : List (List ℕ)) (header : Header)
    → header_of first ≡ Some header
    → (r : Result (List (Command ℕ)) ℕ) → AreEntries (command_by header.version) 2 lines r
    → MatchResult (with_header header r) (IsTraceBy (first ∷ lines)) (IsFirstBad (first ∷ lines))
with_commands first lines header e (Ok commands) all = (e, all)
with_commands first lines header e (Err n) bad = inr (header, e, bad)

headed_by : (first : List ℕ) (lines : List (List ℕ)) (header : Option Header)
    → header_of first ≡ header
    → MatchResult (contents_with header lines) (IsTraceBy (first ∷ lines))
    (IsFirstBad (first ∷ lines))
headed_by first lines None e = inl (refl, e)
headed_by first lines (Some header) e =
    with_commands first lines header e (entries_from (command_by header.version) 2 lines)
    (are_entries (command_by header.version) 2 lines)

pub trace_by_lines : (lines : List (List ℕ))
    → MatchResult (trace_of_lines lines) (IsTraceBy lines) (IsFirstBad lines)
trace_by_lines [] = refl
trace_by_lines (first ∷ lines) = headed_by first lines (header_of first) refl
