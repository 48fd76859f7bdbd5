-- What a trace says: the header and the commands, or the number of the first line that is not in
-- the grammar.
use Rattle.std.specs.Prelude.{ℕ, List, [], ◌∷◌, Option, Some, None, Result, Ok, Err, drop}
use Rattle.latch_steps.specs.declared.commands.Command.{Command}
use Rattle.run_files.specs.declared.header.Header.{Header}
use Rattle.texts.specs.Lines.{lines_of}
use Rattle.texts.specs.Said.{entries_from, said_lines}
use Rattle.run_files.specs.Commands.{command_by}
use Rattle.run_files.specs.Header.{header_of}

-- what a trace says
pub record Contents : Type 0 where
  pub header : Header
  pub commands : List (Command ℕ)

-- a header, and then the commands that are said
abbrev pub with_header : Header → Result (List (Command ℕ)) ℕ → Result Contents ℕ
with_header header (Ok commands) = Ok (record { header = header; commands = commands })
with_header header (Err n) = Err n

-- what the later lines say, if the first is this header
abbrev pub contents_with : Option Header → List (List ℕ) → Result Contents ℕ
contents_with None lines = Err 1
contents_with (Some header) lines =
    with_header header (entries_from (command_by header.version) 2 lines)

-- line 1 is the header, even if there is no line
abbrev pub trace_of_lines : List (List ℕ) → Result Contents ℕ
trace_of_lines [] = Err 1
trace_of_lines (first ∷ lines) = contents_with (header_of first) lines

abbrev pub trace_of : List ℕ → Result Contents ℕ
trace_of bytes = trace_of_lines (lines_of bytes)

-- the numbers of the lines of its commands: the ones after line 1 that are neither empty nor
-- comments
abbrev pub command_lines : List ℕ → List ℕ
command_lines bytes = said_lines 2 (drop 1 (lines_of bytes))
