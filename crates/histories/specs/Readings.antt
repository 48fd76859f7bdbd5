-- How a history is read, part by part.
use Rattle.std.specs.Prelude.{◌≡◌, ◌≤◌, ◌<◌, ◌⊎◌, ℕ, ◌+◌, true, List, [], ◌∷◌}
use Rattle.std.specs.Prelude.{length, Option, Some, None, is_some, Result, Ok, Err}
use Rattle.logs.specs.Lines.{lines}
use Rattle.histories.specs.Grammar.{HistoryPart, body_of, first_bad, header_of, parts_of}
use Rattle.histories.specs.ListingLines.{without_end}
use Rattle.histories.specs.declared.grammar.Header.{Header}
use Rattle.histories.specs.declared.history.Body.{Body}

-- the header with which the lines begin
abbrev pub first_header : List (List ℕ) → Option Header
first_header [] = None
first_header (line ∷ more) = header_of (without_end line)

-- nothing comes, or a header
abbrev pub BeginsHeader : List ℕ → Type 0
BeginsHeader text = (text ≡ []) ⊎ (is_some (first_header (lines text)) ≡ true)

-- likewise after a header; before the first anything may come
abbrev pub BeginsPart : Option Header → List ℕ → Type 0
BeginsPart before text = (before ≡ None) ⊎ BeginsHeader text

-- The lines of a text go on as the lines of a rest, with these numbers: what is understood of the
-- text, after one header or before any, is what is understood of the rest after another.
pub record GoesOn (before after : Option Header) (first next : ℕ) (text rest : List ℕ)
    : Type 0 where
  pub bad : first_bad before first (lines text) ≡ first_bad after next (lines rest)
  pub numbered : next + length rest ≤ first + length text
  pub begins : BeginsHeader rest

-- the lines after a header are these, and then it goes on so
pub record GivesBody (header : Header) (first : ℕ) (text : List ℕ) (body : Body) : Type 0 where
  pub body_is : body.text.now ≡ body_of (lines text)
  pub parts : parts_of (lines text) ≡ parts_of (lines body.rest.now)
  pub shorter : length body.rest.now ≤ length text
  pub on : GoesOn (Some header) (Some header) first body.number text body.rest.now

-- so it is, or the first line that is not understood has this number
abbrev pub IsBodyIn : Header → ℕ → List ℕ → Result Body ℕ → Type 0
IsBodyIn header first text (Ok body) = GivesBody header first text body
IsBodyIn header first text (Err n) = first_bad (Some header) first (lines text) ≡ Some n

-- the first part is this, and then it goes on so
pub record GivesPart (before : Option Header) (number : ℕ) (text : List ℕ) (part : HistoryPart)
    (body : Body) : Type 0 where
  pub parts : parts_of (lines text) ≡ part ∷ parts_of (lines body.rest.now)
  pub on : GoesOn before (Some part.header) number body.number text body.rest.now
  pub shorter : length body.rest.now < length text

-- so it is, or the first line that is not understood has this number
abbrev pub IsPartIn : Option Header → ℕ → List ℕ → Result (HistoryPart × Body) ℕ → Type 0
IsPartIn before number text (Ok found) = GivesPart before number text found.0 found.1
IsPartIn before number text (Err n) = first_bad before number (lines text) ≡ Some n
