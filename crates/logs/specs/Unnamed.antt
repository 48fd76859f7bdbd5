-- Lines that nothing names, and which lines ask for names.
use Rattle.std.specs.Prelude.{◌≡◌, ℕ, ◌&&◌, not, nat_lt, Bool, false, List, length, None}
use Rattle.std.specs.List.{list_any}
use Rattle.logs.specs.Annotation.{EndsLog, Passes, context_in}
use Rattle.logs.specs.AnnotatedLogs.{first_context, context_over}
use Rattle.logs.specs.Answering.{Answering}
use Rattle.logs.specs.Lines.{has_end, is_long, lines}
use Rattle.logs.specs.TakenWords.{taken_in}
use Rattle.logs.specs.declared.annotator.Annotator.{Annotator}
use Rattle.logs.specs.declared.contexts.LogContext.{LogContext}
use Rattle.logs.specs.declared.log_names.LogNames.{LogNames}

-- nothing has a name
abbrev pub unanswered : Bool → Answering
unanswered narrow = record {
  is_narrow = narrow;
  text = λ caller addr. None;
  is_alias = λ caller addr name. false;
  is_offset = λ caller addr offset. false;
  is_data = λ addr. false;
  has_size = λ name size. None;
  is_in_range = λ addr. false;
}

-- what is counted of names is this
abbrev pub with_names : LogNames → LogContext → LogContext
with_names names context = record context { names = names }

-- what is carried on after lines that nothing names: of their names nothing is counted
abbrev pub context_unnamed : Bool → LogContext → List (List ℕ) → LogContext
context_unnamed narrow context ls =
    with_names context.names (context_over (unanswered narrow) context ls)

-- With these bytes the lines that have their end now are put, and nothing names them.
abbrev pub PassesUnnamed : Bool → Annotator → Annotator → List ℕ → List ℕ → Type 0
PassesUnnamed narrow a a' bytes text =
    (mid : Annotator) × Passes (unanswered narrow) a mid bytes text
    × (a' ≡ record mid { context = with_names (context_in a).names (context_in mid) })

-- If no more bytes come, the open line is put, and nothing names it.
abbrev pub EndsUnnamed : Bool → Annotator → LogNames → List ℕ → Type 0
EndsUnnamed narrow a names text =
    (names ≡ (context_in a).names)
    × (some : LogNames) × EndsLog (unanswered narrow) a some text

-- a line has an address word, and is not too long to be named
abbrev pub has_address : Bool → List ℕ → Bool
has_address narrow line =
    not (is_long line) && nat_lt 0 (length (taken_in narrow first_context line))

-- one of the lines that end among these bytes has an address word
abbrev pub ends_address : Bool → List ℕ → Bool
ends_address narrow bytes =
    list_any (λ line. has_end line && has_address narrow line) (lines bytes)
