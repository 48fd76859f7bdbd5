-- The program's command line: a row for each option and operand, and how `clap` reads them.
use Rattle.std.specs.Prelude.{◌≡◌, ℕ, List, [], ◌∷◌, Option, Some, None, codes, true, false, length}
use Rattle.std.specs.Prelude.{if◌then◌else◌, map, option_map}
use Rattle.std.specs.List.{fold}
use Rattle.std.specs.Str.{bytes_eq}
use Rattle.clap.specs.Lexer.{usize_max}
use Rattle.clap.specs.Words.{App, Rule, Text, app_of, new_app, new_rule, rule_of, with_rule}
use Rattle.clap.specs.Words.{with_subcommand}
use Rattle.clap.specs.Simple.{on_top}
use Rattle.clap.specs.declared.builder.action.ArgAction.TheVariants.{SetTrue}
use Rattle.clap.specs.declared.builder.arg.Arg.{Arg}
use Rattle.clap.specs.declared.builder.command.Command.{Command}
use Rattle.clap.specs.declared.builder.command.Command.TheViews.{out-Command}
use Rattle.command_line.specs.declared.rows.Argument.{Argument}
use Rattle.command_line.specs.declared.rows.Conflict.{Conflict}
use Rattle.command_line.specs.declared.rows.ArgumentKind.{ArgumentKind}
use Rattle.command_line.specs.declared.rows.ArgumentKind.TheVariants.{Flag, Valued, Operand}
use Rattle.command_line.specs.declared.rows.ArgumentKind.TheVariants.{Operands}
use Rattle.command_line.specs.declared.rows.TheConstants as said

-- another argument, and what is said if the two do not go together
pub record Beside : Type 0 where
  pub other : Text
  pub message : Text

-- how an argument is read, the flag that excludes it, the option that it repeats, and the option
-- that it needs
pub record ArgumentRow : Type 0 where
  pub rule : Rule
  pub excluded_by : Option Beside
  pub instead_of : Option Beside
  pub needs : Option Beside

-- ---- a row of the program

abbrev pub with_kind : ArgumentKind → Rule → Rule
with_kind Flag rule = record rule { long = Some rule.id; action = Some SetTrue }
with_kind Valued rule = record rule { long = Some rule.id }
with_kind Operand rule = rule
with_kind Operands rule =
    record rule { range = Some (record { start_inclusive = 1; end_inclusive = usize_max }) }

abbrev pub beside_of : Conflict → Beside
beside_of c = record { other = c.other.now; message = c.message.now }

abbrev pub row_of : Argument → ArgumentRow
row_of a = record {
  rule =
      with_kind a.kind
      (record (new_rule a.name.now) {
        value_names = length a.values.now;
        required = a.is_required;
      });
  excluded_by = option_map beside_of a.excluded_by;
  instead_of = option_map beside_of a.instead_of;
  needs = option_map beside_of a.needs;
}

-- ---- the rows of each command, in the order of its help

-- an argument with this number of values that goes together with all others
abbrev pub plain : ArgumentKind → ℕ → Text → ArgumentRow
plain kind values id = record {
  rule = with_kind kind (record (new_rule id) { value_names = values });
  excluded_by = None;
  instead_of = None;
  needs = None;
}

abbrev pub flag : Text → ArgumentRow
flag = plain Flag 0

abbrev pub option : Text → ArgumentRow
option = plain Valued 1

abbrev pub required : ArgumentRow → ArgumentRow
required row = record row { rule = record row.rule { required = true } }

abbrev pub excluded_by : Text → Text → ArgumentRow → ArgumentRow
excluded_by other message row =
    record row { excluded_by = Some (record { other = other; message = message }) }

abbrev pub instead_of : Text → Text → ArgumentRow → ArgumentRow
instead_of other message row =
    record row { instead_of = Some (record { other = other; message = message }) }

abbrev pub needing : Text → Text → ArgumentRow → ArgumentRow
needing other message row =
    record row { needs = Some (record { other = other; message = message }) }

-- an option that names a listing, so that none is taken from a history
abbrev pub listing : ArgumentRow → ArgumentRow
listing = instead_of (codes "history") said.HISTORY_HAS_LISTINGS.now

-- an option for which modules are listed, so that none come from the symbols
abbrev pub listed : Text → ArgumentRow
listed id =
    listing
    (excluded_by (codes "modules-from-symbols") said.SYMBOLS_HAVE_MODULES.now (option id))

-- --regions FILE and --kernel START END
abbrev pub bounds_rows : List ArgumentRow → List ArgumentRow
bounds_rows rest =
    needing (codes "modules") said.REGIONS_NEED_MODULES.now (listed (codes "regions"))
    ∷ plain Valued 2 (codes "kernel") ∷ rest

-- --history FILE and --at TIME
abbrev pub history_rows : List ArgumentRow → List ArgumentRow
history_rows rest =
    instead_of (codes "listing") said.HISTORY_OR_FILE.now (option (codes "history"))
    ∷ needing (codes "history") said.AT_NEEDS_HISTORY.now (option (codes "at")) ∷ rest

abbrev pub lookup_rows : List ArgumentRow
lookup_rows =
    listed (codes "modules") ∷ listing (option (codes "kallsyms"))
    ∷ bounds_rows (history_rows (flag (codes "modules-from-symbols") ∷ option (codes "addresses")
    ∷ flag (codes "callers") ∷ option (codes "offset") ∷ flag (codes "json")
    ∷ flag (codes "no-counts") ∷ plain Operands 1 (codes "address") ∷ []))

abbrev pub run_rows : List ArgumentRow
run_rows =
    required (option (codes "modules")) ∷ required (option (codes "kallsyms"))
    ∷ bounds_rows
    (required (option (codes "readers")) ∷ required (plain Operand 1 (codes "script")) ∷ [])

abbrev pub annotate_rows : List ArgumentRow
annotate_rows =
    listing (option (codes "kallsyms")) ∷ listed (codes "modules")
    ∷ bounds_rows
    (history_rows
    (excluded_by (codes "exact") said.CALLERS_OR_EXACT.now (flag (codes "callers"))
    ∷ flag (codes "exact") ∷ option (codes "offset")
    ∷ instead_of (codes "history") said.HISTORY_OR_FOLLOW.now (flag (codes "follow"))
    ∷ plain Operand 1 (codes "log") ∷ []))

abbrev pub check_rows : List ArgumentRow
check_rows =
    listed (codes "modules") ∷ listing (option (codes "kallsyms"))
    ∷ bounds_rows
    (history_rows
    (instead_of (codes "kallsyms") said.SYMBOLS_TWICE.now
    (plain Operand 1 (codes "listing")) ∷ []))

abbrev pub address_rows : List ArgumentRow
address_rows =
    listing (option (codes "kallsyms")) ∷ listed (codes "modules")
    ∷ bounds_rows (history_rows (option (codes "offset") ∷ flag (codes "json")
    ∷ flag (codes "no-counts") ∷ required (plain Operands 1 (codes "name")) ∷ []))

abbrev pub record_rows : List ArgumentRow
record_rows =
    listing (option (codes "kallsyms")) ∷ flag (codes "append")
    ∷ required (plain Operand 1 (codes "events")) ∷ []

abbrev pub trace_rows : List ArgumentRow
trace_rows = flag (codes "steps") ∷ required (plain Operand 1 (codes "file")) ∷ []

-- the rows of the command of this name
abbrev pub arguments_of : Text → List ArgumentRow
arguments_of name =
    if bytes_eq name (codes "lookup") then lookup_rows
    else if bytes_eq name (codes "run") then run_rows
    else if bytes_eq name (codes "annotate") then annotate_rows
    else if bytes_eq name (codes "check") then check_rows
    else if bytes_eq name (codes "address") then address_rows
    else if bytes_eq name (codes "record") then record_rows
    else if bytes_eq name (codes "trace") then trace_rows
    else []

-- ---- the parser

-- the command of this name, with the arguments of its rows
abbrev pub command_app : Text → App
command_app name = fold with_rule (new_app name) (map (λ row. row.rule) (arguments_of name))

-- a subcommand has to be given, but for `--version`
abbrev pub top_app : App
top_app =
    on_top (λ s. record s { has_version = true; subcommand_required = true })
    (new_app (codes "latchsym"))

abbrev pub latchsym_app : App
latchsym_app =
    fold (λ app name. with_subcommand app (command_app name).top) top_app
    (codes "annotate" ∷ codes "lookup" ∷ codes "address" ∷ codes "check" ∷ codes "record"
    ∷ codes "trace" ∷ codes "run" ∷ [])

-- the command reads words as `app` does
pub record IsCommand (app : App) (c : Command) : Type 0 where
  pub shape : app_of c ≡ app
  pub local : (out-Command c).has_globals ≡ false

-- the argument is read as `rule` says
pub record IsPlainArg (rule : Rule) (a : Arg) : Type 0 where
  pub shape : rule_of a ≡ rule
  pub local : a.global ≡ false
