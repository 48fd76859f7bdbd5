-- What a parse by the program's command gives.
use Rattle.command_line.proofs.Words.{◌≡◌, ◌∙◌, ◌+◌, ◌<◌, ◌∷◌, ◌||◌, ap, ℕ, List, [], fold}
use Rattle.command_line.proofs.Words.{fold-append, get_or, length, map, map-append, new_app, take}
use Rattle.command_line.proofs.Words.{take_more, Argument, row_of, Option, Some, None, Result, Ok}
use Rattle.command_line.proofs.Words.{Err, true, false, refl, subst, inl, inr, Box, IfOk, box_value}
use Rattle.command_line.proofs.Words.{Some-from_parts, out-ArgMatches, out-SubCommand, SubCommand}
use Rattle.command_line.proofs.Words.{AddsSubcommand, shape_of, with_subcommand, AddsArg, Row}
use Rattle.command_line.proofs.Words.{subcommand_name_of, subcommand_rows, App, Text, rule_of}
use Rattle.command_line.proofs.Words.{with_rule, HasKind, HasMatchesOf, IsAmong, fault_of}
use Rattle.command_line.proofs.Words.{is_simple, is_simple_and_free, kind_of, subcommand_of}
use Rattle.command_line.proofs.Words.{subcommand_rows_of, Error, ArgMatches, Arg, Command}
use Rattle.command_line.proofs.Words.{out-Command, IsCommand, IsPlainArg, latchsym_app}
use Rattle.command_line.proofs.Words.{AnswersMatches, AnswersWords, IsFaultOf, IsUnparsed, Job}
use Rattle.command_line.proofs.Words.{JobFault, CommandLine, OutOfMemory}
use Rattle.clap.proofs.OnLiterals.{clap_on_literals}
use Rattle.std.specs.Prelude.{option_map}
use Rattle.clap.specs.declared.error.kind.ErrorKind.TheVariants as kind

is_simple_latchsym : is_simple latchsym_app ≡ true
unfolding clap_on_literals
is_simple_latchsym = refl

is_free_latchsym : is_simple_and_free latchsym_app ≡ true
unfolding clap_on_literals
is_free_latchsym = refl

among : (words : List Text) (e : Error) → HasKind (fault_of latchsym_app words) e
    → (kind_of e ≡ kind.OutOfMemory → ⊥) → IsAmong (kind_of e) (fault_of latchsym_app words)
among words e (inl memory) other = absurd (other memory)
among words e (inr is) other = is

fails : (words : List Text) (e : Error) (f : JobFault) → IsFaultOf e f
    → HasKind (fault_of latchsym_app words) e → IsUnparsed words (Err f)
fails words e OutOfMemory is has = tt
fails words e (CommandLine shown) is has =
    among words shown (rw is.0 has) is.1
fails words e _ is has = absurd is

-- the answer to an error of the parse
pub answers_error : (a : App) (words : List Text) (e : Error) (f : JobFault) → a ≡ latchsym_app
    → (is_simple_and_free a ≡ true → HasKind (fault_of a words) e) → IsFaultOf e f
    → AnswersWords words (Err f)
answers_error a words e f is kinds says =
    let P : App → Type 0 = λ b. is_simple_and_free b ≡ true → HasKind (fault_of b words) e in
    inr (fails words e f says (subst P is kinds is_free_latchsym))

-- the answer to the matches of a parse
pub answers_matches : (a : App) (words : List Text) (m : ArgMatches) (r : Result Job JobFault) → a
    ≡ latchsym_app → (is_simple_and_free a ≡ true → fault_of a words ≡ []) → HasMatchesOf a words m
    → AnswersMatches (subcommand_rows_of m) r → AnswersWords words r
answers_matches a words m r is none has says =
    let P : App → Type 0 = λ b. is_simple_and_free b ≡ true → fault_of b words ≡ [] in
    let Q : App → Type 0 = λ b. HasMatchesOf b words m in
    let entered : subcommand_rows_of m ≡ subcommand_of latchsym_app words =
    (subst Q is has is_simple_latchsym).1 in
    inl (subst P is none is_free_latchsym, rw entered at says)

-- the command of this name with the arguments of these rows
abbrev pub app_with : Text → List Argument → App
app_with name rows = fold with_rule (new_app name) (map (λ row. row.rule) (map row_of rows))

app_with-more : (name : Text) (rows : List Argument) (i : ℕ) (d : Argument) → i < length rows
    → app_with name (take (i + 1) rows)
    ≡ with_rule (app_with name (take i rows)) (row_of (get_or rows i d)).rule
app_with-more name rows i d lt =
    ap (app_with name) (take_more rows i d lt)
    ∙ ap (λ rs. fold with_rule (new_app name) (map (λ row. row.rule) rs))
    (map-append row_of (take i rows) (get_or rows i d ∷ []))
    ∙ ap (fold with_rule (new_app name))
    (map-append (λ row. row.rule) (map row_of (take i rows)) (row_of (get_or rows i d) ∷ []))
    ∙ fold-append with_rule (new_app name) (map (λ row. row.rule) (map row_of (take i rows)))
    ((row_of (get_or rows i d)).rule ∷ [])

-- a command with the argument of one row more
pub one_more : {old new : Command} {arg : Arg} (name : Text) (rows : List Argument) (i : ℕ)
    (d : Argument) → i < length rows → IsCommand (app_with name (take i rows)) old
    → IsPlainArg (row_of (get_or rows i d)).rule arg
    → AddsArg old arg new → IsCommand (app_with name (take (i + 1) rows)) new
one_more {old = old} {arg = arg} name rows i d lt command is adds =
    rw (app_with-more name rows i d lt) (record {
      shape = adds.shape is.local ∙ ap (λ x. with_rule x (rule_of arg)) command.shape
          ∙ ap (with_rule (app_with name (take i rows))) is.shape;
      local = adds.globals ∙ ap (λ b. (out-Command old).has_globals || b) is.local
          ∙ ap (λ b. b || false) command.local;
    })

-- a command with one subcommand more
subcommand_more : {old new sub : Command} {app of_sub : App} → IsCommand app old
    → IsCommand of_sub sub → AddsSubcommand old sub new
    → IsCommand (with_subcommand app of_sub.top) new
subcommand_more {sub = sub} {app = app} command added adds = record {
  shape = adds.shape added.local ∙ ap (λ x. with_subcommand x (shape_of sub)) command.shape
      ∙ ap (λ x. with_subcommand app x.top) added.shape;
  local = adds.globals ∙ ap (λ b. b || (out-Command sub).has_globals) command.local
      ∙ ap (λ b. false || b) added.local;
}

-- the same where memory may run out
pub subcommand_more_if_ok : {E : Type 0} {old : Command} (r : Result Command E) {sub : Command}
    {app of_sub : App} → IsCommand app old → IsCommand of_sub sub → IfOk r (AddsSubcommand old sub)
    → IfOk r (IsCommand (with_subcommand app of_sub.top))
subcommand_more_if_ok (Ok new) command added adds = subcommand_more command added adds
subcommand_more_if_ok (Err e) command added adds = tt

-- the subcommand that a parse entered, by its name and its matches
named : {Z : Type 0} (o : Option (Box SubCommand Z))
    → option_map (λ b. (out-SubCommand (box_value b)).name.now) o
    ≡ option_map (λ p. p.0) (subcommand_rows o)
named None = refl
named (Some b) = refl

pub entered_is : (m : ArgMatches) (name : Text) (rows : List Row) → Some name ≡ subcommand_name_of m
    → Some rows ≡ option_map (λ p. p.1) (subcommand_rows_of m)
    → subcommand_rows_of m ≡ Some (name, rows)
entered_is m name rows e f =
    Some-from_parts (subcommand_rows_of m) name rows (e ∙ named (out-ArgMatches m).subcommand) f
