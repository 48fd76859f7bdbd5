-- What is said of names with `*` or `?` if none of the names that are asked for has a symbol.
use Rattle.std.specs.Prelude.{◌≡◌, ℕ, ◌==◌, ◌||◌, Bool, List, [], ◌++◌, Option, Some, None}
use Rattle.std.specs.Prelude.{if◌then◌else◌, find, map}
use Rattle.std.specs.List.{list_any}
use Rattle.clap.specs.Words.{Text}
use Rattle.texts.specs.declared.output.Output.{Output}
use Rattle.texts.specs.Output.{Says}
use Rattle.command_listings.specs.NoteTexts.{note_head}
use Rattle.command_line.specs.declared.requests.Job.{Job}
use Rattle.command_line.specs.declared.requests.Job.TheVariants as job
use Rattle.command_line.specs.declared.requests.Subcommand.{Subcommand}
use Rattle.command_line.specs.declared.requests.Subcommand.TheVariants.{Address}
use Rattle.latchsym.specs.declared.wildcards.TheConstants as text

abbrev pub has_wildcard : Text → Bool
has_wildcard name = list_any (λ b. b == 42) name || list_any (λ b. b == 63) name

-- the names whose addresses a subcommand asks for
abbrev pub asked_by : Subcommand → List Text
asked_by (Address a) = map (λ n. n.now) a.names.items
asked_by _ = []

-- those that a job asks for
abbrev pub asked_in : Job → List Text
asked_in (job.Request request) = asked_by request.subcommand
asked_in _ = []

-- the first of them with `*` or `?`, if the job's status says that none has a symbol
abbrev pub wildcard_in : ℕ → Job → Option Text
wildcard_in status asked = if status == 1 then find has_wildcard (asked_in asked) else None

abbrev pub wildcard_line : Text → List ℕ
wildcard_line name = note_head name ++ text.NO_WILDCARDS.now

-- this was said of a name, or nothing if there is none
abbrev pub IsWildcardNoted : {D : Type 0} → (D → Option (List ℕ)) → Output D → Output D
    → Option Text → Type 0
IsWildcardNoted contents old new None = new ≡ old
IsWildcardNoted contents old new (Some name) = Says contents old new (wildcard_line name)
