-- The words that the proofs of this crate use, of whatever crate.
pub use Rattle.std.proofs.Common.{Bool, Err, List, None, Ok, Option, Result, Some, [], ap, arith}
pub use Rattle.std.proofs.Common.{codes, cond, drop, false, get_or, inl, inr, insert, length, map}
pub use Rattle.std.proofs.Common.{nat_eq, option_map, refl, rules, subst, sym, take, tests, true, ℕ}
pub use Rattle.std.proofs.Common.{◌&&◌, ◌++◌, ◌+◌, ◌<◌, ◌||◌, ◌∙◌, ◌∷◌, ◌≡◌}
pub use Rattle.std.proofs.lemmas.Bool.{false≢true}
pub use Rattle.std.proofs.lemmas.Bool.Decides.{nat_tests}
pub use Rattle.std.proofs.lemmas.Grind.{common_steps}
pub use Rattle.std.proofs.lemmas.Iterator.Adapters.{position_from-zero}
pub use Rattle.std.proofs.lemmas.List.{get_or-map, map-append, take-append-drop, take_all}
pub use Rattle.std.proofs.lemmas.List.{take_more}
pub use Rattle.std.proofs.lemmas.List.Elements.{filter_map-append}
pub use Rattle.std.proofs.lemmas.List.Folds.{find-append}
pub use Rattle.std.proofs.lemmas.List.Quantifiers.{position-Some}
pub use Rattle.std.proofs.lemmas.List.Sums.{fold-append}
pub use Rattle.std.specs.Borrow.{Bor}
pub use Rattle.std.specs.Box.{box_value}
pub use Rattle.std.specs.List.{filter_map, fold, position_from}
pub use Rattle.std.specs.Option.{UnwrapsOrElse, option_map_or, option_or}
pub use Rattle.std.specs.Prelude.{Box, not, IfOk, find, is_none, is_some, option_and_then, position}
pub use Rattle.std.specs.Prelude.{slice_get, slice_index_or}
pub use Rattle.clap.proofs.WalkLemmas.{first_value-rows, raw_values-rows}
pub use Rattle.clap.specs.Built.{AddsSubcommand}
pub use Rattle.clap.specs.Simple.{shape_of, with_subcommand}
pub use Rattle.clap.specs.Words.{AddsArg, App, HasKind, HasMatchesOf, IsAmong, Row, Text, fault_of}
pub use Rattle.clap.specs.Words.{found_of, is_simple, is_simple_and_free, kind_of, new_app, rows_of}
pub use Rattle.clap.specs.Words.{rule_of, subcommand_name_of, subcommand_of, subcommand_rows}
pub use Rattle.clap.specs.Words.{subcommand_rows_of, with_rule}
pub use Rattle.clap.specs.declared.builder.arg.Arg.{Arg}
pub use Rattle.clap.specs.declared.builder.command.Command.{Command}
pub use Rattle.clap.specs.declared.builder.command.Command.TheViews.{out-Command}
pub use Rattle.clap.specs.declared.error.Error.{Error}
pub use Rattle.clap.specs.declared.parser.matches.ArgMatches.{ArgMatches}
pub use Rattle.clap.specs.declared.parser.matches.ArgMatches.TheViews.{out-ArgMatches}
pub use Rattle.clap.specs.declared.parser.matches.ArgMatches.TheViews.{out-SubCommand}
pub use Rattle.clap.specs.declared.parser.matches.SubCommand.{SubCommand}
pub use Rattle.facts.proofs.Lists.{map-insert}
pub use Rattle.facts.proofs.Options.{Some-from_parts}
pub use Rattle.command_line.specs.CommandLine.{IsCommand, IsPlainArg, latchsym_app, row_of}
pub use Rattle.command_line.specs.Jobs.{AnswersMatches, AnswersWords, Gives, IsFaultOf, IsUnparsed}
pub use Rattle.command_line.specs.Jobs.{conflict_of, is_no_address, rows_in}
pub use Rattle.command_line.specs.Operands.{ends_options, is_kernel_name, operand_place}
pub use Rattle.command_line.specs.declared.requests.Job.{Job}
pub use Rattle.command_line.specs.declared.requests.JobFault.{JobFault}
pub use Rattle.command_line.specs.declared.requests.JobFault.TheVariants.{CommandLine, OutOfMemory}
pub use Rattle.command_line.specs.declared.rows.Argument.{Argument}
pub use Rattle.listing.specs.Addresses.{address_of_text}
